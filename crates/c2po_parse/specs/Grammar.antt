use Rattle.std.specs.Prelude.{◌≡◌, ℕ, List, [], ◌∷◌, ◌++◌, Option, Some, None, map, codes}
use Rattle.mltl_base.specs.declared.interval.Engine.{Engine}
use Rattle.c2po_lexer.specs.declared.token.Sign.{Sign}
use Rattle.c2po_lexer.specs.declared.token.Sign.TheVariants as sign
use Rattle.c2po_lexer.specs.declared.token.Keyword.{Keyword}
use Rattle.c2po_lexer.specs.declared.token.Keyword.TheVariants as keyword
use Rattle.c2po_lexer.specs.declared.token.What.TheVariants as what
use Rattle.c2po_lexer.specs.declared.token.Token.{Token}
use Rattle.c2po_ast.specs.Shape.{Shape}
use Rattle.c2po_ast.specs.ItemShape.{TypeShape, FieldShape, BodyShape, type_named, set_of, structure, input, define}
use Rattle.c2po_ast.specs.ItemShape.{formula, contract}
use Rattle.c2po_parse.specs.Splitting.{parsed_tree}
use Rattle.c2po_parse.specs.declared.section.Section.{Section}
use Rattle.c2po_parse.specs.declared.section.Section.TheVariants.{Struct, Input, Define, Output}

-- The grammar of items. Each rule relates the tokens of a form to the shape that they spell.

-- the token is this sign
abbrev pub IsSign : Sign → Token → Type 0
IsSign s t = t.what ≡ what.Sign s

-- the token is this reserved word
abbrev pub IsReserved : Keyword → Token → Type 0
IsReserved k t = t.what ≡ what.Reserved k

-- the token is this name
abbrev pub IsNamed : List ℕ → Token → Type 0
IsNamed x t = t.what ≡ what.Word x

-- the tokens spell the type: a name, `bool`, `int`, or `set` `<` type `>`
pub data SpellsType : List Token → TypeShape → Type 0 where
  name_type : (t : Token) (x : List ℕ) → IsNamed x t → SpellsType (t ∷ []) (type_named x)
  bool_type : (t : Token) → IsReserved keyword.Bool t → SpellsType (t ∷ []) (type_named (codes "bool"))
  int_type : (t : Token) → IsReserved keyword.Int t → SpellsType (t ∷ []) (type_named (codes "int"))
  set_type : (t less : Token) (ts : List Token) (greater : Token) (k : TypeShape) →
      IsReserved keyword.Set t → IsSign sign.Less less → SpellsType ts k → IsSign sign.Greater greater →
      SpellsType (t ∷ less ∷ (ts ++ greater ∷ [])) (set_of k)

-- the tokens spell the names: one or more names with commas between them
pub data SpellNames : List Token → List (List ℕ) → Type 0 where
  one_name : (t : Token) (x : List ℕ) → IsNamed x t → SpellNames (t ∷ []) (x ∷ [])
  and_names : (t comma : Token) (ts : List Token) (x : List ℕ) (xs : List (List ℕ)) →
      IsNamed x t → IsSign sign.Comma comma → SpellNames ts xs → SpellNames (t ∷ comma ∷ ts) (x ∷ xs)

-- the tokens spell the names and their type: names `:` type
pub record SpellTyped (ts : List Token) (xs : List (List ℕ)) (k : TypeShape) : Type 0 where
  pub names : List Token
  pub colon : Token
  pub kind : List Token
  pub all : ts ≡ names ++ colon ∷ kind
  pub are_names : SpellNames names xs
  pub is_colon : IsSign sign.Colon colon
  pub is_type : SpellsType kind k

-- a field for each name
abbrev pub fields_for : List (List ℕ) → TypeShape → List FieldShape
fields_for xs k = map (λ x. record { name = x; kind = k }) xs

-- the tokens spell the fields: one or more of names `:` type `;`
pub data SpellFields : List Token → List FieldShape → Type 0 where
  one_list : (ts : List Token) (semicolon : Token) (xs : List (List ℕ)) (k : TypeShape) →
      SpellTyped ts xs k → IsSign sign.Semicolon semicolon → SpellFields (ts ++ semicolon ∷ []) (fields_for xs k)
  and_lists : (ts : List Token) (semicolon : Token) (us : List Token) (xs : List (List ℕ)) (k : TypeShape)
      (fs : List FieldShape) →
      SpellTyped ts xs k → IsSign sign.Semicolon semicolon → SpellFields us fs →
      SpellFields (ts ++ semicolon ∷ us) (fields_for xs k ++ fs)

-- the tokens spell the label: nothing, or name `:`
pub data SpellsLabel : List Token → Option (List ℕ) → Type 0 where
  no_label : SpellsLabel [] None
  is_label : (t colon : Token) (x : List ℕ) → IsNamed x t → IsSign sign.Colon colon →
      SpellsLabel (t ∷ colon ∷ []) (Some x)

-- The tokens of an item of a section, without the `;` that ends it, spell the body. The tree of an expression is the tree
-- that splitting finds for its tokens.
pub data SpellsItem : Section → List Token → BodyShape → Type 0 where
  -- STRUCT: name `:` `{` fields `}`
  is_struct : (t colon left : Token) (ts : List Token) (right : Token) (x : List ℕ) (fs : List FieldShape) →
      IsNamed x t → IsSign sign.Colon colon →
      IsSign sign.LeftCurly left → SpellFields ts fs → IsSign sign.RightCurly right →
      SpellsItem Struct (t ∷ colon ∷ left ∷ (ts ++ right ∷ [])) (structure x fs)
  -- INPUT: names `:` type
  is_input : (ts : List Token) (xs : List (List ℕ)) (k : TypeShape) →
      SpellTyped ts xs k → SpellsItem Input ts (input xs k)
  -- DEFINE: name `:=` expression
  is_define : (t becomes : Token) (ts : List Token) (x : List ℕ) (e : Shape) →
      IsNamed x t → IsSign sign.Becomes becomes → parsed_tree ts ≡ Some e →
      SpellsItem Define (t ∷ becomes ∷ ts) (define x e)
  -- FTSPEC and PTSPEC: label expression
  is_formula : (engine : Engine) (ls ts : List Token) (name : Option (List ℕ)) (e : Shape) →
      SpellsLabel ls name → parsed_tree ts ≡ Some e → SpellsItem (Output engine) (ls ++ ts) (formula engine name e)
  -- or label expression `=>` expression
  is_contract : (engine : Engine) (ls ts : List Token) (promises : Token) (us : List Token) (name : Option (List ℕ))
      (e f : Shape) →
      SpellsLabel ls name → parsed_tree ts ≡ Some e → IsSign sign.Promises promises → parsed_tree us ≡ Some f →
      SpellsItem (Output engine) (ls ++ (ts ++ promises ∷ us)) (contract engine name e f)
