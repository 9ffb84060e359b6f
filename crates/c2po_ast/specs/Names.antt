use Rattle.std.specs.Prelude.{ℕ, List, [], ◌∷◌, Option, Some, None, ⊤}
use Rattle.std.specs.List.{AllPass}
use Rattle.mltl_base.specs.Letters.{is_in_word}
use Rattle.c2po_ast.specs.Shape.{Shape, Shapes, number, truth, named, build, group, pick, minus, negation, arith}
use Rattle.c2po_ast.specs.Shape.{compare, logic, window, between, each, exists, count, none, more}
use Rattle.c2po_ast.specs.ItemShape.{TypeShape, FieldShape, BodyShape, ItemShape, type_named, set_of, structure, input}
use Rattle.c2po_ast.specs.ItemShape.{define, formula, contract}

-- the name consists of ASCII letters, digits and `_`
abbrev pub IsPlainName : List ℕ → Type 0
IsPlainName x = AllPass is_in_word x

-- every name in the tree consists of ASCII letters, digits and `_`
abbrev mutual
  pub HasPlainNames : Shape → Type 0
  HasPlainNames (number line n) = ⊤
  HasPlainNames (truth line b) = ⊤
  HasPlainNames (named line x) = IsPlainName x
  HasPlainNames (build line x es) = IsPlainName x × HavePlainNames es
  HasPlainNames (group line es) = HavePlainNames es
  HasPlainNames (pick line e x) = HasPlainNames e × IsPlainName x
  HasPlainNames (minus line e) = HasPlainNames e
  HasPlainNames (negation line e) = HasPlainNames e
  HasPlainNames (arith line op e f) = HasPlainNames e × HasPlainNames f
  HasPlainNames (compare line op e f) = HasPlainNames e × HasPlainNames f
  HasPlainNames (logic line op e f) = HasPlainNames e × HasPlainNames f
  HasPlainNames (window line op a b e) = HasPlainNames e
  HasPlainNames (between line op a b e f) = HasPlainNames e × HasPlainNames f
  HasPlainNames (each line x s e) = IsPlainName x × (HasPlainNames s × HasPlainNames e)
  HasPlainNames (exists line x s e) = IsPlainName x × (HasPlainNames s × HasPlainNames e)
  HasPlainNames (count line op x s n e) = IsPlainName x × (HasPlainNames s × HasPlainNames e)

  pub HavePlainNames : Shapes → Type 0
  HavePlainNames none = ⊤
  HavePlainNames (more e es) = HasPlainNames e × HavePlainNames es

-- every name in the type consists of ASCII letters, digits and `_`
abbrev pub HasPlainType : TypeShape → Type 0
HasPlainType (type_named x) = IsPlainName x
HasPlainType (set_of k) = HasPlainType k

-- every name in the fields consists of ASCII letters, digits and `_`
abbrev pub ArePlainFields : List FieldShape → Type 0
ArePlainFields [] = ⊤
ArePlainFields (f ∷ fs) = (IsPlainName f.name × HasPlainType f.kind) × ArePlainFields fs

-- every name of the list consists of ASCII letters, digits and `_`
abbrev pub ArePlain : List (List ℕ) → Type 0
ArePlain [] = ⊤
ArePlain (x ∷ xs) = IsPlainName x × ArePlain xs

-- the label, if there is one, consists of ASCII letters, digits and `_`
abbrev pub IsPlainLabel : Option (List ℕ) → Type 0
IsPlainLabel None = ⊤
IsPlainLabel (Some x) = IsPlainName x

-- every name in the body of an item consists of ASCII letters, digits and `_`
abbrev pub IsPlainBody : BodyShape → Type 0
IsPlainBody (structure x fs) = IsPlainName x × ArePlainFields fs
IsPlainBody (input xs k) = ArePlain xs × HasPlainType k
IsPlainBody (define x e) = IsPlainName x × HasPlainNames e
IsPlainBody (formula engine label e) = IsPlainLabel label × HasPlainNames e
IsPlainBody (contract engine label e f) = IsPlainLabel label × (HasPlainNames e × HasPlainNames f)

-- every name in the items consists of ASCII letters, digits and `_`
abbrev pub ArePlainItems : List ItemShape → Type 0
ArePlainItems [] = ⊤
ArePlainItems (i ∷ is) = IsPlainBody i.body × ArePlainItems is
