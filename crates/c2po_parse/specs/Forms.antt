use Rattle.std.specs.Prelude.{ℕ, zero, suc, ◌+◌, Bool, ◌&&◌, List, [], ◌∷◌, ◌++◌, length, take, drop, codes}
use Rattle.std.specs.Prelude.{Option, Some, None, is_some, option_map, nat_eq, if◌then◌else◌}
use Rattle.mltl_base.specs.declared.interval.Engine.{Engine}
use Rattle.c2po_lexer.specs.declared.token.Sign.TheVariants as sign
use Rattle.c2po_lexer.specs.declared.token.Keyword.TheVariants as keyword
use Rattle.c2po_lexer.specs.declared.token.What.{What}
use Rattle.c2po_lexer.specs.declared.token.What.TheVariants as what
use Rattle.c2po_lexer.specs.declared.token.Token.{Token}
use Rattle.c2po_ast.specs.ItemShape.{TypeShape, FieldShape, BodyShape, type_named, set_of, structure, input, define}
use Rattle.c2po_ast.specs.ItemShape.{formula, contract}
use Rattle.c2po_parse.specs.Tokens.{is_sign, depth_after}
use Rattle.c2po_parse.specs.Fronts.{◌>>=◌, past, name_at}
use Rattle.c2po_parse.specs.Grammar.{fields_for}
use Rattle.c2po_parse.specs.Splitting.{parsed_tree, at_end}
use Rattle.c2po_parse.specs.declared.section.Section.{Section}
use Rattle.c2po_parse.specs.declared.section.Section.TheVariants.{Struct, Input, Define, Output}

-- The forms of items, section by section.

-- a reading of the type at the front
abbrev pub TypeReads : Type 0
TypeReads = List Token → Option (TypeShape × List Token)

-- the type that begins with a token: a name, `bool`, `int`, or `set<` type `>`
abbrev pub type_in : TypeReads → What → List Token → Option (TypeShape × List Token)
type_in read (what.Word x) ts = Some (type_named x, ts)
type_in read (what.Reserved keyword.Bool) ts = Some (type_named (codes "bool"), ts)
type_in read (what.Reserved keyword.Int) ts = Some (type_named (codes "int"), ts)
type_in read (what.Reserved keyword.Set) ts = do
  us ← past sign.Less ts
  k ← read us
  vs ← past sign.Greater k.1
  Some (set_of k.0, vs)
type_in read _ ts = None

-- the type at the front, from the reading of a type inside it
abbrev pub type_step : TypeReads → TypeReads
type_step read [] = None
type_step read (t ∷ ts) = type_in read t.what ts

-- the type at the front, with at most this many nested types
unfoldable pub type_within : ℕ → TypeReads
type_within zero ts = None
type_within (suc n) ts = type_step (type_within n) ts

-- the type at the front, and the tokens after it
abbrev pub type_at : List Token → Option (TypeShape × List Token)
type_at ts = type_within (length ts) ts

-- a reading of names with commas between them
abbrev pub NamesRead : Type 0
NamesRead = List Token → Option (List (List ℕ) × List Token)

-- the reading after a name: a comma leads to more names
abbrev pub names_or : NamesRead → List ℕ → List Token → Option (List Token) → Option (List (List ℕ) × List Token)
names_or read x ts None = Some (x ∷ [], ts)
names_or read x ts (Some rest) = read rest >>= λ xs. Some (x ∷ xs.0, xs.1)

-- the names at the front, at most this many, and the tokens after them
unfoldable pub names_within : ℕ → NamesRead
names_within zero ts = None
names_within (suc n) ts = name_at ts >>= λ x. names_or (names_within n) x.0 x.1 (past sign.Comma x.1)

-- the names that were read, and more names
abbrev pub names_after : List (List ℕ) → Option (List (List ℕ) × List Token) → Option (List (List ℕ) × List Token)
names_after so_far o = option_map (λ xs. (so_far ++ xs.0, xs.1)) o

-- the names at the front, one or more, and the tokens after them
abbrev pub names_at : List Token → Option (List (List ℕ) × List Token)
names_at ts = names_within (length ts) ts

-- names `:` type
abbrev pub typed_at : List Token → Option (List (List ℕ) × TypeShape × List Token)
typed_at ts = do
  xs ← names_at ts
  us ← past sign.Colon xs.1
  k ← type_at us
  Some (xs.0, k.0, k.1)

-- a reading of fields up to the closing brace
abbrev pub FieldsRead : Type 0
FieldsRead = List Token → Option (List FieldShape × List Token)

-- the reading after a list of fields: `}` ends them, else more fields follow
abbrev pub fields_or : FieldsRead → List FieldShape → List Token → Option (List Token)
    → Option (List FieldShape × List Token)
fields_or read fs ts (Some rest) = Some (fs, rest)
fields_or read fs ts None = read ts >>= λ gs. Some (fs ++ gs.0, gs.1)

-- the fields at the front, in at most this many lists, their `}`, and the tokens after it
unfoldable pub fields_within : ℕ → FieldsRead
fields_within zero ts = None
fields_within (suc n) ts = do
  d ← typed_at ts
  us ← past sign.Semicolon d.2
  fields_or (fields_within n) (fields_for d.0 d.1) us (past sign.RightCurly us)

-- the fields that were read, and more fields
abbrev pub fields_after : List FieldShape → Option (List FieldShape × List Token)
    → Option (List FieldShape × List Token)
fields_after so_far o = option_map (λ fs. (so_far ++ fs.0, fs.1)) o

-- the fields at the front, one list or more, their `}`, and the tokens after it
abbrev pub fields_at : List Token → Option (List FieldShape × List Token)
fields_at ts = fields_within (length ts) ts

-- name `:` `{` fields `}`
unfoldable pub struct_item : List Token → Option BodyShape
struct_item ts = do
  x ← name_at ts
  us ← past sign.Colon x.1
  vs ← past sign.LeftCurly us
  fs ← fields_at vs
  at_end (structure x.0 fs.0) fs.1

-- names `:` type
unfoldable pub input_of : List Token → Option BodyShape
input_of ts = typed_at ts >>= λ d. at_end (input d.0 d.1) d.2

-- name `:=` expression
unfoldable pub define_of : List Token → Option BodyShape
define_of ts = do
  x ← name_at ts
  us ← past sign.Becomes x.1
  e ← parsed_tree us
  Some (define x.0 e)

-- the label and the tokens after it, if there is a name and `:`, else no label and all tokens
abbrev pub labelled : List Token → Option (List ℕ × List Token) → Option (List ℕ) × List Token
labelled ts None = (None, ts)
labelled ts (Some x) = (Some x.0, x.1)

-- the label at the front, if there is one, and the tokens after it
unfoldable pub label_at : List Token → Option (List ℕ) × List Token
label_at ts = labelled ts (name_at ts >>= λ x. past sign.Colon x.1 >>= λ us. Some (x.0, us))

-- the token is a `=>` outside brackets
abbrev pub is_promise : ℕ → What → Bool
is_promise depth w = nat_eq depth 0 && is_sign sign.Promises w

-- the index of the first `=>` outside brackets; the first token has the index `place`, with `depth` brackets open before it
unfoldable pub promise_at : ℕ → ℕ → List Token → Option ℕ
promise_at place depth [] = None
promise_at place depth (t ∷ ts) = if is_promise depth t.what then Some place
    else promise_at (place + 1) (depth_after t.what depth) ts

-- a contract from its two sides, the right one without a `=>` outside brackets
abbrev pub contract_of : Engine → Option (List ℕ) → List Token → List Token → Option BodyShape
contract_of engine label left right = if is_some (promise_at 0 0 right) then None
    else (parsed_tree left >>= λ e. parsed_tree right >>= λ f. Some (contract engine label e f))

-- a formula, or a contract if there is one `=>` outside brackets
abbrev pub output_at : Engine → Option (List ℕ) → List Token → Option ℕ → Option BodyShape
output_at engine label ts None = parsed_tree ts >>= λ e. Some (formula engine label e)
output_at engine label ts (Some n) = contract_of engine label (take n ts) (drop (n + 1) ts)

-- an optional label, and a formula or a contract
unfoldable pub output_item : Engine → List Token → Option BodyShape
output_item engine ts = let x = label_at ts in output_at engine x.0 x.1 (promise_at 0 0 x.1)

-- the body of an item in a section
abbrev pub body_of : Section → List Token → Option BodyShape
body_of Struct ts = struct_item ts
body_of Input ts = input_of ts
body_of Define ts = define_of ts
body_of (Output engine) ts = output_item engine ts
