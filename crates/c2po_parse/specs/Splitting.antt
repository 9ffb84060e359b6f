use Rattle.std.specs.Prelude.{ℕ, zero, suc, ◌+◌, ◌*◌, Bool, true, false, ◌&&◌, List, [], ◌∷◌, length, Option, Some}
use Rattle.std.specs.Prelude.{None, nat_eq, nat_le, if◌then◌else◌}
use Rattle.c2po_lexer.specs.declared.token.Sign.{Sign}
use Rattle.c2po_lexer.specs.declared.token.Sign.TheVariants as sign
use Rattle.c2po_lexer.specs.declared.token.Token.{Token}
use Rattle.c2po_parse.specs.declared.operator.Operator.{Operator}
use Rattle.c2po_parse.specs.declared.operator.Operator.TheVariants.{Binary, Field}
use Rattle.c2po_ast.specs.Shape.{Shape, pick}
use Rattle.c2po_parse.specs.Tokens.{level_after, ends_operand, depth_after, is_separator, is_right_level}
use Rattle.c2po_parse.specs.Tokens.{is_prefix_level, left_level, right_level}
use Rattle.c2po_ast.specs.Parts.{joined, prefixed}
use Rattle.c2po_parse.specs.Fronts.{◌>>=◌, past, operator_at, start_at, middle_at, prefix_level}
use Rattle.c2po_ast.specs.Parts.{enclosed, quantified, leaf}
use Rattle.c2po_parse.specs.Fronts.{closing}
use Rattle.c2po_parse.specs.declared.operator.Start.{Start}
use Rattle.c2po_parse.specs.declared.operator.Start.TheVariants.{Leaf, Before, Round, Open, Bind}

-- The tree of an expression, found by splitting its tokens from the loosest operator down.

-- two parts of a token list
abbrev pub Cut : Type 0
Cut = List Token × List Token

-- the cut with one more token before its first part
abbrev pub with_front : Token → Option Cut → Option Cut
with_front t None = None
with_front t (Some c) = Some (t ∷ c.0, c.1)

-- a test of a token outside brackets; it also sees whether the token before ends an operand
abbrev pub Test : Type 0
Test = Bool → Token → Bool

-- The cut before the first token outside brackets that passes the test. `after` tells whether the token before ends an
-- operand, and `depth` how many brackets are open.
unfoldable pub cut_first : Test → Bool → ℕ → List Token → Option Cut
cut_first test after depth [] = None
cut_first test after depth (t ∷ ts) =
    if nat_eq depth 0 && test after t then Some ([], t ∷ ts)
    else with_front t (cut_first test (ends_operand t.what) (depth_after t.what depth) ts)

-- the later of two cuts: a cut further on, else the cut at the front if the test passes there
abbrev pub later : Option Cut → Bool → List Token → Option Cut
later (Some c) here ts = Some c
later None true ts = Some ([], ts)
later None false ts = None

-- the cut before the last token outside brackets that passes the test
unfoldable pub cut_last : Test → Bool → ℕ → List Token → Option Cut
cut_last test after depth [] = None
cut_last test after depth (t ∷ ts) =
    later (with_front t (cut_last test (ends_operand t.what) (depth_after t.what depth) ts))
    (nat_eq depth 0 && test after t) (t ∷ ts)

-- the token is an operator of this level
abbrev pub has_level : ℕ → Test
has_level level after t = nat_eq (level_after after t.what) level

-- the token is a sign that ends an expression
abbrev pub ends_expression : Test
ends_expression after t = is_separator t.what

-- the split at an operator of this level: at the first for the level that groups to the right, at the last for other levels
abbrev pub split_at : ℕ → List Token → Option Cut
split_at level ts = if is_right_level level then cut_first (has_level level) false 0 ts
    else cut_last (has_level level) false 0 ts

-- the cut of tokens inside brackets before the first comma or closing bracket
abbrev pub cut_inside : List Token → Option Cut
cut_inside ts = cut_first ends_expression false 0 ts

-- a reading of a token list at a level
abbrev pub ReadsLevel : Type 0
ReadsLevel = ℕ → List Token → Option Shape

-- a reading of elements with commas between them, up to the closing sign
abbrev pub ReadsAll : Type 0
ReadsAll = Sign → List Token → Option (List Shape)

-- the value, if no token is left
abbrev pub at_end : {A : Type 0} → A → List Token → Option A
at_end a [] = Some a
at_end a (t ∷ ts) = None

-- the tree of an operator from its two sides, or of a picked field from its operand
abbrev pub sides : ReadsLevel → ℕ → List Token → Operator × List Token → Option Shape
sides read level left (Binary line op, right) = do
  e ← read (left_level level) left
  f ← read (right_level level) right
  Some (joined line op e f)
sides read level left (Field line x, right) = read (left_level level) left >>= λ e. at_end (pick line e x) right

-- the tree of an expression at a level of operators, split at an operator or read at the next level
abbrev pub at_operators : ReadsLevel → ℕ → List Token → Option Cut → Option Shape
at_operators read level ts None = read (suc level) ts
at_operators read level ts (Some c) = operator_at c.1 >>= λ o. sides read level c.0 o

-- the tree of an expression at a level of prefixes: a leading prefix of the level with its operand, else the expression at
-- the next level
abbrev pub at_prefixes : ReadsLevel → ℕ → List Token → Option (Start × List Token) → Option Shape
at_prefixes read level ts (Some (Before p, rest)) =
    if nat_eq (prefix_level p) level then (read level rest >>= λ e. Some (prefixed p e)) else read (suc level) ts
at_prefixes read level ts _ = read (suc level) ts

-- the tree of an expression that is followed by `)` and nothing else
abbrev pub block : ReadsLevel → List Token → Option Shape
block read ts = do
  c ← cut_inside ts
  rest ← past sign.RightRound c.1
  e ← read 1 c.0
  at_end e rest

-- the tree of an expression at the tightest level, level 12
abbrev pub primary : ReadsLevel → ReadsAll → Start × List Token → Option Shape
primary read read_all (Leaf line a, rest) = at_end (leaf line a) rest
primary read read_all (Before p, rest) = None
primary read read_all (Round, rest) = block read rest
primary read read_all (Open b, rest) = read_all (closing b) rest >>= λ es. Some (enclosed b es)
primary read read_all (Bind line q x, rest) = do
  c ← cut_inside rest
  m ← middle_at q c.1
  s ← read 1 c.0
  e ← block read m.1
  Some (quantified line q x s m.0 e)

-- one step of the reading at a level
abbrev pub split_step : ReadsLevel → ReadsAll → ReadsLevel
split_step read read_all level ts =
    if nat_le 12 level then (start_at ts >>= λ s. primary read read_all s)
    else if is_prefix_level level then at_prefixes read level ts (start_at ts)
    else at_operators read level ts (split_at level ts)

-- the reading after an element: a comma leads to more elements, the closing sign ends the list
abbrev pub more_or_end : ReadsAll → Sign → Shape → List Token → Option (List Token) → Option (List Shape)
more_or_end read_all s e ts (Some rest) = read_all s rest >>= λ es. Some (e ∷ es)
more_or_end read_all s e ts None = past s ts >>= λ rest. at_end (e ∷ []) rest

-- one step of the reading of elements with commas between them
abbrev pub elements_step : ReadsLevel → ReadsAll → ReadsAll
elements_step read read_all s ts = do
  c ← cut_inside ts
  e ← read 1 c.0
  more_or_end read_all s e c.1 (past sign.Comma c.1)

-- the readings with at most this many steps
unfoldable mutual
  pub tree_within : ℕ → ReadsLevel
  tree_within zero level ts = None
  tree_within (suc n) level ts = split_step (tree_within n) (trees_within n) level ts

  pub trees_within : ℕ → ReadsAll
  trees_within zero s ts = None
  trees_within (suc n) s ts = elements_step (tree_within n) (trees_within n) s ts

-- The tree of a token list. Each step removes a token or raises the level, so this number of steps is enough.
unfoldable pub parsed_tree : List Token → Option Shape
parsed_tree ts = tree_within (13 * length ts + 13) 1 ts
