-- The kind of an expression, or its first fault of names and kinds: operands first, from the left.

use Rattle.std.specs.Prelude.{ℕ, nat_le, ◌&&◌, List, [], ◌∷◌, Option, is_some, Ok, Err, if◌then◌else◌}
use Rattle.mltl_base.specs.declared.limits.TheConstants.{MAX_BOUND, MAX_COUNT}
use Rattle.c2po_ast.specs.Shape.{Shape, Shapes, number, truth, named, build, group, pick, minus, negation, arith}
use Rattle.c2po_ast.specs.Shape.{compare, logic, window, between, each, exists, count, none, more}
use Rattle.c2po_types.specs.declared.kind.Kind.{Kind}
use Rattle.c2po_types.specs.declared.fault.TypeFault.TheVariants as fault
use Rattle.c2po_types.specs.Checking.{Checked, ◌>>=◌}
use Rattle.c2po_types.specs.Kinds as kinds
use Rattle.c2po_types.specs.Kinds.{Placed, whole, same_kind, expected, member_kind, known_value, known_built}
use Rattle.c2po_types.specs.Kinds.{set_of_elements}
use Rattle.c2po_types.specs.Kinds.{picked_kind}
use Rattle.c2po_types.specs.Scopes.{Visible, inside, meaning_of}

-- the line of an expression
abbrev pub line_of : Shape → ℕ
line_of (number line n) = line
line_of (truth line b) = line
line_of (named line x) = line
line_of (build line x es) = line
line_of (group line es) = line
line_of (pick line e x) = line
line_of (minus line e) = line
line_of (negation line e) = line
line_of (arith line op e f) = line
line_of (compare line op e f) = line
line_of (logic line op e f) = line
line_of (window line op a b e) = line
line_of (between line op a b e f) = line
line_of (each line x s e) = line
line_of (exists line x s e) = line
line_of (count line op x s n e) = line

-- two kinds, or the first fault, the left one first
abbrev pub two : Checked Kind → Checked Kind → Checked (Kind × Kind)
two left right = do
  j ← left
  k ← right
  Ok (j, k)

-- the given kind if the operand has the wanted kind, else a fault
abbrev pub of_one : ℕ → Kind → Kind → Kind → Checked Kind
of_one line wanted given k = expected line (same_kind k wanted) given

-- the given kind if both operands have the wanted kind, else a fault
abbrev pub of_two : ℕ → Kind → Kind → Kind × Kind → Checked Kind
of_two line wanted given ks = expected line (same_kind ks.0 wanted && same_kind ks.1 wanted) given

-- the rest of a check if the lower bound isn't above the upper one and the upper one is within the limit, else a fault
abbrev pub within_bounds : {X : Type 0} → ℕ → ℕ → ℕ → Checked X → Checked X
within_bounds line a b rest = if nat_le a b && nat_le b MAX_BOUND then rest else Err (fault.Bounds line)

-- the rest of a check if the variable's name isn't visible yet, else a fault
abbrev pub unseen : {X : Type 0} → ℕ → Option X → Checked Kind → Checked Kind
unseen line found rest = if is_some found then Err (fault.Twice line) else rest

-- the rest of a check if the number of a counting quantifier is within the limit, else a fault
abbrev pub few : ℕ → ℕ → Checked Kind → Checked Kind
few line n rest = if nat_le n MAX_COUNT then rest else Err (fault.Bounds line)

abbrev mutual
  pub kind_of : Shape → Visible → Checked Kind
  kind_of (number line n) seen = Ok whole
  kind_of (truth line b) seen = Ok kinds.truth
  kind_of (named line x) seen = known_value line (meaning_of x seen)
  kind_of (build line x es) seen = operand_kinds es seen >>= λ ps. known_built line seen.declared ps (meaning_of x seen)
  kind_of (group line es) seen = operand_kinds es seen >>= set_of_elements line
  kind_of (pick line e x) seen = kind_of e seen >>= picked_kind line x seen.declared
  kind_of (minus line e) seen = kind_of e seen >>= of_one line whole whole
  kind_of (negation line e) seen = kind_of e seen >>= of_one line kinds.truth kinds.truth
  kind_of (arith line op e f) seen = two (kind_of e seen) (kind_of f seen) >>= of_two line whole whole
  kind_of (compare line op e f) seen = two (kind_of e seen) (kind_of f seen) >>= of_two line whole kinds.truth
  kind_of (logic line op e f) seen = two (kind_of e seen) (kind_of f seen) >>= of_two line kinds.truth kinds.truth
  kind_of (window line op a b e) seen = do
    k ← kind_of e seen
    within_bounds line a b (of_one line kinds.truth kinds.truth k)
  kind_of (between line op a b e f) seen = do
    ks ← two (kind_of e seen) (kind_of f seen)
    within_bounds line a b (of_two line kinds.truth kinds.truth ks)
  kind_of (each line x s e) seen = do
    k ← kind_of s seen >>= member_kind line
    unseen line (meaning_of x seen) (kind_of e (inside x k seen) >>= of_one line kinds.truth kinds.truth)
  kind_of (exists line x s e) seen = do
    k ← kind_of s seen >>= member_kind line
    unseen line (meaning_of x seen) (kind_of e (inside x k seen) >>= of_one line kinds.truth kinds.truth)
  kind_of (count line op x s n e) seen = do
    k ← kind_of s seen >>= member_kind line
    unseen line (meaning_of x seen) (few line n (kind_of e (inside x k seen) >>= of_one line kinds.truth kinds.truth))

  pub operand_kinds : Shapes → Visible → Checked (List Placed)
  operand_kinds none seen = Ok []
  operand_kinds (more e es) seen = do
    k ← kind_of e seen
    ps ← operand_kinds es seen
    Ok ((line_of e, k) ∷ ps)

-- the kind of an operator whose operands must have the wanted kind, from the kind of its left operand and its right operand
abbrev pub infix_kind : ℕ → Kind → Kind → Kind → Shape → Visible → Checked Kind
infix_kind line wanted given left e seen = two (Ok left) (kind_of e seen) >>= of_two line wanted given

-- the kind of a temporal operator over one operand
abbrev pub window_kind : ℕ → ℕ → ℕ → Shape → Visible → Checked Kind
window_kind line a b e seen = do
  k ← kind_of e seen
  within_bounds line a b (of_one line kinds.truth kinds.truth k)

-- the kind of a quantifier over a set of this kind
abbrev pub quantifier_kind : ℕ → List ℕ → Kind → ℕ → Shape → Visible → Checked Kind
quantifier_kind line x s n e seen = do
  k ← member_kind line s
  unseen line (meaning_of x seen) (few line n (kind_of e (inside x k seen) >>= of_one line kinds.truth kinds.truth))
