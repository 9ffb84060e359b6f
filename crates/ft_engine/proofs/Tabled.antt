-- The known verdicts of the formulas that instructions unfold to are a table of those instructions.
use Rattle.std.proofs.Common.{◌≡◌, ℕ, ◌<◌, ◌≤◌, Bool, true, false, List, [], ◌∷◌, ◌++◌, length, map, get_or, length-append, if◌then◌else◌, nat_lt, arith, refl, subst, sym, ap, ◌∙◌, Option, Some, None}
use Rattle.std.specs.List.{slice_get}
use Rattle.std.specs.Option.{option_map}
use Rattle.std.proofs.lemmas.Bool.Decides.{nat_tests}
use Rattle.std.proofs.lemmas.List.{length-map, get_or_append_left, get_or_push, nil_from_length}
use Rattle.std.proofs.lemmas.Option.{slice_get-map, slice_get-get_or, slice_get_within}
use Rattle.mltl_base.specs.declared.operators.FtOp.{FtOp}
use Rattle.mltl_base.specs.declared.operators.FtOp.TheVariants.{True, Load}
use Rattle.mltl_base.specs.Atoms.{Row, Atom, holds, is_true}
use Rattle.mltl_base.specs.Formula.{Core, Formula, plain}
use Rattle.mltl_base.specs.Programs.{core_at, op_formula, formulas}
use Rattle.mltl_base.specs.Verdicts.{Known, verdicts, kleene_over, kleene, IsLongestKnown}
use Rattle.mltl_base.specs.Settled.{IsPrefix}
use Rattle.mltl_base.proofs.Leaves.{truth_verdicts, atom_verdicts}
use Rattle.mltl_base.proofs.Longest.{verdicts_longest}
use Rattle.mltl_base.proofs.Prefixes.{verdicts_begin}
use Rattle.ft_engine.specs.Queues.{op_at}
use Rattle.ft_engine.specs.Plans.{Plan, IsPlanned}
use Rattle.ft_engine.specs.Tables.{Extends, IsTable, known_table, truth_at, kleene_value}
use Rattle.ft_engine.proofs.Unfolded.{seated_before, unfolds_at}

-- a list of all n values is the longest
all_known : (value : Known) (n : ℕ) (vs : List Bool) → length vs ≡ n → ((t : ℕ) → t < n → value t ≡ slice_get vs t) → IsLongestKnown value n vs
all_known value n vs size same = record {
  fits = omega arith;
  values = λ t h. same t (omega arith);
  longest = λ h. absurd (omega arith);
}

-- a choice by time, before the end
in_time : {X : Type 0} (t n : ℕ) (x y : X) → t < n → (if nat_lt t n then x else y) ≡ x
in_time t n x y h = grind (arith, nat_tests)

-- what a map has at an index
mapped : (f : Row → Bool) (rows : List Row) (t : ℕ) → t < length rows → slice_get (map f rows) t ≡ Some (f (get_or rows t []))
mapped f rows t h = slice_get-map f rows t ∙ ap (λ (o : Option Row). option_map f o) (slice_get-get_or rows t [] h)

-- what a list has, a longer one has too
prefix_has : (xs ys : List Bool) (t : ℕ) (v : Bool) → IsPrefix xs ys → slice_get xs t ≡ Some v → slice_get ys t ≡ Some v
prefix_has xs ys t v p e =
    let within : t < length xs = slice_get_within xs t v e in
    ap (λ (zs : List Bool). slice_get zs t) p.1
    ∙ slice_get-get_or (xs ++ p.0) t false (omega (arith, length-append xs p.0))
    ∙ ap (λ (b : Bool). Some b) (get_or_append_left xs p.0 false t within)
    ∙ sym (slice_get-get_or xs t false within)
    ∙ e

-- more rows give a longer table
pub known_extends : ((rows more : List Row) (p : Formula) → IsPrefix (verdicts rows p) (verdicts (rows ++ more) p))
    → (rows more : List Row) (loaded : List Atom) (ops : List FtOp) → Extends (known_table rows loaded ops) (known_table (rows ++ more) loaded ops)
known_extends begins rows more loaded ops = record {
  each = λ i t v e. prefix_has (known_table rows loaded ops i) (known_table (rows ++ more) loaded ops i) t v (begins rows more (plain (core_at (formulas loaded ops) i))) e;
}

-- the truths of the row that comes last
pub truth_of_last : (rows : List Row) (row : Row) (loaded : List Atom) (k : ℕ) → truth_at (rows ++ row ∷ []) loaded (length rows) k ≡ holds (get_or loaded k (is_true 0)) row
truth_of_last rows row loaded k = ap (λ (r : Row). holds (get_or loaded k (is_true 0)) r) (get_or_push rows row [] (length rows) refl)

module _ (longest : (rows : List Row) (p : Formula) → IsLongestKnown (kleene rows p) (length rows) (verdicts rows p)) where
  -- the values of an instruction over the known verdicts of its operands
  value_longest : (rows : List Row) (loaded : List Atom) (all : List Core) (op : FtOp)
      → IsLongestKnown (kleene_value op (truth_at rows loaded) (length rows) (λ i. verdicts rows (plain (core_at all i)))) (length rows) (verdicts rows (plain (op_formula loaded all op)))
  unfolding plain verdicts kleene_over
  value_longest rows loaded all True = subst (IsLongestKnown _ (length rows)) (sym (truth_verdicts rows)) (all_known _ (length rows) (map (λ r. true) rows) (length-map rows (λ r. true)) (λ t h. in_time t (length rows) (Some true) None h ∙ sym (mapped (λ r. true) rows t h)))
  value_longest rows loaded all (Load k) = subst (IsLongestKnown _ (length rows)) (sym (atom_verdicts rows (get_or loaded k (is_true 0)))) (all_known _ (length rows) (map (holds (get_or loaded k (is_true 0))) rows) (length-map rows (holds (get_or loaded k (is_true 0)))) (λ t h. in_time t (length rows) (Some (truth_at rows loaded t k)) None h ∙ sym (mapped (holds (get_or loaded k (is_true 0))) rows t h)))
  value_longest rows loaded all x = longest rows (plain (op_formula loaded all x))

  pub known_is_table : (plan : Plan) (rows : List Row) (loaded : List Atom) (ops : List FtOp) → ((i : ℕ) → i < length ops → IsPlanned plan i (op_at ops i))
      → IsTable ops (truth_at rows loaded) (length rows) (known_table rows loaded ops)
  known_is_table plan rows loaded ops planned = record {
    each = λ i h.
        subst (λ (p : Core). IsLongestKnown (kleene_value (op_at ops i) (truth_at rows loaded) (length rows) (known_table rows loaded ops)) (length rows) (verdicts rows (plain p)))
        (sym (unfolds_at loaded ops (λ j j_in. seated_before plan j (op_at ops j) (planned j j_in).seated) i h))
        (value_longest rows loaded (formulas loaded ops) (op_at ops i));
  }

  -- nothing is known before the first row
  pub nothing_known : (loaded : List Atom) (ops : List FtOp) (i : ℕ) → known_table [] loaded ops i ≡ []
  nothing_known loaded ops i =
      let fits : length (known_table [] loaded ops i) ≤ 0 = (longest [] (plain (core_at (formulas loaded ops) i))).fits in
      nil_from_length (known_table [] loaded ops i) (omega arith)

pub is_table : (plan : Plan) (rows : List Row) (loaded : List Atom) (ops : List FtOp) → ((i : ℕ) → i < length ops → IsPlanned plan i (op_at ops i))
    → IsTable ops (truth_at rows loaded) (length rows) (known_table rows loaded ops)
is_table plan rows loaded ops planned = known_is_table verdicts_longest plan rows loaded ops planned

pub extends : (rows more : List Row) (loaded : List Atom) (ops : List FtOp) → Extends (known_table rows loaded ops) (known_table (rows ++ more) loaded ops)
extends rows more loaded ops = known_extends verdicts_begin rows more loaded ops

pub nothing : (loaded : List Atom) (ops : List FtOp) (i : ℕ) → known_table [] loaded ops i ≡ []
nothing loaded ops i = nothing_known verdicts_longest loaded ops i
