-- No value of the lines of a light program is refused.

use Rattle.std.proofs.Common.{◌≡◌, ◌∙◌, ℕ, ◌+◌, ◌<◌, ◌≤◌, zero, suc, Bool, false, List, [], ◌∷◌, ◌++◌, length, map, Option, Some, None, Ok, Err, refl, ap, ap₂, sym, subst, arith, pos, nat_lt}
use Rattle.std.specs.Prelude.{slice_get, slice_index_or, ◌||◌}
use Rattle.std.specs.List.{enumerate_from, sum_by}
use Rattle.std.proofs.lemmas.Bool.{and_parts, ltb-true}
use Rattle.std.proofs.lemmas.List.Sums.{sum_by-cons}
use Rattle.std.proofs.lemmas.Option.{slice_get_within, get_or_from_slice_get}
use Rattle.mltl_base.specs.declared.interval.Engine.{Engine}
use Rattle.mltl_base.specs.declared.interval.Engine.TheVariants.{Ft, Pt}
use Rattle.mltl_base.specs.declared.limits.TheConstants.{MAX_WEIGHT}
use Rattle.mltl_base.specs.declared.operators.BzOp as bz
use Rattle.mltl_base.specs.declared.operators.FtOp as ft
use Rattle.mltl_base.specs.declared.operators.PtOp as pt
use Rattle.mltl_base.specs.declared.program.Out as out
use Rattle.mltl_base.specs.declared.program.Program.{Program}
use Rattle.mltl_base.specs.Atoms.{Atom, is_true}
use Rattle.mltl_base.specs.Formula.{Formula, Core, ctrue, plain, formula_over}
use Rattle.mltl_base.specs.Programs.{Expression, whole, truth, expression_term, atom_of, term_at, expression_of, expressions_after, expressions, atoms, core_at, op_formula, past_formula_of, formulas_after, past_formulas_after, cores_of, formula_at, output_of}
use Rattle.mltl_base.specs.Ranges.{NoRange, Ranged, divisor, wide, range}
use Rattle.c2po_ast.specs.Faults.{why_none, or_later, term_fault, atom_fault, formula_fault}
use Rattle.c2po_ast.specs.Tenses.{has_past, has_future}
use Rattle.c2po_types.specs.Values as values
use Rattle.c2po_types.specs.Values.{Value}
use Rattle.c2po_types.specs.Weights.{weight}
use Rattle.c2po_types.specs.Environment.{Env, value_of}
use Rattle.c2po_types.specs.Outputs.{Place, before, place_after}
use Rattle.c2po_types.specs.FirstFault.{is_mixed}
use Rattle.obs_verify.specs.WellFormed.{IsWellFormed, bz_fault, no_range_fault}
use Rattle.obs_verify.proofs.RuleLaws.{or_none}
use Rattle.obs_verify.proofs.SoundLaws.{each}
use Rattle.obs_show.specs.Lines.{Reference, formula, contract}
use Rattle.obs_show.specs.Naming.{ft_reference, pt_reference}
use Rattle.obs_show.specs.Text.{shown_label, output_line, shown_lines}
use Rattle.obs_show.specs.Weight.{formula_weight, output_weight}
use Rattle.show_roundtrip.specs.Said.{reference_shape, line_body}
use Rattle.show_roundtrip.specs.Unfolded.{AreNew}
use Rattle.show_roundtrip.proofs.Passing.{reference_value, added, ValuePasses, ValuesPass, IsLight}
use Rattle.show_roundtrip.proofs.Values.{MeansFormula, formula_by, formula_weighs}
use Rattle.show_roundtrip.proofs.Definable.{expression_fault, AreDefinable, fault_over, past_over, future_over}
use Rattle.show_roundtrip.proofs.Walk.{get_seam, columns_in, expressions_kept}
use Rattle.show_roundtrip.proofs.Whole.{EnginesKnown, Within, HaveReports, CanBeSaid, after_output, expressions_count, formulas_count, past_count, engines_known, lines_reach}
use Rattle.show_roundtrip.proofs.Formed.{well_formed_said}

no_later : (a b : Option NoRange) → a ≡ None → b ≡ None → or_later a b ≡ None
no_later a b e f = ap (λ o. or_later o b) e ∙ f

neither_holds : (a b : Bool) → a ≡ false → b ≡ false → (a || b) ≡ false
neither_holds a b e f = ap (λ t. t || b) e ∙ f

-- ---- the Booleanizer

no_fault : (i : ℕ) (r : Ranged) → no_range_fault i r ≡ None → why_none r ≡ None
no_fault i (Ok r) h = refl
no_fault i (Err divisor) h = absurd (cc)
no_fault i (Err wide) h = absurd (cc)

-- each whole number has a range; so has the 0 that stands for what isn't there
bz_ranged : (program : Program) (i : ℕ) → IsWellFormed program → i < length program.bz → term_fault (term_at (expressions program.bz) i) ≡ None
bz_ranged program i formed inside =
    let h1 = or_none _ _ formed in
    let h2 = or_none _ _ h1.1 in
    let h3 = or_none _ _ h2.1 in
    let here = or_none _ _ (each (bz_fault program) program.bz h3.0 i (bz.TheVariants.Const (pos 0)) inside) in
    no_fault i (range (term_at (expressions program.bz) i)) here.1

ranges_in : (program : Program) → IsWellFormed program → (i : ℕ) → term_fault (term_at (expressions program.bz) i) ≡ None
unfolding range
ranges_in program formed i = go (slice_get (expressions program.bz) i) refl
  where
    go : (o : Option Expression) → slice_get (expressions program.bz) i ≡ o → term_fault (term_at (expressions program.bz) i) ≡ None
    go None at = ap (λ (o : Option Expression). term_fault (expression_term o)) at
    go (Some e) at = bz_ranged program i formed (omega (arith, slice_get_within (expressions program.bz) i e at, expressions_count program.bz []))

-- each of the expressions has ranges
abbrev HaveRanges : List Expression → Type 0
HaveRanges es = (i : ℕ) (e : Expression) → slice_get es i ≡ Some e → expression_fault e ≡ None

term_ranged : (es : List Expression) → HaveRanges es → (a : ℕ) → term_fault (term_at es a) ≡ None
unfolding range
term_ranged es h a = go (slice_get es a) refl
  where
    go : (o : Option Expression) → slice_get es a ≡ o → term_fault (expression_term (slice_get es a)) ≡ None
    go None at = ap (λ (o : Option Expression). term_fault (expression_term o)) at
    go (Some (truth t)) at = ap (λ (o : Option Expression). term_fault (expression_term o)) at
    go (Some (whole t)) at = ap (λ (o : Option Expression). term_fault (expression_term o)) at ∙ h a (whole t) at

-- an instruction over such expressions has ranges, where its whole number has one
expression_ranged : (es : List Expression) (op : bz.BzOp) → HaveRanges es → term_fault (expression_term (Some (expression_of es op))) ≡ None → expression_fault (expression_of es op) ≡ None
expression_ranged es (bz.TheVariants.IsTrue c) h e = refl
expression_ranged es (bz.TheVariants.Eq a b) h e = no_later _ _ (term_ranged es h a) (term_ranged es h b)
expression_ranged es (bz.TheVariants.Lt a b) h e = no_later _ _ (term_ranged es h a) (term_ranged es h b)
expression_ranged es (bz.TheVariants.Le a b) h e = no_later _ _ (term_ranged es h a) (term_ranged es h b)
expression_ranged es _ h e = e

ranges_push : (es : List Expression) (d : Expression) → HaveRanges es → expression_fault d ≡ None → HaveRanges (es ++ d ∷ [])
ranges_push [] d h k zero e at = ap expression_fault (let same : e ≡ d = cc in same) ∙ k
ranges_push [] d h k (suc i) e at = absurd (cc)
ranges_push (x ∷ es) d h k zero e at = h zero e at
ranges_push (x ∷ es) d h k (suc i) e at = ranges_push es d (λ j c b. h (suc j) c b) k i e at

ranges_after : (ops : List bz.BzOp) (es : List Expression) → HaveRanges es → ((i : ℕ) → term_fault (term_at (expressions_after es ops) i) ≡ None) → HaveRanges (expressions_after es ops)
unfolding expressions_after
ranges_after [] es h k = h
ranges_after (op ∷ ops) es h k =
    let d : Expression = expression_of es op in
    let at : slice_get (expressions_after (es ++ d ∷ []) ops) (length es) ≡ Some d = expressions_kept ops (es ++ d ∷ []) (length es) d (get_seam es d []) in
    ranges_after ops (es ++ d ∷ []) (ranges_push es d h (expression_ranged es op h (ap (λ (o : Option Expression). term_fault (expression_term o)) (sym at) ∙ k (length es)))) k

expressions_ranged : (program : Program) → IsWellFormed program → HaveRanges (expressions program.bz)
expressions_ranged program formed = ranges_after program.bz [] (λ i e at. absurd (cc)) (ranges_in program formed)

-- what engines load has ranges
abbrev AreRanged : List Atom → Type 0
AreRanged loaded = (a : ℕ) → atom_fault (slice_index_or loaded a (is_true 0)) ≡ None

loaded_ranged : (es : List Expression) → HaveRanges es → AreRanged (map (λ e. atom_of (Some e)) es)
loaded_ranged [] h a = refl
loaded_ranged (truth t ∷ es) h zero = h zero (truth t) refl
loaded_ranged (whole t ∷ es) h zero = refl
loaded_ranged (e ∷ es) h (suc a) = loaded_ranged es (λ j c b. h (suc j) c b) a

-- ---- the engines

-- formulas of one tense whose whole numbers have ranges
abbrev IsFutureRanged : Core → Type 0
IsFutureRanged c = (formula_fault (plain c) ≡ None) × (has_past (plain c) ≡ false)

abbrev IsPastRanged : Core → Type 0
IsPastRanged c = (formula_fault (plain c) ≡ None) × (has_future (plain c) ≡ false)

-- one more core formula
cores_push : (P : Core → Type 0) (cs : List Core) (c : Core) → ((j : ℕ) → P (core_at cs j)) → P c → (j : ℕ) → P (core_at (cs ++ c ∷ []) j)
cores_push P [] c h k zero = k
cores_push P [] c h k (suc j) = h j
cores_push P (d ∷ cs) c h k zero = h zero
cores_push P (d ∷ cs) c h k (suc j) = cores_push P cs c (λ i. h (suc i)) k j

future_ranged : (loaded : List Atom) (cs : List Core) (op : ft.FtOp) → AreRanged loaded → ((j : ℕ) → IsFutureRanged (core_at cs j)) → IsFutureRanged (op_formula loaded cs op)
unfolding plain formula_fault has_past
future_ranged loaded cs ft.TheVariants.True l h = (refl, refl)
future_ranged loaded cs (ft.TheVariants.Load a) l h = (l a, refl)
future_ranged loaded cs (ft.TheVariants.Not g) l h = h g
future_ranged loaded cs _ l h = (no_later _ _ (h _).0 (h _).0, neither_holds _ _ (h _).1 (h _).1)

past_ranged : (loaded : List Atom) (cs : List Core) (op : pt.PtOp) → AreRanged loaded → ((j : ℕ) → IsPastRanged (core_at cs j)) → IsPastRanged (past_formula_of loaded cs op)
unfolding plain formula_fault has_future
past_ranged loaded cs pt.TheVariants.True l h = (refl, refl)
past_ranged loaded cs (pt.TheVariants.Load a) l h = (l a, refl)
past_ranged loaded cs (pt.TheVariants.Not g) l h = h g
past_ranged loaded cs _ l h = (no_later _ _ (h _).0 (h _).0, neither_holds _ _ (h _).1 (h _).1)

futures_ranged : (loaded : List Atom) (ops : List ft.FtOp) (cs : List Core) → AreRanged loaded → ((j : ℕ) → IsFutureRanged (core_at cs j)) → (j : ℕ) → IsFutureRanged (core_at (formulas_after loaded cs ops) j)
unfolding formulas_after
futures_ranged loaded [] cs l h = h
futures_ranged loaded (op ∷ ops) cs l h = futures_ranged loaded ops (cs ++ op_formula loaded cs op ∷ []) l (cores_push IsFutureRanged cs (op_formula loaded cs op) h (future_ranged loaded cs op l h))

pasts_ranged : (loaded : List Atom) (ops : List pt.PtOp) (cs : List Core) → AreRanged loaded → ((j : ℕ) → IsPastRanged (core_at cs j)) → (j : ℕ) → IsPastRanged (core_at (past_formulas_after loaded cs ops) j)
unfolding past_formulas_after
pasts_ranged loaded [] cs l h = h
pasts_ranged loaded (op ∷ ops) cs l h = pasts_ranged loaded ops (cs ++ past_formula_of loaded cs op ∷ []) l (cores_push IsPastRanged cs (past_formula_of loaded cs op) h (past_ranged loaded cs op l h))

-- every formula of a well-formed program is so
record EnginesRanged (program : Program) : Type 0 where
  ft : (i : ℕ) → IsFutureRanged (formula_at program Ft i)
  pt : (i : ℕ) → IsPastRanged (formula_at program Pt i)

engines_ranged : (program : Program) → IsWellFormed program → EnginesRanged program
unfolding plain formula_fault has_past has_future
engines_ranged program formed =
    let l = loaded_ranged (expressions program.bz) (expressions_ranged program formed) in
    record { ft = futures_ranged (atoms program.bz) program.ft [] l (λ j. (refl, refl)); pt = pasts_ranged (atoms program.bz) program.pt [] l (λ j. (refl, refl)) }

-- ---- definitions

core_there : (cs : List Core) (i : ℕ) (c : Core) → slice_get cs i ≡ Some c → core_at cs i ≡ c
core_there cs i c at = get_or_from_slice_get cs i c ctrue at

definable : (program : Program) → IsWellFormed program → IsLight program → AreDefinable program
definable program formed light =
    let ranged = engines_ranged program formed in
    record {
      bz = λ i e at. (light.bz i e at, expressions_ranged program formed i e at);
      ft = λ i c at.
          let inside : i < length program.ft = omega (arith, slice_get_within (cores_of program Ft) i c at, formulas_count (atoms program.bz) program.ft []) in (
            subst (λ (d : Core). formula_weight (plain d) ≤ MAX_WEIGHT) (core_there (cores_of program Ft) i c at) (light.ft i inside),
            subst (λ (d : Core). formula_fault (plain d) ≡ None) (core_there (cores_of program Ft) i c at) (ranged.ft i).0,
          );
      pt = λ i c at.
          let inside : i < length program.pt = omega (arith, slice_get_within (cores_of program Pt) i c at, past_count (atoms program.bz) program.pt []) in (
            subst (λ (d : Core). formula_weight (plain d) ≤ MAX_WEIGHT) (core_there (cores_of program Pt) i c at) (light.pt i inside),
            subst (λ (d : Core). formula_fault (plain d) ≡ None) (core_there (cores_of program Pt) i c at) (ranged.pt i).0,
          );
    }

-- ---- outputs

-- a value of a formula's weight that may be an output of an engine
record IsReported (engine : Engine) (v : Value) (p : Formula) : Type 0 where
  weighs : weight v ≡ formula_weight p
  ranges : formula_fault (values.formula_of v) ≡ None
  tense : is_mixed engine (values.formula_of v) ≡ false

future_reported : (columns : List ℕ) (env : Env) (n : ℕ) (x : Reference) (c : Core) → MeansFormula columns env x (plain c) → IsFutureRanged c → IsReported Ft (value_of (reference_shape n x) env) (plain c)
future_reported columns env n x c m h =
    let q : Formula = values.formula_of (value_of (reference_shape n x) env) in
    let is : formula_over columns q ≡ plain c = formula_by columns env n x (plain c) m in
    record { weighs = formula_weighs columns env n x (plain c) m; ranges = sym (fault_over columns q) ∙ ap formula_fault is ∙ h.0; tense = sym (past_over columns q) ∙ ap has_past is ∙ h.1 }

past_reported : (columns : List ℕ) (env : Env) (n : ℕ) (x : Reference) (c : Core) → MeansFormula columns env x (plain c) → IsPastRanged c → IsReported Pt (value_of (reference_shape n x) env) (plain c)
past_reported columns env n x c m h =
    let q : Formula = values.formula_of (value_of (reference_shape n x) env) in
    let is : formula_over columns q ≡ plain c = formula_by columns env n x (plain c) m in
    record { weighs = formula_weighs columns env n x (plain c) m; ranges = sym (fault_over columns q) ∙ ap formula_fault is ∙ h.0; tense = sym (future_over columns q) ∙ ap has_future is ∙ h.1 }

module _ (program : Program) (n total : ℕ) (p : Place) (known : EnginesKnown program p.values) (ranged : EnginesRanged program) where
  ft_reported : (i : ℕ) → i < length program.ft → IsReported Ft (reference_value n (ft_reference program i) p) (plain (formula_at program Ft i))
  ft_reported i inside = future_reported (columns_in program) p.values n (ft_reference program i) (formula_at program Ft i) (known.ft i inside) (ranged.ft i)

  pt_reported : (i : ℕ) → i < length program.pt → IsReported Pt (reference_value n (pt_reference program i) p) (plain (formula_at program Pt i))
  pt_reported i inside = past_reported (columns_in program) p.values n (pt_reference program i) (formula_at program Pt i) (known.pt i inside) (ranged.pt i)

  formula_passes : (engine : Engine) (label : Option (List ℕ)) (x : Reference) (q : Formula) → IsReported engine (reference_value n x p) q → total + formula_weight q ≤ MAX_WEIGHT
      → ValuePasses n (formula engine label x) p total × (added n (formula engine label x) p ≡ formula_weight q)
  formula_passes engine label x q r light = ((omega (arith, r.weighs), r.ranges, r.tense), r.weighs)

  contract_passes : (engine : Engine) (label : Option (List ℕ)) (x y : Reference) (q s : Formula) → IsReported engine (reference_value n x p) q → IsReported engine (reference_value n y p) s
      → total + (formula_weight q + formula_weight s) ≤ MAX_WEIGHT
      → ValuePasses n (contract engine label x y) p total × (added n (contract engine label x y) p ≡ formula_weight q + formula_weight s)
  contract_passes engine label x y q s r t light = (
    (omega (arith, r.weighs, t.weighs), no_later _ _ r.ranges t.ranges, neither_holds _ _ r.tense t.tense),
    ap₂ (λ (a b : ℕ). a + b) r.weighs t.weighs,
  )

  output_passes : (k : ℕ) (o : out.Out) → Within program o → total + output_weight (output_of program o) ≤ MAX_WEIGHT
      → ValuePasses n (output_line program k o) p total × (added n (output_line program k o) p ≡ output_weight (output_of program o))
  output_passes k (out.TheVariants.Formula Ft i name) w light = formula_passes Ft (shown_label k name) (ft_reference program i) (plain (formula_at program Ft i)) (ft_reported i (ltb-true i (length program.ft) w)) light
  output_passes k (out.TheVariants.Formula Pt i name) w light = formula_passes Pt (shown_label k name) (pt_reference program i) (plain (formula_at program Pt i)) (pt_reported i (ltb-true i (length program.pt) w)) light
  output_passes k (out.TheVariants.Contract Ft i j name) w light =
      let parts = and_parts (nat_lt i (length program.ft)) (nat_lt j (length program.ft)) w in
      contract_passes Ft (shown_label k name) (ft_reference program i) (ft_reference program j) (plain (formula_at program Ft i)) (plain (formula_at program Ft j))
      (ft_reported i (ltb-true i (length program.ft) parts.0)) (ft_reported j (ltb-true j (length program.ft) parts.1)) light
  output_passes k (out.TheVariants.Contract Pt i j name) w light =
      let parts = and_parts (nat_lt i (length program.pt)) (nat_lt j (length program.pt)) w in
      contract_passes Pt (shown_label k name) (pt_reference program i) (pt_reference program j) (plain (formula_at program Pt i)) (plain (formula_at program Pt j))
      (pt_reported i (ltb-true i (length program.pt) parts.0)) (pt_reported j (ltb-true j (length program.pt) parts.1)) light

outputs_pass : (program : Program) (outs : List out.Out) (n k total : ℕ) (p : Place) → EnginesKnown program p.values → EnginesRanged program → HaveReports program outs
    → total + sum_by output_weight (map (output_of program) outs) ≤ MAX_WEIGHT
    → ValuesPass n (map (λ x. output_line program x.0 x.1) (enumerate_from k outs)) p total
unfolding ValuesPass
outputs_pass program [] n k total p known ranged w light = tt
outputs_pass program (o ∷ outs) n k total p known ranged w light =
    let all = sum_by-cons output_weight (output_of program o) (map (output_of program) outs) in
    let here = output_passes program n total p known ranged k o w.0 (omega (arith, all)) in
    let q : Place = place_after (line_body n (output_line program k o)) p in
    let after = after_output program n k o p in (
      here.0,
      outputs_pass program outs (n + 1) (k + 1) (total + added n (output_line program k o) p) q (subst (EnginesKnown program) (sym after.0) known) ranged w.1 (omega (arith, all, here.1)),
    )

-- no value of the lines of a light program is refused
pub values_pass : (program : Program) → IsWellFormed program → program.version ≡ 2 → AreNew 1 (shown_lines program) before → IsLight program → ValuesPass 1 (shown_lines program) before 0
values_pass program formed version new light =
    let said : CanBeSaid program = well_formed_said program formed version in
    let r = lines_reach program said new in
    let all = light.outputs in
    r.passes (definable program formed light) 0
    (outputs_pass program program.outs r.line 0 0 r.place (engines_known program r.place r.holds) (engines_ranged program formed) said.reports (omega (arith, all)))
