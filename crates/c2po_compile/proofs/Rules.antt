-- The instructions of listed expressions and formulas keep the rules of the verifier.

use Rattle.std.proofs.Common.{◌≡◌, ℕ, suc, ◌<◌, true, Some, None, Ok, Err, List, [], ◌∷◌, ◌++◌, length, map, take, slice_get, slice_index, slice_index_or, refl, sym, ap, ap₂, subst, ◌∙◌, append_assoc, arith}
use Rattle.std.specs.Prelude.{◌&&◌, nat_lt}
use Rattle.std.specs.Option.{option_map}
use Rattle.std.proofs.lemmas.Bool.{le-leb, lt-ltb, and_from}
use Rattle.std.proofs.lemmas.List.{get_or_default, length_push}
use Rattle.std.proofs.lemmas.Option.{slice_get-map, slice_get_within}
use Rattle.mltl_base.specs.declared.interval.Engine.{Engine}
use Rattle.mltl_base.specs.declared.interval.Engine.TheVariants as engine
use Rattle.mltl_base.specs.declared.interval.Interval.{Interval}
use Rattle.mltl_base.specs.declared.interval.Part.{Part}
use Rattle.mltl_base.specs.declared.interval.Part.TheVariants.{Bz, Ft, Pt}
use Rattle.mltl_base.specs.declared.operators.BzOp.{BzOp}
use Rattle.mltl_base.specs.declared.program.Program.{Program}
use Rattle.mltl_base.specs.Atoms.{Term, column, constant, negative, Atom, is_true, different, greater, at_least}
use Rattle.mltl_base.specs.Formula.{Core, catom, cnot, cand, cuntil, csince, core}
use Rattle.mltl_base.specs.Programs.{Expression, whole, truth, expression_term, term_at, expressions}
use Rattle.mltl_base.specs.Ranges.{Ranged, divisor, wide, range}
use Rattle.mltl_base.specs.Reports.{Output, formula, contract}
use Rattle.mltl_base.specs.Subformulas.{Asked, cores_of_output, subformulas, same_expression, same, place_of, instruction_of, bz_instruction, ft_instruction, pt_instruction, out_by}
use Rattle.mltl_base.proofs.Members.{get_after}
use Rattle.mltl_base.proofs.Sameness.{same_sound, same_self, same_expression_sound, same_expression_self}
use Rattle.mltl_base.proofs.Listing.{place_append, place_get}
use Rattle.mltl_base.proofs.Unfolding.{Each, Has, HasExpression, IsClosedAfter}
use Rattle.mltl_base.proofs.Booleans.{HasAtom, HasParts, IsWholeAfter}
use Rattle.c2po_ast.specs.Faults.{why_none}
use Rattle.c2po_ast.specs.Nodes.{IsBounded}
use Rattle.obs_verify.specs.declared.fault.VerifyFault.TheVariants.{Operand, Interval as BadInterval, Output as BadOutput}
use Rattle.obs_verify.specs.WellFormed.{bz_fault, first_in, ft_fault, has_operands, is_truth, is_whole, is_whole_before, is_window, output_fault, pt_fault, no_range_fault, reports_within, size_fault}
use Rattle.obs_verify.proofs.RuleLaws.{unless_eq}
use Rattle.obs_verify.proofs.WellBound.{both_none, from_each}
use Rattle.c2po_compile.proofs.Outputs.{IsFit}
use Rattle.c2po_compile.proofs.Reading.{IsReadable}
use Rattle.c2po_compile.proofs.Columns.{passes}

-- ---- lists

taken : {X Y : Type 0} (f : X → Y) (before rest : List X) → take (length before) (map f (before ++ rest)) ≡ map f before
taken f [] rest = refl
taken f (x ∷ before) rest = ap (◌∷◌ (f x)) (taken f before rest)

-- a rule that the next member keeps, and those after it
rule_more : {X Y : Type 0} (rule : ℕ → Y → _) (before : List X) (x : X) (y : Y) (ys : List Y) → rule (length before) y ≡ None → first_in rule (length (before ++ x ∷ [])) ys ≡ None → first_in rule (length before) (y ∷ ys) ≡ None
unfolding first_in
rule_more rule before x y ys here more =
    let place : length (before ++ x ∷ []) ≡ suc (length before) = omega (arith, length_push before x) in
    both_none (rule (length before) y) (first_in rule (suc (length before)) ys) here (subst (λ (n : ℕ). first_in rule n ys ≡ None) place more)

-- ---- expressions

gives_whole : (es : List Expression) (a : Term) → is_whole (Some (bz_instruction es (whole a))) ≡ true
gives_whole es (column c) = refl
gives_whole es _ = refl

gives_truth : (es : List Expression) (a : Atom) → is_truth (Some (bz_instruction es (truth a))) ≡ true
gives_truth es (is_true c) = refl
gives_truth es _ = refl

-- the instructions of a program are those of listed expressions
module _ (program : Program) (all : List Expression) (kept : program.bz ≡ map (bz_instruction all) all) where
  -- a listed truth is loaded
  truth_loaded : (a : Atom) → HasExpression all (truth a) → is_truth (slice_get program.bz (place_of same_expression (truth a) all)) ≡ true
  truth_loaded a h =
      let k : ℕ = place_of same_expression (truth a) all in
      let here : slice_get program.bz k ≡ Some (bz_instruction all (truth a)) =
      ap (λ (ops : List BzOp). slice_get ops k) kept
      ∙ (slice_get-map (bz_instruction all) all k ∙ ap (option_map (bz_instruction all)) (place_get same_expression same_expression_sound same_expression_self (truth a) all h)) in
      ap is_truth here ∙ gives_truth all a

  module _ (before rest : List Expression) (cut : all ≡ before ++ rest) where
    whole_before : (a : Term) → HasExpression before (whole a) → is_whole_before program (length before) (instruction_of all a) ≡ true
    whole_before a h =
        let k : ℕ = place_of same_expression (whole a) before in
        let place : instruction_of all a ≡ k = ap (place_of same_expression (whole a)) cut ∙ place_append same_expression same_expression_sound same_expression_self (whole a) before rest h in
        let ops : take (length before) program.bz ≡ map (bz_instruction all) before =
        ap (take (length before)) (kept ∙ ap (map (bz_instruction all)) cut) ∙ taken (bz_instruction all) before rest in
        let here : slice_get (take (length before) program.bz) (instruction_of all a) ≡ Some (bz_instruction all (whole a)) =
        ap₂ (λ (os : List BzOp) (n : ℕ). slice_get os n) ops place
        ∙ (slice_get-map (bz_instruction all) before k ∙ ap (option_map (bz_instruction all)) (place_get same_expression same_expression_sound same_expression_self (whole a) before h)) in
        ap is_whole here ∙ gives_whole all a

    both_before : (a b : Term) → HasExpression before (whole a) × HasExpression before (whole b) → (is_whole_before program (length before) (instruction_of all a) && is_whole_before program (length before) (instruction_of all b)) ≡ true
    both_before a b h = and_from (is_whole_before program (length before) (instruction_of all a)) (is_whole_before program (length before) (instruction_of all b)) (whole_before a h.0) (whole_before b h.1)

    operands_hold : (e : Expression) → HasParts before e → IsReadable program e → has_operands program (length before) (bz_instruction all e) ≡ true
    operands_hold (whole (column c)) h r = r.1
    operands_hold (whole (constant n)) h r = refl
    operands_hold (whole (negative a)) h r = whole_before a h
    operands_hold (truth (is_true c)) h r = r
    operands_hold (truth (different a b)) h r = absurd h
    operands_hold (truth (greater a b)) h r = absurd h
    operands_hold (truth (at_least a b)) h r = absurd h
    operands_hold _ h r = both_before _ _ h

has_range : (i : ℕ) (r : Ranged) → why_none r ≡ None → no_range_fault i r ≡ None
has_range i (Ok r) h = refl
has_range i (Err divisor) h = absurd (cc)
has_range i (Err wide) h = absurd (cc)

range_holds : (program : Program) (i : ℕ) (e : Expression) → IsReadable program e → no_range_fault i (range (expression_term (Some e))) ≡ None
unfolding range
range_holds program i (whole a) r = has_range i (range a) r.0
range_holds program i (truth a) r = refl

module _ (program : Program) (all : List Expression) (kept : program.bz ≡ map (bz_instruction all) all) (unfolds : expressions program.bz ≡ all) where
  bz_here : (before rest : List Expression) (e : Expression) → all ≡ before ++ e ∷ rest → HasParts before e → IsReadable program e → bz_fault program (length before) (bz_instruction all e) ≡ None
  bz_here before rest e cut h r =
      let stands : term_at (expressions program.bz) (length before) ≡ expression_term (Some e) =
      ap (λ (es : List Expression). term_at es (length before)) (unfolds ∙ cut) ∙ ap expression_term (get_after before rest e) in
      both_none _ _
      (passes _ (Operand Bz (length before)) (operands_hold program all kept before (e ∷ rest) cut e h r))
      (ap (λ (a : Term). no_range_fault (length before) (range a)) stands ∙ range_holds program (length before) e r)

  pub bz_none : (before es : List Expression) → all ≡ before ++ es → IsWholeAfter before es → Each (IsReadable program) es → first_in (bz_fault program) (length before) (map (bz_instruction all) es) ≡ None
  unfolding first_in
  bz_none before [] cut h r = refl
  bz_none before (e ∷ es) cut h r =
      rule_more (bz_fault program) before e (bz_instruction all e) (map (bz_instruction all) es) (bz_here before es e cut h.0 r.0)
      (bz_none (before ++ e ∷ []) es (cut ∙ sym (append_assoc before (e ∷ []) es)) h.1 r.1)

-- ---- formulas

place_before : (p : Core) (before rest : List Core) → Has before p → nat_lt (place_of same p (before ++ rest)) (length before) ≡ true
place_before p before rest h =
    let found : place_of same p (before ++ rest) ≡ place_of same p before = place_append same same_sound same_self p before rest h in
    let inside : place_of same p before < length before = slice_get_within before (place_of same p before) p (place_get same same_sound same_self p before h) in
    lt-ltb _ _ (omega arith)

window_holds : (i : Interval) → IsBounded i → is_window i ≡ true
window_holds i h = and_from _ _ (le-leb i.lo i.hi h.0) (le-leb i.hi 1048576 h.1)

module _ (program : Program) (es : List Expression) (kept : program.bz ≡ map (bz_instruction es) es) where
  ft_here : (before rest : List Core) (p : Core) → Rattle.mltl_base.proofs.Unfolding.HasOperands before p → HasAtom es p → IsFit program p →
      ft_fault program (length before) (ft_instruction es (before ++ rest) p) ≡ None
  ft_here before rest (catom x) h a f = both_none _ _ (passes _ (Operand Ft (length before)) (truth_loaded program es kept x a)) refl
  ft_here before rest (cnot p) h a f = both_none _ _ (passes _ (Operand Ft (length before)) (place_before p before rest h)) refl
  ft_here before rest (cand p q) h a f =
      both_none _ _ (passes _ (Operand Ft (length before)) (and_from _ _ (place_before p before rest h.0) (place_before q before rest h.1))) refl
  ft_here before rest (cuntil i p q) h a f =
      both_none _ _ (passes _ (Operand Ft (length before)) (and_from _ _ (place_before p before rest h.0) (place_before q before rest h.1)))
      (passes _ (BadInterval Ft (length before)) (window_holds i f))
  ft_here before rest _ h a f = refl

  pt_here : (before rest : List Core) (p : Core) → Rattle.mltl_base.proofs.Unfolding.HasOperands before p → HasAtom es p → IsFit program p →
      pt_fault program (length before) (pt_instruction es (before ++ rest) p) ≡ None
  pt_here before rest (catom x) h a f = both_none _ _ (passes _ (Operand Pt (length before)) (truth_loaded program es kept x a)) refl
  pt_here before rest (cnot p) h a f = both_none _ _ (passes _ (Operand Pt (length before)) (place_before p before rest h)) refl
  pt_here before rest (cand p q) h a f =
      both_none _ _ (passes _ (Operand Pt (length before)) (and_from _ _ (place_before p before rest h.0) (place_before q before rest h.1))) refl
  pt_here before rest (csince i p q) h a f =
      both_none _ _ (passes _ (Operand Pt (length before)) (and_from _ _ (place_before p before rest h.0) (place_before q before rest h.1)))
      (passes _ (BadInterval Pt (length before)) (window_holds i f))
  pt_here before rest _ h a f = refl

  pub ft_none : (all before ps : List Core) → all ≡ before ++ ps → IsClosedAfter before ps → Each (HasAtom es) ps → Each (IsFit program) ps →
      first_in (ft_fault program) (length before) (map (ft_instruction es all) ps) ≡ None
  unfolding first_in
  ft_none all before [] cut h a f = refl
  ft_none all before (p ∷ ps) cut h a f =
      rule_more (ft_fault program) before p (ft_instruction es all p) (map (ft_instruction es all) ps)
      (ap (λ (cs : List Core). ft_fault program (length before) (ft_instruction es cs p)) cut ∙ ft_here before (p ∷ ps) p h.0 a.0 f.0)
      (ft_none all (before ++ p ∷ []) ps (cut ∙ sym (append_assoc before (p ∷ []) ps)) h.1 a.1 f.1)

  pub pt_none : (all before ps : List Core) → all ≡ before ++ ps → IsClosedAfter before ps → Each (HasAtom es) ps → Each (IsFit program) ps →
      first_in (pt_fault program) (length before) (map (pt_instruction es all) ps) ≡ None
  unfolding first_in
  pt_none all before [] cut h a f = refl
  pt_none all before (p ∷ ps) cut h a f =
      rule_more (pt_fault program) before p (pt_instruction es all p) (map (pt_instruction es all) ps)
      (ap (λ (cs : List Core). pt_fault program (length before) (pt_instruction es cs p)) cut ∙ pt_here before (p ∷ ps) p h.0 a.0 f.0)
      (pt_none all (before ++ p ∷ []) ps (cut ∙ sym (append_assoc before (p ∷ []) ps)) h.1 a.1 f.1)

-- ---- outputs

listed_within : (p : Core) (ps : List Core) (count : ℕ) → count ≡ length ps → Has ps p → nat_lt (place_of same p ps) count ≡ true
listed_within p ps count size h =
    let inside : place_of same p ps < length ps = slice_get_within ps (place_of same p ps) p (place_get same same_sound same_self p ps h) in
    lt-ltb _ _ (omega arith)

ft_reports : (fts pts : ℕ) (ps : List Core) (name : List ℕ) (o : Output) → fts ≡ length ps → Each (Has ps) (cores_of_output o) → reports_within fts pts (out_by ps engine.Ft name o) ≡ true
ft_reports fts pts ps name (formula p) size h = listed_within (core p) ps fts size h.0
ft_reports fts pts ps name (contract p q) size h = and_from _ _ (listed_within (core p) ps fts size h.0) (listed_within (core q) ps fts size h.1.0)

pt_reports : (fts pts : ℕ) (ps : List Core) (name : List ℕ) (o : Output) → pts ≡ length ps → Each (Has ps) (cores_of_output o) → reports_within fts pts (out_by ps engine.Pt name o) ≡ true
pt_reports fts pts ps name (formula p) size h = listed_within (core p) ps pts size h.0
pt_reports fts pts ps name (contract p q) size h = and_from _ _ (listed_within (core p) ps pts size h.0) (listed_within (core q) ps pts size h.1.0)

module _ (program : Program) (all : List Asked) (fts : length program.ft ≡ length (subformulas engine.Ft all)) (pts : length program.pt ≡ length (subformulas engine.Pt all)) where
  out_reports : (e : Engine) (name : List ℕ) (o : Output) → Each (Has (subformulas e all)) (cores_of_output o) →
      reports_within (length program.ft) (length program.pt) (out_by (subformulas e all) e name o) ≡ true
  out_reports engine.Ft name o h = ft_reports (length program.ft) (length program.pt) (subformulas engine.Ft all) name o fts h
  out_reports engine.Pt name o h = pt_reports (length program.ft) (length program.pt) (subformulas engine.Pt all) name o pts h

  pub outs_none : (k : ℕ) (outs : List Asked) → Each (λ a. Each (Has (subformulas a.engine all)) (cores_of_output a.output)) outs →
      first_in (output_fault program) k (map (λ a. out_by (subformulas a.engine all) a.engine a.name a.output) outs) ≡ None
  unfolding first_in
  outs_none k [] h = refl
  outs_none k (a ∷ outs) h = both_none _ _ (passes _ (BadOutput k) (out_reports a.engine a.name a.output h.0)) (outs_none (suc k) outs h.1)

-- ---- sizes

pub sizes_none : (part : Part) (needed sizes : List ℕ) → sizes ≡ needed → first_in (size_fault part needed) 0 sizes ≡ None
sizes_none part needed sizes same = from_each (size_fault part needed) sizes (λ i d inside.
    unless_eq (slice_index_or sizes i d) (slice_index needed i) _ (get_or_default sizes i d 0 inside ∙ ap (λ (ns : List ℕ). slice_index ns i) same))
