-- What the lines of a whole program ask for: what its outputs unfold to.

use Rattle.std.proofs.Common.{◌≡◌, ◌∙◌, ℕ, ◌+◌, ◌<◌, Bool, true, false, List, [], ◌∷◌, ◌++◌, length, map, Some, None, refl, ap, ap₂, sym, subst, arith, append_assoc, append-nil, inl, inr, nat_lt}
use Rattle.std.specs.Prelude.{slice_get, if◌then◌else◌, ◌⊎◌, decimal, ⊤}
use Rattle.std.specs.List.{enumerate_from}
use Rattle.std.specs.Str.{bytes_eq}
use Rattle.std.proofs.lemmas.Slice.Eq.{bytes_eq-Decides}
use Rattle.std.proofs.lemmas.List.{length-append, map-append}
use Rattle.std.proofs.lemmas.Bool.{and_parts, ltb-true}
use Rattle.std.proofs.lemmas.Bool.Decides.{nat_tests}
use Rattle.mltl_base.specs.declared.interval.Engine.{Engine}
use Rattle.mltl_base.specs.declared.interval.Engine.TheVariants.{Ft, Pt}
use Rattle.mltl_base.specs.declared.operators.BzOp.{BzOp}
use Rattle.mltl_base.specs.declared.operators.FtOp.{FtOp}
use Rattle.mltl_base.specs.declared.operators.PtOp.{PtOp}
use Rattle.mltl_base.specs.declared.program.Out as out
use Rattle.mltl_base.specs.declared.program.Program.{Program}
use Rattle.mltl_base.specs.declared.program.StoredSignal.{StoredSignal}
use Rattle.mltl_base.specs.Formula.{Formula, Core, plain, formula_over}
use Rattle.mltl_base.specs.Atoms.{Atom}
use Rattle.mltl_base.specs.Reports as reports
use Rattle.mltl_base.specs.Reports.{Output}
use Rattle.mltl_base.specs.Programs.{Expression, expression_of, expressions_after, expressions, atoms, op_formula, past_formula_of, formulas_after, past_formulas_after, formula_at}
use Rattle.mltl_base.specs.Subformulas.{Asked, asked_of_program, unfolded_outputs}
use Rattle.c2po_ast.specs.Outputs.{asked_over}
use Rattle.obs_verify.specs.Soundness.{SoundOps}
use Rattle.obs_verify.specs.WellFormed.{reports_within}
use Rattle.c2po_types.specs.Values as values
use Rattle.c2po_types.specs.Environment.{Env, nothing, value, declare, signal_value, value_of}
use Rattle.c2po_types.specs.Outputs.{Place, before, place_after, name_of, asked_at, asked_from, outputs_of}
use Rattle.obs_show.specs.Lines.{Reference, Line, input}
use Rattle.obs_show.specs.Naming.{ft_reference, pt_reference}
use Rattle.obs_show.specs.Text.{signal_line, bz_line, ft_line, pt_line, shown_label, output_line, numbered_lines, output_lines, shown_lines}
use Rattle.show_roundtrip.specs.Said.{reference_shape, line_body, line_items}
use Rattle.show_roundtrip.specs.Unfolded.{AreNew}
use Rattle.show_roundtrip.proofs.Passing.{ValuesPass}
use Rattle.show_roundtrip.proofs.Values.{IsLater, declare_later, declared_here, MeansFormula, formula_by}
use Rattle.show_roundtrip.proofs.Walk.{Reaches, reaches_at_once, reaches_on, nothing_added, get_push, columns_in, KnowsSignals, Knows, BzKnown, HaveOwnColumns, HaveOperands, walk_bz}
use Rattle.show_roundtrip.proofs.Engines.{KnowsCores, CoresKnown, core_operand, HaveFutureOperands, walk_ft, HavePastOperands, walk_pt}

-- after the lines of signals
record SignalsKnown (program : Program) (count : ℕ) (p : Place) : Type 0 where
  signals : KnowsSignals program.signals p.values
  outputs : p.outputs ≡ count

pub input_declares : (n : ℕ) (x : List ℕ) (truth : Bool) (p : Place) → (place_after (line_body n (input x truth)) p).values ≡ declare x (value (signal_value truth p.signals)) p.values
input_declares n x true p = refl
input_declares n x false p = refl

signals_push : (front : List StoredSignal) (s : StoredSignal) (k : ℕ) (env later : Env) → length front ≡ k → IsLater env later → later s.name ≡ value (signal_value s.truth k) → KnowsSignals front env → KnowsSignals (front ++ s ∷ []) later
signals_push front s k env later len g here h j t i = pick (get_push front s t j i)
  where
    pick : (slice_get front j ≡ Some t) ⊎ ((j ≡ length front) × (s ≡ t)) → later t.name ≡ value (signal_value t.truth j)
    pick (inl old) = g t.name (signal_value t.truth j) (h j t old)
    pick (inr last) =
        subst (λ (u : StoredSignal). later u.name ≡ value (signal_value u.truth j)) last.1
        (subst (λ (m : ℕ). later s.name ≡ value (signal_value s.truth m)) (sym (last.0 ∙ len)) here)

input_head : (n : ℕ) (x : List ℕ) (truth : Bool) (ls : List Line) (p : Place) → AreNew n (input x truth ∷ ls) p → (p.values x ≡ nothing) × AreNew (n + 1) ls (place_after (line_body n (input x truth)) p)
unfolding AreNew
input_head n x truth ls p h = h

reaches_input : (program : Program) (n : ℕ) (x : List ℕ) (truth : Bool) (ls more : List Line) (p : Place) (I : Place → Type 0)
    → Reaches program (n + 1) ls (place_after (line_body n (input x truth)) p) more I → Reaches program n (input x truth ∷ ls) p more I
unfolding asked_from line_items ValuesPass
reaches_input program n x truth ls more p I r = record {
  line = r.line;
  place = r.place;
  new = r.new;
  holds = r.holds;
  same = r.same;
  passes = λ d total pass. (tt, subst (ValuesPass (n + 1) ls (place_after (line_body n (input x truth)) p)) (nothing_added total) (r.passes d total pass));
}

walk_signals : (program : Program) (count : ℕ) (front signals : List StoredSignal) (n : ℕ) (more : List Line) (p : Place)
    → program.signals ≡ front ++ signals → length front ≡ p.signals → KnowsSignals front p.values → p.outputs ≡ count → AreNew n (map signal_line signals ++ more) p
    → Reaches program n (map signal_line signals ++ more) p more (SignalsKnown program count)
walk_signals program count front [] n more p all len h outs new =
    reaches_at_once program n more p (SignalsKnown program count) new (record { signals = subst (λ (ss : List StoredSignal). KnowsSignals ss p.values) (sym (all ∙ append-nil front)) h; outputs = outs })
walk_signals program count front (s ∷ signals) n more p all len h outs new =
    let head = input_head n s.name s.truth (map signal_line signals ++ more) p new in
    let q : Place = place_after (line_body n (input s.name s.truth)) p in
    let is : q.values ≡ declare s.name (value (signal_value s.truth p.signals)) p.values = input_declares n s.name s.truth p in
    let later : IsLater p.values q.values = subst (λ (e : Env). IsLater p.values e) (sym is) (declare_later s.name (value (signal_value s.truth p.signals)) p.values) in
    let here : q.values s.name ≡ value (signal_value s.truth p.signals) = ap (λ (e : Env). e s.name) is ∙ declared_here s.name (signal_value s.truth p.signals) p.values head.0 in
    let more_outs : q.outputs ≡ p.outputs = omega arith in
    let longer : length (front ++ s ∷ []) ≡ q.signals = omega (arith, length-append front (s ∷ [])) in
    reaches_input program n s.name s.truth (map signal_line signals ++ more) more p (SignalsKnown program count)
    (walk_signals program count (front ++ s ∷ []) signals (n + 1) more q (all ∙ sym (append_assoc front (s ∷ []) signals)) longer
    (signals_push front s p.signals p.values q.values len later here h) (more_outs ∙ outs) head.1)

-- the name of an output is its label, or its number
name_kept : (k : ℕ) (name : List ℕ) → name_of k (shown_label k name) ≡ name
name_kept k name = go (bytes_eq name (decimal k)) refl
  where
    go : (b : Bool) → bytes_eq name (decimal k) ≡ b → name_of k (if b then None else Some name) ≡ name
    go true e = sym ((bytes_eq-Decides name (decimal k)).0 e)
    go false e = refl

-- references of both engines mean the formulas of their instructions
pub record EnginesKnown (program : Program) (env : Env) : Type 0 where
  pub ft : (i : ℕ) → i < length program.ft → MeansFormula (columns_in program) env (ft_reference program i) (plain (formula_at program Ft i))
  pub pt : (i : ℕ) → i < length program.pt → MeansFormula (columns_in program) env (pt_reference program i) (plain (formula_at program Pt i))

-- what an output asks for
abbrev pub Within : Program → out.Out → Type 0
Within program o = reports_within (length program.ft) (length program.pt) o ≡ true

abbrev one_asked : Engine → List ℕ → Formula → Asked
one_asked engine name p = record { engine = engine; name = name; output = reports.formula p }

abbrev two_asked : Engine → List ℕ → Formula → Formula → Asked
two_asked engine name p q = record { engine = engine; name = name; output = reports.contract p q }

-- the formula of a reference on a line, over columns
abbrev said : Program → Place → ℕ → Reference → Formula
said program p n x = formula_over (columns_in program) (values.formula_of (value_of (reference_shape n x) p.values))

output_asks : (program : Program) (n k : ℕ) (p : Place) (o : out.Out) → p.outputs ≡ k → EnginesKnown program p.values → Within program o
    → map (asked_over (columns_in program)) (asked_at (line_body n (output_line program k o)) p) ≡ asked_of_program program o ∷ []
output_asks program n k p (out.TheVariants.Formula Ft i name) e h w =
    ap₂ (λ (x : List ℕ) (f : Formula). one_asked Ft x f ∷ []) (ap (λ (m : ℕ). name_of m (shown_label k name)) e ∙ name_kept k name)
    (formula_by (columns_in program) p.values n (ft_reference program i) (plain (formula_at program Ft i)) (h.ft i (ltb-true i (length program.ft) w)))
output_asks program n k p (out.TheVariants.Formula Pt i name) e h w =
    ap₂ (λ (x : List ℕ) (f : Formula). one_asked Pt x f ∷ []) (ap (λ (m : ℕ). name_of m (shown_label k name)) e ∙ name_kept k name)
    (formula_by (columns_in program) p.values n (pt_reference program i) (plain (formula_at program Pt i)) (h.pt i (ltb-true i (length program.pt) w)))
output_asks program n k p (out.TheVariants.Contract Ft i j name) e h w =
    let parts : (nat_lt i (length program.ft) ≡ true) × (nat_lt j (length program.ft) ≡ true) = and_parts (nat_lt i (length program.ft)) (nat_lt j (length program.ft)) w in
    ap (λ (x : List ℕ). two_asked Ft x (said program p n (ft_reference program i)) (said program p n (ft_reference program j)) ∷ []) (ap (λ (m : ℕ). name_of m (shown_label k name)) e ∙ name_kept k name)
    ∙ ap₂ (λ (f g : Formula). two_asked Ft name f g ∷ [])
    (formula_by (columns_in program) p.values n (ft_reference program i) (plain (formula_at program Ft i)) (h.ft i (ltb-true i (length program.ft) parts.0)))
    (formula_by (columns_in program) p.values n (ft_reference program j) (plain (formula_at program Ft j)) (h.ft j (ltb-true j (length program.ft) parts.1)))
output_asks program n k p (out.TheVariants.Contract Pt i j name) e h w =
    let parts : (nat_lt i (length program.pt) ≡ true) × (nat_lt j (length program.pt) ≡ true) = and_parts (nat_lt i (length program.pt)) (nat_lt j (length program.pt)) w in
    ap (λ (x : List ℕ). two_asked Pt x (said program p n (pt_reference program i)) (said program p n (pt_reference program j)) ∷ []) (ap (λ (m : ℕ). name_of m (shown_label k name)) e ∙ name_kept k name)
    ∙ ap₂ (λ (f g : Formula). two_asked Pt name f g ∷ [])
    (formula_by (columns_in program) p.values n (pt_reference program i) (plain (formula_at program Pt i)) (h.pt i (ltb-true i (length program.pt) parts.0)))
    (formula_by (columns_in program) p.values n (pt_reference program j) (plain (formula_at program Pt j)) (h.pt j (ltb-true j (length program.pt) parts.1)))

-- after an output nothing but its number is new
pub after_output : (program : Program) (n k : ℕ) (o : out.Out) (p : Place) → ((place_after (line_body n (output_line program k o)) p).values ≡ p.values) × ((place_after (line_body n (output_line program k o)) p).outputs ≡ p.outputs + 1)
after_output program n k (out.TheVariants.Formula engine i name) p = (refl, refl)
after_output program n k (out.TheVariants.Contract engine i j name) p = (refl, refl)

abbrev pub HaveReports : Program → List out.Out → Type 0
HaveReports program [] = ⊤
HaveReports program (o ∷ outs) = Within program o × HaveReports program outs

outputs_ask : (program : Program) (outs : List out.Out) (n k : ℕ) (p : Place) → p.outputs ≡ k → EnginesKnown program p.values → HaveReports program outs
    → map (asked_over (columns_in program)) (asked_from (line_items n (map (λ x. output_line program x.0 x.1) (enumerate_from k outs))) p) ≡ map (asked_of_program program) outs
unfolding asked_from line_items
outputs_ask program [] n k p e h w = refl
outputs_ask program (o ∷ outs) n k p e h w =
    let q : Place = place_after (line_body n (output_line program k o)) p in
    let after = after_output program n k o p in
    let next : q.outputs ≡ k + 1 = after.1 ∙ ap (λ (m : ℕ). m + 1) e in
    map-append (asked_over (columns_in program)) (asked_at (line_body n (output_line program k o)) p) (asked_from (line_items (n + 1) (map (λ x. output_line program x.0 x.1) (enumerate_from (k + 1) outs))) q)
    ∙ ap₂ (λ (a b : List Asked). a ++ b) (output_asks program n k p o e h w.0)
    (outputs_ask program outs (n + 1) (k + 1) q next (subst (EnginesKnown program) (sym after.0) h) w.1)

-- what a program needs, so that its lines say its outputs
pub record CanBeSaid (program : Program) : Type 0 where
  pub version : program.version ≡ 2
  pub columns : HaveOwnColumns program.signals
  pub bz : HaveOperands program 0 program.bz
  pub sound : SoundOps program.width [] program.bz
  pub ft : HaveFutureOperands program 0 program.ft
  pub pt : HavePastOperands program 0 program.pt
  pub reports : HaveReports program program.outs

pub expressions_count : (ops : List BzOp) (before : List Expression) → length (expressions_after before ops) ≡ length before + length ops
unfolding expressions_after
expressions_count [] before = omega arith
expressions_count (op ∷ ops) before = omega (arith, expressions_count ops (before ++ expression_of before op ∷ []), length-append before (expression_of before op ∷ []))

pub formulas_count : (loaded : List Atom) (ops : List FtOp) (before : List Core) → length (formulas_after loaded before ops) ≡ length before + length ops
unfolding formulas_after
formulas_count loaded [] before = omega arith
formulas_count loaded (op ∷ ops) before = omega (arith, formulas_count loaded ops (before ++ op_formula loaded before op ∷ []), length-append before (op_formula loaded before op ∷ []))

pub past_count : (loaded : List Atom) (ops : List PtOp) (before : List Core) → length (past_formulas_after loaded before ops) ≡ length before + length ops
unfolding past_formulas_after
past_count loaded [] before = omega arith
past_count loaded (op ∷ ops) before = omega (arith, past_count loaded ops (before ++ past_formula_of loaded before op ∷ []), length-append before (past_formula_of loaded before op ∷ []))

-- everything that is known after the lines of instructions
abbrev pub AllKnown : Program → Place → Type 0
AllKnown program p =
    CoresKnown (pt_reference program) (columns_in program)
    (CoresKnown (ft_reference program) (columns_in program) (BzKnown program 0 (expressions program.bz)) (formulas_after (atoms program.bz) [] program.ft))
    (past_formulas_after (atoms program.bz) [] program.pt) p

pub engines_known : (program : Program) (p : Place) → AllKnown program p → EnginesKnown program p.values
engines_known program p h = record {
  ft = λ i inside. core_operand (ft_reference program) (columns_in program) p.values (formulas_after (atoms program.bz) [] program.ft) i h.base.known (omega (arith, formulas_count (atoms program.bz) program.ft []));
  pt = λ i inside. core_operand (pt_reference program) (columns_in program) p.values (past_formulas_after (atoms program.bz) [] program.pt) i h.known (omega (arith, past_count (atoms program.bz) program.pt []));
}

-- before any line nothing is known
no_signals : (env : Env) → KnowsSignals [] env
no_signals env k s e = absurd (cc)

no_expressions : (program : Program) (env : Env) → Knows program env []
no_expressions program env j e i = absurd (cc)

no_cores : (reference : ℕ → Reference) (columns : List ℕ) (env : Env) → KnowsCores reference columns env []
no_cores reference columns env j c i = absurd (cc)

-- through all lines of a program up to those of its outputs
pub lines_reach : (program : Program) → CanBeSaid program → AreNew 1 (shown_lines program) before → Reaches program 1 (shown_lines program) before (output_lines program program.outs) (AllKnown program)
lines_reach program h new =
    let outs : List Line = output_lines program program.outs in
    let pts : List Line = numbered_lines (pt_line program) program.pt ++ outs in
    let fts : List Line = numbered_lines (ft_line program) program.ft ++ pts in
    let bzs : List Line = numbered_lines (bz_line program) program.bz ++ fts in
    let first = walk_signals program 0 [] program.signals 1 bzs before refl refl (no_signals before.values) refl new in
    let second = walk_bz program [] program.bz [] 0 first.line 0 fts first.place refl refl refl h.bz h.version h.columns h.sound refl
    (record { knows = no_expressions program first.place.values; signals = first.holds.signals; outputs = first.holds.outputs }) first.new in
    let count : length (expressions program.bz) ≡ length program.bz = omega (arith, expressions_count program.bz []) in
    let third = walk_ft program 0 (expressions program.bz) [] program.ft [] 0 second.line pts second.place refl refl refl count refl h.ft refl
    (record { base = second.holds; known = no_cores (ft_reference program) (columns_in program) second.place.values }) second.new in
    let fourth = walk_pt program 0 (expressions program.bz) (formulas_after (atoms program.bz) [] program.ft) [] program.pt [] 0 third.line outs third.place refl refl refl count refl h.pt refl
    (record { base = third.holds; known = no_cores (pt_reference program) (columns_in program) third.place.values }) third.new in
    reaches_on program 1 (shown_lines program) bzs outs before (SignalsKnown program 0) (AllKnown program) first
    (reaches_on program first.line bzs fts outs first.place (BzKnown program 0 (expressions program.bz)) (AllKnown program) second
    (reaches_on program second.line fts pts outs second.place
    (CoresKnown (ft_reference program) (columns_in program) (BzKnown program 0 (expressions program.bz)) (formulas_after (atoms program.bz) [] program.ft)) (AllKnown program) third fourth))

-- the lines of a program ask for what its outputs unfold to
pub lines_ask : (program : Program) → CanBeSaid program → AreNew 1 (shown_lines program) before
    → map (asked_over (columns_in program)) (outputs_of (line_items 1 (shown_lines program))) ≡ unfolded_outputs program
unfolding outputs_of
lines_ask program h new =
    let r = lines_reach program h new in
    ap (λ (xs : List Asked). map (asked_over (columns_in program)) xs) r.same
    ∙ outputs_ask program program.outs r.line 0 r.place r.holds.base.base.outputs (engines_known program r.place r.holds) h.reports
