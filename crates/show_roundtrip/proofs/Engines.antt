-- Going on through the lines of the engines' instructions.

use Rattle.std.proofs.Common.{◌≡◌, ◌∙◌, ℕ, ◌+◌, ◌<◌, ◌≤◌, zero, suc, true, List, [], ◌∷◌, ◌++◌, length, map, Option, Some, None, refl, ap, sym, subst, arith, append_assoc, inl, inr, nat_lt}
use Rattle.std.specs.Prelude.{slice_get, slice_index_or, nat_le, ◌⊎◌, ⊤}
use Rattle.std.proofs.lemmas.Option.{slice_get_within, slice_get-get_or, same_Some}
use Rattle.std.proofs.lemmas.List.{length-append}
use Rattle.std.proofs.lemmas.Bool.{and_parts, leb-true}
use Rattle.std.proofs.lemmas.Bool.Decides.{nat_tests}
use Rattle.mltl_base.specs.declared.interval.Engine.TheVariants.{Ft, Pt}
use Rattle.mltl_base.specs.declared.interval.Interval.{Interval}
use Rattle.mltl_base.specs.declared.limits.TheConstants.{MAX_BOUND}
use Rattle.mltl_base.specs.declared.operators.BzOp.{BzOp}
use Rattle.mltl_base.specs.declared.operators.FtOp as ft
use Rattle.mltl_base.specs.declared.operators.PtOp as pt
use Rattle.mltl_base.specs.declared.program.Program.{Program}
use Rattle.mltl_base.specs.Atoms.{Atom, is_true}
use Rattle.mltl_base.specs.Formula as full
use Rattle.mltl_base.specs.Formula.{Formula, Core, ctrue, catom, cnot, cand, cuntil, csince, plain, formula_over}
use Rattle.mltl_base.specs.Programs.{Expression, whole, truth, atom_of, atoms, expressions, core_at, op_formula, past_formula_of, formulas_after, past_formulas_after, cores_of}
use Rattle.obs_verify.specs.WellFormed.{is_truth, is_window, has_future_operands, has_future_window, has_past_operands, has_past_window}
use Rattle.c2po_types.specs.Values.{truth_value, interval}
use Rattle.c2po_types.specs.Environment.{Env, value_of}
use Rattle.c2po_types.specs.Outputs.{Place, place_after}
use Rattle.obs_show.specs.Lines.{Reference, always, named, Form, Line, define}
use Rattle.obs_show.specs.Naming.{ft_name, pt_name, bz_reference, ft_called, ft_reference, pt_called, pt_reference}
use Rattle.obs_show.specs.Text.{ft_form, pt_form, ft_line, pt_line}
use Rattle.obs_show.specs.Weight.{formula_weight}
use Rattle.c2po_ast.proofs.Places.{get_left}
use Rattle.show_roundtrip.specs.Said.{form_shape, line_body}
use Rattle.show_roundtrip.specs.Unfolded.{AreNew}
use Rattle.show_roundtrip.proofs.Passing.{form_value}
use Rattle.show_roundtrip.proofs.Definable.{IsFormulaDefinable, AreDefinable, formula_definable}
use Rattle.show_roundtrip.proofs.Values.{IsLater, declared_here, MeansFormula, formula_later, FormSaysFormula, negation_says, and_says, until_says, since_says, window_kept}
use Rattle.show_roundtrip.proofs.Walk.{Reaches, reaches_at_once, get_push, get_seam, columns_in, IsTruthExpression, KnowsOne, BzKnown, lines_from, put, put_is, defined_later, reaches_define, new_head, knows_later, signals_later}

-- what is known of the first instructions of an engine, by what each is called
abbrev pub KnowsCores : (ℕ → Reference) → List ℕ → Env → List Core → Type 0
KnowsCores reference columns env before = (j : ℕ) (c : Core) → slice_get before j ≡ Some c → MeansFormula columns env (reference j) (plain c)

-- what stays known as more names are declared
abbrev pub Stays : (Place → Type 0) → Type 0
Stays J = (p q : Place) → IsLater p.values q.values → q.outputs ≡ p.outputs → J p → J q

pub record CoresKnown (reference : ℕ → Reference) (columns : List ℕ) (J : Place → Type 0) (cores : List Core) (p : Place) : Type 0 where
  pub base : J p
  pub known : KnowsCores reference columns p.values cores

cores_later : (reference : ℕ → Reference) (columns : List ℕ) (env later : Env) (before : List Core) → IsLater env later → KnowsCores reference columns env before → KnowsCores reference columns later before
cores_later reference columns env later before g h j c i = formula_later columns env later (reference j) (plain c) g (h j c i)

cores_push : (reference : ℕ → Reference) (columns : List ℕ) (env : Env) (before : List Core) (c : Core) → KnowsCores reference columns env before → MeansFormula columns env (reference (length before)) (plain c) → KnowsCores reference columns env (before ++ c ∷ [])
cores_push reference columns env before c h k j d i = pick (get_push before c d j i)
  where
    pick : (slice_get before j ≡ Some d) ⊎ ((j ≡ length before) × (c ≡ d)) → MeansFormula columns env (reference j) (plain d)
    pick (inl old) = h j d old
    pick (inr last) = subst (λ (m : ℕ). MeansFormula columns env (reference m) (plain d)) (sym last.0) (subst (λ (x : Core). MeansFormula columns env (reference (length before)) (plain x)) last.1 k)

-- an instruction without a line means its formula by what it is called; one with a line has a form that says it
abbrev pub OptionMeans : List ℕ → Env → Option Form → Formula → List ℕ → Reference → Type 0
OptionMeans columns env None p name x = MeansFormula columns env x p
OptionMeans columns env (Some f) p name x = (x ≡ named name) × FormSaysFormula columns env f p

step_core : (program : Program) (reference : ℕ → Reference) (columns : List ℕ) (J : Place → Type 0) (i n : ℕ) (name : List ℕ) (o : Option Form) (c : Core) (before cores : List Core) (ls more : List Line) (p : Place)
    → Stays J → length before ≡ i → OptionMeans columns p.values o (plain c) name (reference i) → (AreDefinable program → IsFormulaDefinable (plain c)) → CoresKnown reference columns J before p
    → ((m : ℕ) (q : Place) → CoresKnown reference columns J (before ++ c ∷ []) q → AreNew m (ls ++ more) q → Reaches program m (ls ++ more) q more (CoresKnown reference columns J cores))
    → AreNew n (put name o (ls ++ more)) p → Reaches program n (put name o (ls ++ more)) p more (CoresKnown reference columns J cores)
step_core program reference columns J i n name None c before cores ls more p stays len m definable h go new =
    go n p (record { base = h.base; known = cores_push reference columns p.values before c h.known (subst (λ (k : ℕ). MeansFormula columns p.values (reference k) (plain c)) (sym len) m) }) new
step_core program reference columns J i n name (Some f) c before cores ls more p stays len m definable h go new =
    let head = new_head n name f (ls ++ more) p new in
    let q : Place = place_after (line_body n (define name f)) p in
    let later : IsLater p.values q.values = defined_later n name f p in
    let one : MeansFormula columns q.values (named name) (plain c) =
    record { of = value_of (form_shape n f) p.values; finds = declared_here name (value_of (form_shape n f) p.values) p.values head.0; says = m.1 n } in
    let here : MeansFormula columns q.values (reference (length before)) (plain c) =
    subst (λ (k : ℕ). MeansFormula columns q.values (reference k) (plain c)) (sym len) (subst (λ (x : Reference). MeansFormula columns q.values x (plain c)) (sym m.0) one) in
    let same : p.outputs + 0 ≡ p.outputs = omega arith in
    let next : CoresKnown reference columns J (before ++ c ∷ []) q = record {
      base = stays p q later same h.base;
      known = cores_push reference columns q.values before c (cores_later reference columns p.values q.values before later h.known) here;
    } in
    reaches_define program n name f (ls ++ more) more p (CoresKnown reference columns J cores)
    (λ d. formula_definable columns (form_value n f p) (plain c) (m.1 n) (definable d)) (go (n + 1) q next head.1)

bz_stays : (program : Program) (count : ℕ) (es : List Expression) → Stays (BzKnown program count es)
bz_stays program count es p q later same h =
    record { knows = knows_later program p.values q.values es later h.knows; signals = signals_later program.signals p.values q.values later h.signals; outputs = same ∙ h.outputs }

cores_stay : (reference : ℕ → Reference) (columns : List ℕ) (J : Place → Type 0) (cores : List Core) → Stays J → Stays (CoresKnown reference columns J cores)
cores_stay reference columns J cores stays p q later same h = record { base = stays p q later same h.base; known = cores_later reference columns p.values q.values cores later h.known }

pub core_operand : (reference : ℕ → Reference) (columns : List ℕ) (env : Env) (before : List Core) (g : ℕ) → KnowsCores reference columns env before → g < length before → MeansFormula columns env (reference g) (plain (core_at before g))
core_operand reference columns env before g h inside = h g (core_at before g) (slice_get-get_or before g ctrue inside)

below : (g i n : ℕ) → nat_lt g i ≡ true → n ≡ i → g < n
below g i n h e = grind (arith, nat_tests)

window_within : (i : Interval) → is_window i ≡ true → interval i.lo i.hi ≡ i
window_within i h =
    let parts : (nat_le i.lo i.hi ≡ true) × (nat_le i.hi MAX_BOUND ≡ true) = and_parts (nat_le i.lo i.hi) (nat_le i.hi MAX_BOUND) h in
    window_kept i (leb-true i.lo i.hi parts.0) (leb-true i.hi MAX_BOUND parts.1)

map_at : {X Y : Type 0} (f : X → Y) (xs : List X) (k : ℕ) (x : X) (d : Y) → slice_get xs k ≡ Some x → slice_index_or (map f xs) k d ≡ f x
map_at f [] k x d e = absurd (cc)
map_at f (y ∷ xs) zero x d e = ap f (same_Some y x e)
map_at f (y ∷ xs) (suc k) x d e = map_at f xs k x d e

-- a loaded truth
truth_means : (program : Program) (env : Env) (a : ℕ) (e : Expression) → KnowsOne program env a e → IsTruthExpression e → MeansFormula (columns_in program) env (bz_reference program a) (full.atom (atom_of (Some e)))
truth_means program env a (truth x) k h = record { of = k.means.of; finds = k.means.finds; says = k.means.says }
truth_means program env a (whole t) k h = absurd h

pub is_within : (ops : List BzOp) (a : ℕ) → is_truth (slice_get ops a) ≡ true → a < length ops
is_within ops a h = go (slice_get ops a) refl h
  where
    go : (o : Option BzOp) → slice_get ops a ≡ o → is_truth o ≡ true → a < length ops
    go None e g = absurd (cc)
    go (Some op) e g = slice_get_within ops a op e

loaded_means : (program : Program) (count : ℕ) (es : List Expression) (p : Place) (a : ℕ) → BzKnown program count es p → length es ≡ length program.bz → es ≡ expressions program.bz → is_truth (slice_get program.bz a) ≡ true
    → MeansFormula (columns_in program) p.values (bz_reference program a) (plain (catom (slice_index_or (atoms program.bz) a (is_true 0))))
unfolding plain
loaded_means program count es p a h len all ok =
    let inside : a < length es = omega (arith, is_within program.bz a ok) in
    let e : Expression = slice_index_or es a (whole (Rattle.mltl_base.specs.Atoms.column 0)) in
    let at : slice_get es a ≡ Some e = slice_get-get_or es a (whole (Rattle.mltl_base.specs.Atoms.column 0)) inside in
    let k : KnowsOne program p.values a e = h.knows a e at in
    let m : MeansFormula (columns_in program) p.values (bz_reference program a) (full.atom (atom_of (Some e))) = truth_means program p.values a e k (k.kind ok) in
    let same : slice_index_or (atoms program.bz) a (is_true 0) ≡ atom_of (Some e) = ap (λ (xs : List Expression). slice_index_or (map (λ x. atom_of (Some x)) xs) a (is_true 0)) (sym all) ∙ map_at (λ x. atom_of (Some x)) es a e (is_true 0) at in
    subst (λ (x : Atom). MeansFormula (columns_in program) p.values (bz_reference program a) (full.atom x)) (sym same) m

always_means : (columns : List ℕ) (env : Env) → MeansFormula columns env always (plain ctrue)
unfolding plain formula_over formula_weight
always_means columns env = record { of = truth_value true; finds = refl; says = record { tree = full.truth; is = refl; over = refl; weighs = refl } }

-- instructions of future time
abbrev FtKnown : Program → ℕ → List Expression → List Core → Place → Type 0
FtKnown program count es cores p = CoresKnown (ft_reference program) (columns_in program) (BzKnown program count es) cores p

ft_means : (program : Program) (count : ℕ) (es : List Expression) (p : Place) (i : ℕ) (before : List Core) (op : ft.FtOp) → length es ≡ length program.bz → es ≡ expressions program.bz → length before ≡ i
    → has_future_operands program i op ≡ true → has_future_window op ≡ true → FtKnown program count es before p
    → OptionMeans (columns_in program) p.values (ft_form program op) (plain (op_formula (atoms program.bz) before op)) (ft_name program i) (ft_called program i (Some op))
unfolding plain
ft_means program count es p i before ft.TheVariants.True le all len ok w h = always_means (columns_in program) p.values
ft_means program count es p i before (ft.TheVariants.Load a) le all len ok w h = loaded_means program count es p a h.base le all ok
ft_means program count es p i before (ft.TheVariants.Not g) le all len ok w h =
    (refl, negation_says (columns_in program) p.values (ft_reference program g) (plain (core_at before g)) (core_operand (ft_reference program) (columns_in program) p.values before g h.known (below g i (length before) ok len)))
ft_means program count es p i before (ft.TheVariants.And l r) le all len ok w h =
    let parts : (nat_lt l i ≡ true) × (nat_lt r i ≡ true) = and_parts (nat_lt l i) (nat_lt r i) ok in (
      refl,
      and_says (columns_in program) p.values (ft_reference program l) (ft_reference program r) (plain (core_at before l)) (plain (core_at before r))
          (core_operand (ft_reference program) (columns_in program) p.values before l h.known (below l i (length before) parts.0 len))
          (core_operand (ft_reference program) (columns_in program) p.values before r h.known (below r i (length before) parts.1 len)),
    )
ft_means program count es p i before (ft.TheVariants.Until l r window) le all len ok w h =
    let parts : (nat_lt l i ≡ true) × (nat_lt r i ≡ true) = and_parts (nat_lt l i) (nat_lt r i) ok in (
      refl,
      until_says (columns_in program) p.values window (ft_reference program l) (ft_reference program r) (plain (core_at before l)) (plain (core_at before r)) (window_within window w)
          (core_operand (ft_reference program) (columns_in program) p.values before l h.known (below l i (length before) parts.0 len))
          (core_operand (ft_reference program) (columns_in program) p.values before r h.known (below r i (length before) parts.1 len)),
    )

abbrev pub HaveFutureOperands : Program → ℕ → List ft.FtOp → Type 0
HaveFutureOperands program i [] = ⊤
HaveFutureOperands program i (op ∷ ops) = (has_future_operands program i op ≡ true) × (has_future_window op ≡ true) × HaveFutureOperands program (i + 1) ops

-- the formulas of earlier instructions stay, so an instruction has its own among those of all
future_kept : (loaded : List Atom) (ops : List ft.FtOp) (before : List Core) (i : ℕ) (c : Core) → slice_get before i ≡ Some c → slice_get (formulas_after loaded before ops) i ≡ Some c
unfolding formulas_after
future_kept loaded [] before i c h = h
future_kept loaded (op ∷ ops) before i c h = future_kept loaded ops (before ++ op_formula loaded before op ∷ []) i c (get_left before (op_formula loaded before op ∷ []) i c h)

future_here : (program : Program) (op : ft.FtOp) (ops : List ft.FtOp) (before : List Core) → formulas_after (atoms program.bz) before (op ∷ ops) ≡ cores_of program Ft
    → slice_get (cores_of program Ft) (length before) ≡ Some (op_formula (atoms program.bz) before op)
unfolding formulas_after
future_here program op ops before ends =
    ap (λ (cs : List Core). slice_get cs (length before)) (sym ends)
    ∙ future_kept (atoms program.bz) ops (before ++ op_formula (atoms program.bz) before op ∷ []) (length before) (op_formula (atoms program.bz) before op) (get_seam before (op_formula (atoms program.bz) before op) [])

pub walk_ft : (program : Program) (count : ℕ) (es : List Expression) (front ops : List ft.FtOp) (before : List Core) (i n : ℕ) (more : List Line) (p : Place)
    → program.ft ≡ front ++ ops → length front ≡ i → length before ≡ i → length es ≡ length program.bz → es ≡ expressions program.bz → HaveFutureOperands program i ops → formulas_after (atoms program.bz) before ops ≡ cores_of program Ft
    → CoresKnown (ft_reference program) (columns_in program) (BzKnown program count es) before p
    → AreNew n (lines_from (ft_line program) i ops ++ more) p
    → Reaches program n (lines_from (ft_line program) i ops ++ more) p more (CoresKnown (ft_reference program) (columns_in program) (BzKnown program count es) (formulas_after (atoms program.bz) before ops))
unfolding formulas_after
walk_ft program count es front [] before i n more p all fronts len le whole_es ok ends h new = reaches_at_once program n more p (FtKnown program count es before) new h
walk_ft program count es front (op ∷ ops) before i n more p all fronts len le whole_es ok ends h new =
    let at : slice_get program.ft i ≡ Some op = ap (λ (xs : List ft.FtOp). slice_get xs i) all ∙ ap (λ (k : ℕ). slice_get (front ++ op ∷ ops) k) (sym fronts) ∙ get_seam front op ops in
    let c : Core = op_formula (atoms program.bz) before op in
    let lines : lines_from (ft_line program) i (op ∷ ops) ++ more ≡ put (ft_name program i) (ft_form program op) (lines_from (ft_line program) (i + 1) ops ++ more) = put_is (ft_name program i) (ft_form program op) (lines_from (ft_line program) (i + 1) ops) more in
    let m : OptionMeans (columns_in program) p.values (ft_form program op) (plain c) (ft_name program i) (ft_reference program i) =
    subst (λ (o : Option ft.FtOp). OptionMeans (columns_in program) p.values (ft_form program op) (plain c) (ft_name program i) (ft_called program i o)) (sym at)
    (ft_means program count es p i before op le whole_es len ok.0 ok.1 h) in
    subst (λ (ls : List Line). Reaches program n ls p more (FtKnown program count es (formulas_after (atoms program.bz) (before ++ c ∷ []) ops))) (sym lines)
    (step_core program (ft_reference program) (columns_in program) (BzKnown program count es) i n (ft_name program i) (ft_form program op) c before (formulas_after (atoms program.bz) (before ++ c ∷ []) ops) (lines_from (ft_line program) (i + 1) ops) more p
    (bz_stays program count es) len m
    (λ d. d.ft (length before) c (future_here program op ops before ends)) h
    (λ k q known fresh. walk_ft program count es (front ++ op ∷ []) ops (before ++ c ∷ []) (i + 1) k more q (all ∙ sym (append_assoc front (op ∷ []) ops)) (omega (arith, length-append front (op ∷ []))) (omega (arith, length-append before (c ∷ []))) le whole_es ok.2 ends known fresh)
    (subst (λ (ls : List Line). AreNew n ls p) lines new))

-- instructions of past time
abbrev PtKnown : Program → ℕ → List Expression → List Core → List Core → Place → Type 0
PtKnown program count es fts cores p = CoresKnown (pt_reference program) (columns_in program) (CoresKnown (ft_reference program) (columns_in program) (BzKnown program count es) fts) cores p

pt_means : (program : Program) (count : ℕ) (es : List Expression) (fts : List Core) (p : Place) (i : ℕ) (before : List Core) (op : pt.PtOp) → length es ≡ length program.bz → es ≡ expressions program.bz → length before ≡ i
    → has_past_operands program i op ≡ true → has_past_window op ≡ true → PtKnown program count es fts before p
    → OptionMeans (columns_in program) p.values (pt_form program op) (plain (past_formula_of (atoms program.bz) before op)) (pt_name program i) (pt_called program i (Some op))
unfolding plain
pt_means program count es fts p i before pt.TheVariants.True le all len ok w h = always_means (columns_in program) p.values
pt_means program count es fts p i before (pt.TheVariants.Load a) le all len ok w h = loaded_means program count es p a h.base.base le all ok
pt_means program count es fts p i before (pt.TheVariants.Not g) le all len ok w h =
    (refl, negation_says (columns_in program) p.values (pt_reference program g) (plain (core_at before g)) (core_operand (pt_reference program) (columns_in program) p.values before g h.known (below g i (length before) ok len)))
pt_means program count es fts p i before (pt.TheVariants.And l r) le all len ok w h =
    let parts : (nat_lt l i ≡ true) × (nat_lt r i ≡ true) = and_parts (nat_lt l i) (nat_lt r i) ok in (
      refl,
      and_says (columns_in program) p.values (pt_reference program l) (pt_reference program r) (plain (core_at before l)) (plain (core_at before r))
          (core_operand (pt_reference program) (columns_in program) p.values before l h.known (below l i (length before) parts.0 len))
          (core_operand (pt_reference program) (columns_in program) p.values before r h.known (below r i (length before) parts.1 len)),
    )
pt_means program count es fts p i before (pt.TheVariants.Since l r window) le all len ok w h =
    let parts : (nat_lt l i ≡ true) × (nat_lt r i ≡ true) = and_parts (nat_lt l i) (nat_lt r i) ok in (
      refl,
      since_says (columns_in program) p.values window (pt_reference program l) (pt_reference program r) (plain (core_at before l)) (plain (core_at before r)) (window_within window w)
          (core_operand (pt_reference program) (columns_in program) p.values before l h.known (below l i (length before) parts.0 len))
          (core_operand (pt_reference program) (columns_in program) p.values before r h.known (below r i (length before) parts.1 len)),
    )

abbrev pub HavePastOperands : Program → ℕ → List pt.PtOp → Type 0
HavePastOperands program i [] = ⊤
HavePastOperands program i (op ∷ ops) = (has_past_operands program i op ≡ true) × (has_past_window op ≡ true) × HavePastOperands program (i + 1) ops

past_kept : (loaded : List Atom) (ops : List pt.PtOp) (before : List Core) (i : ℕ) (c : Core) → slice_get before i ≡ Some c → slice_get (past_formulas_after loaded before ops) i ≡ Some c
unfolding past_formulas_after
past_kept loaded [] before i c h = h
past_kept loaded (op ∷ ops) before i c h = past_kept loaded ops (before ++ past_formula_of loaded before op ∷ []) i c (get_left before (past_formula_of loaded before op ∷ []) i c h)

past_here : (program : Program) (op : pt.PtOp) (ops : List pt.PtOp) (before : List Core) → past_formulas_after (atoms program.bz) before (op ∷ ops) ≡ cores_of program Pt
    → slice_get (cores_of program Pt) (length before) ≡ Some (past_formula_of (atoms program.bz) before op)
unfolding past_formulas_after
past_here program op ops before ends =
    ap (λ (cs : List Core). slice_get cs (length before)) (sym ends)
    ∙ past_kept (atoms program.bz) ops (before ++ past_formula_of (atoms program.bz) before op ∷ []) (length before) (past_formula_of (atoms program.bz) before op) (get_seam before (past_formula_of (atoms program.bz) before op) [])

pub walk_pt : (program : Program) (count : ℕ) (es : List Expression) (fts : List Core) (front ops : List pt.PtOp) (before : List Core) (i n : ℕ) (more : List Line) (p : Place)
    → program.pt ≡ front ++ ops → length front ≡ i → length before ≡ i → length es ≡ length program.bz → es ≡ expressions program.bz → HavePastOperands program i ops → past_formulas_after (atoms program.bz) before ops ≡ cores_of program Pt
    → CoresKnown (pt_reference program) (columns_in program) (CoresKnown (ft_reference program) (columns_in program) (BzKnown program count es) fts) before p
    → AreNew n (lines_from (pt_line program) i ops ++ more) p
    → Reaches program n (lines_from (pt_line program) i ops ++ more) p more (CoresKnown (pt_reference program) (columns_in program) (CoresKnown (ft_reference program) (columns_in program) (BzKnown program count es) fts) (past_formulas_after (atoms program.bz) before ops))
unfolding past_formulas_after
walk_pt program count es fts front [] before i n more p all fronts len le whole_es ok ends h new = reaches_at_once program n more p (PtKnown program count es fts before) new h
walk_pt program count es fts front (op ∷ ops) before i n more p all fronts len le whole_es ok ends h new =
    let at : slice_get program.pt i ≡ Some op = ap (λ (xs : List pt.PtOp). slice_get xs i) all ∙ ap (λ (k : ℕ). slice_get (front ++ op ∷ ops) k) (sym fronts) ∙ get_seam front op ops in
    let c : Core = past_formula_of (atoms program.bz) before op in
    let lines : lines_from (pt_line program) i (op ∷ ops) ++ more ≡ put (pt_name program i) (pt_form program op) (lines_from (pt_line program) (i + 1) ops ++ more) = put_is (pt_name program i) (pt_form program op) (lines_from (pt_line program) (i + 1) ops) more in
    let m : OptionMeans (columns_in program) p.values (pt_form program op) (plain c) (pt_name program i) (pt_reference program i) =
    subst (λ (o : Option pt.PtOp). OptionMeans (columns_in program) p.values (pt_form program op) (plain c) (pt_name program i) (pt_called program i o)) (sym at)
    (pt_means program count es fts p i before op le whole_es len ok.0 ok.1 h) in
    subst (λ (ls : List Line). Reaches program n ls p more (PtKnown program count es fts (past_formulas_after (atoms program.bz) (before ++ c ∷ []) ops))) (sym lines)
    (step_core program (pt_reference program) (columns_in program) (CoresKnown (ft_reference program) (columns_in program) (BzKnown program count es) fts) i n (pt_name program i) (pt_form program op) c before (past_formulas_after (atoms program.bz) (before ++ c ∷ []) ops) (lines_from (pt_line program) (i + 1) ops) more p
    (cores_stay (ft_reference program) (columns_in program) (BzKnown program count es) fts (bz_stays program count es)) len m
    (λ d. d.pt (length before) c (past_here program op ops before ends)) h
    (λ k q known fresh. walk_pt program count es fts (front ++ op ∷ []) ops (before ++ c ∷ []) (i + 1) k more q (all ∙ sym (append_assoc front (op ∷ []) ops)) (omega (arith, length-append front (op ∷ []))) (omega (arith, length-append before (c ∷ []))) le whole_es ok.2 ends known fresh)
    (subst (λ (ls : List Line). AreNew n ls p) lines new))
