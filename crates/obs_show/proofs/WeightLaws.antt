-- The weights of instructions are those of what they unfold to.

use Rattle.std.proofs.Common.{◌≡◌, ℕ, ◌+◌, ◌<◌, ◌≤◌, zero, suc, Some, None, Option, List, [], ◌∷◌, ◌++◌, length, map, drop, take, slice_get, slice_index, slice_index_or, refl, sym, ap, subst, ◌∙◌, All, zero-add, arith}
use Rattle.std.specs.List.{sum_by}
use Rattle.std.proofs.lemmas.List.{drop_more, drop_all, get_or-map, length_push, length-map, map-append, map_more, take_all}
use Rattle.std.proofs.lemmas.List.Sums.{sum_by-append}
use Rattle.mltl_base.specs.declared.interval.Engine.TheVariants.{Ft, Pt}
use Rattle.mltl_base.specs.declared.operators.BzOp.{BzOp}
use Rattle.mltl_base.specs.declared.operators.BzOp.TheVariants.{Column, IsTrue, Const, Neg, Add, Sub, Mul, Div, Rem, Eq, Lt, Le}
use Rattle.mltl_base.specs.declared.operators.FtOp as ft
use Rattle.mltl_base.specs.declared.operators.PtOp as pt
use Rattle.mltl_base.specs.declared.program.Out.{Out}
use Rattle.mltl_base.specs.declared.program.Out.TheVariants.{Formula, Contract}
use Rattle.mltl_base.specs.declared.program.Program.{Program}
use Rattle.mltl_base.specs.Atoms.{Atom, is_true}
use Rattle.mltl_base.specs.Formula.{Core, ctrue, catom, plain}
use Rattle.mltl_base.specs.Programs.{Expression, whole, truth, atom_of, atoms, cores_of, expression_of, expressions, expressions_after, op_formula, formulas, formulas_after, output_of, past_formula_of, past_formulas, past_formulas_after, term_at, expression_term}
use Rattle.mltl_base.specs.Queues.{AreInOrder, IsAfterOperands, NamesInstructions}
use Rattle.obs_verify.specs.InstructionRanges.{ReadsBefore}
use Rattle.obs_verify.specs.Layout.{HasLayout}
use Rattle.obs_verify.specs.Running.{ArePastInOrder, IsAfterPastOperands, IsTruthExpression}
use Rattle.obs_verify.specs.Soundness.{SoundOps, SoundOp, IsWhole, IsWholeExpression}
use Rattle.obs_verify.specs.WellFormed.{IsWellFormed}
use Rattle.obs_verify.proofs.RunLaws.{all_named, runs_future, runs_past}
use Rattle.obs_show.specs.Weight.{formula_weight, output_weight, term_weight, program_weight}
use Rattle.obs_show.specs.Weighing.{bz_weight, capped, expression_weight, formula_weights, ft_weight, operator_weight, out_weight, pt_weight}

-- the weights that the code keeps
abbrev pub told : Expression → ℕ
told e = capped (expression_weight e)

abbrev pub told_core : Core → ℕ
told_core p = capped (formula_weight (plain p))

-- capped operands give what their own weights give
joins : (a b m n : ℕ) → a ≡ capped m → b ≡ capped n → operator_weight a b ≡ capped (1 + m + n)
joins a b m n e f = omega (arith, e, f)

joins_one : (a m : ℕ) → a ≡ capped m → operator_weight a 0 ≡ capped (1 + m)
joins_one a m e = omega (arith, e)

-- ---- the Booleanizer

found : (es : List Expression) (a : ℕ) (e : Expression) → slice_get es a ≡ Some e → (a < length es) × (slice_index (map told es) a ≡ told e)
found [] a e is = absurd (cc)
found (x ∷ xs) zero e is = (omega arith, let same : x ≡ e = cc in ap told same)
found (x ∷ xs) (suc a) e is = let rest = found xs a e is in (omega (arith, rest.0), rest.1)

record ReadsWhole (es : List Expression) (a : ℕ) : Type 0 where
  within : a < length es
  is : slice_index (map told es) a ≡ capped (term_weight (term_at es a))

whole_of : (es : List Expression) (a : ℕ) (o : Option Expression) → slice_get es a ≡ o → IsWholeExpression o → ReadsWhole es a
whole_of es a None at h = absurd h
whole_of es a (Some (truth b)) at h = absurd h
whole_of es a (Some (whole t)) at h =
    let here = found es a (whole t) at in
    record { within = here.0; is = here.1 ∙ ap (λ o. capped (term_weight (expression_term o))) (sym at) }

whole_at : (es : List Expression) (a : ℕ) → IsWhole es a → ReadsWhole es a
whole_at es a h = whole_of es a (slice_get es a) refl h

pub sound_reads : (width : ℕ) (es : List Expression) (op : BzOp) → SoundOp width es op → ReadsBefore (length es) op
sound_reads width es (Neg a) h = (whole_at es a h.0).within
sound_reads width es (Add a b) h = ((whole_at es a h.0.0).within, (whole_at es b h.0.1).within)
sound_reads width es (Sub a b) h = ((whole_at es a h.0.0).within, (whole_at es b h.0.1).within)
sound_reads width es (Mul a b) h = ((whole_at es a h.0.0).within, (whole_at es b h.0.1).within)
sound_reads width es (Div a b) h = ((whole_at es a h.0.0).within, (whole_at es b h.0.1).within)
sound_reads width es (Rem a b) h = ((whole_at es a h.0.0).within, (whole_at es b h.0.1).within)
sound_reads width es (Eq a b) h = ((whole_at es a h.0).within, (whole_at es b h.1).within)
sound_reads width es (Lt a b) h = ((whole_at es a h.0).within, (whole_at es b h.1).within)
sound_reads width es (Le a b) h = ((whole_at es a h.0).within, (whole_at es b h.1).within)
sound_reads width es _ h = tt

two : (es : List Expression) (a b : ℕ) → IsWhole es a → IsWhole es b → operator_weight (slice_index (map told es) a) (slice_index (map told es) b) ≡ capped (1 + term_weight (term_at es a) + term_weight (term_at es b))
two es a b h k = joins _ _ _ _ (whole_at es a h).is (whole_at es b k).is

sound_weight : (width : ℕ) (es : List Expression) (op : BzOp) → SoundOp width es op → bz_weight (map told es) op ≡ told (expression_of es op)
unfolding term_weight
sound_weight width es (Neg a) h = joins_one _ _ (whole_at es a h.0).is
sound_weight width es (Add a b) h = two es a b h.0.0 h.0.1
sound_weight width es (Sub a b) h = two es a b h.0.0 h.0.1
sound_weight width es (Mul a b) h = two es a b h.0.0 h.0.1
sound_weight width es (Div a b) h = two es a b h.0.0 h.0.1
sound_weight width es (Rem a b) h = two es a b h.0.0 h.0.1
sound_weight width es (Eq a b) h = two es a b h.0 h.1
sound_weight width es (Lt a b) h = two es a b h.0 h.1
sound_weight width es (Le a b) h = two es a b h.0 h.1
sound_weight width es _ h = refl

-- the first instructions are weighed
pub record BzWeighed (width : ℕ) (ops : List BzOp) (i : ℕ) (weights : List ℕ) : Type 0 where
  pub before : List Expression
  pub rest : expressions_after before (drop i ops) ≡ expressions ops
  pub sound : SoundOps width before (drop i ops)
  pub are : weights ≡ map told before

pub bz_none : (width : ℕ) (ops : List BzOp) → SoundOps width [] ops → BzWeighed width ops 0 []
bz_none width ops sound = record { before = []; rest = refl; sound = sound; are = refl }

bz_next : (width : ℕ) (ops : List BzOp) (i : ℕ) (weights : List ℕ) (w : BzWeighed width ops i weights) (d : BzOp) → i < length ops
    → SoundOp width w.before (slice_index_or ops i d) × SoundOps width (w.before ++ expression_of w.before (slice_index_or ops i d) ∷ []) (drop (i + 1) ops)
unfolding SoundOps
bz_next width ops i weights w d here = subst (SoundOps width w.before) (drop_more ops i d here) w.sound

pub bz_reads : (width : ℕ) (ops : List BzOp) (i : ℕ) (weights : List ℕ) (d : BzOp) → BzWeighed width ops i weights → i < length ops → ReadsBefore (length weights) (slice_index_or ops i d)
bz_reads width ops i weights d w here =
    let P : ℕ → Type 0 = λ n. ReadsBefore n (slice_index_or ops i d) in
    subst P (sym (ap length w.are ∙ length-map w.before told)) (sound_reads width w.before (slice_index_or ops i d) (bz_next width ops i weights w d here).0)

pub bz_more : (width : ℕ) (ops : List BzOp) (i : ℕ) (weights more : List ℕ) (d : BzOp) (n : ℕ) → BzWeighed width ops i weights → i < length ops → n ≡ bz_weight weights (slice_index_or ops i d) → more ≡ weights ++ n ∷ []
    → BzWeighed width ops (i + 1) more
unfolding expressions_after
bz_more width ops i weights more d n w here is pushed =
    let op : BzOp = slice_index_or ops i d in
    let next = bz_next width ops i weights w d here in
    record {
      before = w.before ++ expression_of w.before op ∷ [];
      rest = ap (expressions_after w.before) (sym (drop_more ops i d here)) ∙ w.rest;
      sound = next.1;
      are = pushed ∙ ap (λ ws. ws ++ n ∷ []) w.are ∙ ap (λ m. map told w.before ++ m ∷ []) (is ∙ ap (λ ws. bz_weight ws op) w.are ∙ sound_weight width w.before op next.0)
          ∙ sym (map-append told w.before (expression_of w.before op ∷ []));
    }

pub bz_all : (width : ℕ) (ops : List BzOp) (i : ℕ) (weights : List ℕ) → BzWeighed width ops i weights → length ops ≤ i → weights ≡ map told (expressions ops)
unfolding expressions_after
bz_all width ops i weights w past = w.are ∙ ap (map told) (ap (expressions_after w.before) (sym (drop_all i ops past)) ∙ w.rest)

-- ---- the engines

-- a member of a list, as its number
picked : {X : Type 0} (f : X → ℕ) (xs : List X) (i : ℕ) (d : X) (n : ℕ) → n ≡ length xs → i < n → slice_index (map f xs) i ≡ f (slice_index_or xs i d)
picked f xs i d n long here = get_or-map f xs i d 0 (omega (arith, long))

loaded_at : (es : List Expression) (k : ℕ) (o : Option Expression) → slice_get es k ≡ o → IsTruthExpression o
    → (k < length es) × (slice_index (map told es) k ≡ capped (formula_weight (plain (catom (slice_index_or (map (λ e. atom_of (Some e)) es) k (is_true 0))))))
unfolding formula_weight plain
loaded_at es k None at h = absurd h
loaded_at es k (Some (whole t)) at h = absurd h
loaded_at es k (Some (truth a)) at h =
    let here = found es k (truth a) at in
    let is : slice_index_or (map (λ e. atom_of (Some e)) es) k (is_true 0) ≡ a = atom_found es k a at in
    (here.0, here.1 ∙ ap (λ b. capped (formula_weight (plain (catom b)))) (sym is))
  where
    atom_found : (es : List Expression) (k : ℕ) (a : Atom) → slice_get es k ≡ Some (truth a) → slice_index_or (map (λ e. atom_of (Some e)) es) k (is_true 0) ≡ a
    atom_found [] k a is = absurd (cc)
    atom_found (x ∷ xs) zero a is = let same : x ≡ truth a = cc in ap (λ e. atom_of (Some e)) same
    atom_found (x ∷ xs) (suc k) a is = atom_found xs k a is

module _ (es : List Expression) where
  abbrev held : List Atom
  held = map (λ e. atom_of (Some e)) es

  -- what is loaded is a truth
  abbrev pub Loads : ℕ → Type 0
  Loads k = IsTruthExpression (slice_get es k)

  pub loads_within : (k : ℕ) → Loads k → k < length (map told es)
  loads_within k h = let here = loaded_at es k (slice_get es k) refl h in omega (arith, here.0, length-map es told)

  two_cores : (cs : List Core) (n l r : ℕ) → n ≡ length cs → l < n → r < n
      → operator_weight (slice_index (map told_core cs) l) (slice_index (map told_core cs) r) ≡ capped (1 + formula_weight (plain (slice_index_or cs l ctrue)) + formula_weight (plain (slice_index_or cs r ctrue)))
  two_cores cs n l r long h k = joins _ _ _ _ (picked told_core cs l ctrue n long h) (picked told_core cs r ctrue n long k)

  ft_here : (cs : List Core) (n : ℕ) (op : ft.FtOp) → n ≡ length cs → IsAfterOperands n op → ((k : ℕ) → op ≡ ft.TheVariants.Load k → Loads k) → ft_weight (map told es) (map told_core cs) op ≡ told_core (op_formula held cs op)
  unfolding formula_weight plain
  ft_here cs n ft.TheVariants.True long after loads = refl
  ft_here cs n (ft.TheVariants.Load k) long after loads = (loaded_at es k (slice_get es k) refl (loads k refl)).1
  ft_here cs n (ft.TheVariants.Not g) long after loads = joins_one _ _ (picked told_core cs g ctrue n long after)
  ft_here cs n (ft.TheVariants.And l r) long after loads = two_cores cs n l r long after.0 after.1
  ft_here cs n (ft.TheVariants.Until l r window) long after loads = two_cores cs n l r long after.0 after.1

  pt_here : (cs : List Core) (n : ℕ) (op : pt.PtOp) → n ≡ length cs → IsAfterPastOperands n op → ((k : ℕ) → op ≡ pt.TheVariants.Load k → Loads k) → pt_weight (map told es) (map told_core cs) op ≡ told_core (past_formula_of held cs op)
  unfolding formula_weight plain
  pt_here cs n pt.TheVariants.True long after loads = refl
  pt_here cs n (pt.TheVariants.Load k) long after loads = (loaded_at es k (slice_get es k) refl (loads k refl)).1
  pt_here cs n (pt.TheVariants.Not g) long after loads = joins_one _ _ (picked told_core cs g ctrue n long after)
  pt_here cs n (pt.TheVariants.And l r) long after loads = two_cores cs n l r long after.0 after.1
  pt_here cs n (pt.TheVariants.Since l r window) long after loads = two_cores cs n l r long after.0 after.1

  -- the first instructions are weighed
  pub record FtWeighed (ops : List ft.FtOp) (i : ℕ) (weights : List ℕ) : Type 0 where
    pub before : List Core
    pub rest : formulas_after held before (drop i ops) ≡ formulas held ops
    pub long : i ≡ length before
    pub are : weights ≡ map told_core before

  pub ft_more : (ops : List ft.FtOp) (i : ℕ) (weights more : List ℕ) (d : ft.FtOp) (n : ℕ) → FtWeighed ops i weights → i < length ops → IsAfterOperands i (slice_index_or ops i d)
      → ((k : ℕ) → slice_index_or ops i d ≡ ft.TheVariants.Load k → Loads k) → n ≡ ft_weight (map told es) weights (slice_index_or ops i d) → more ≡ weights ++ n ∷ [] → FtWeighed ops (i + 1) more
  unfolding formulas_after
  ft_more ops i weights more d n w here after loads is pushed =
      let op : ft.FtOp = slice_index_or ops i d in
      record {
        before = w.before ++ op_formula held w.before op ∷ [];
        rest = ap (formulas_after held w.before) (sym (drop_more ops i d here)) ∙ w.rest;
        long = omega (arith, w.long, length_push w.before (op_formula held w.before op));
        are = pushed ∙ ap (λ ws. ws ++ n ∷ []) w.are ∙ ap (λ m. map told_core w.before ++ m ∷ []) (is ∙ ap (λ ws. ft_weight (map told es) ws op) w.are ∙ ft_here w.before i op w.long after loads)
            ∙ sym (map-append told_core w.before (op_formula held w.before op ∷ []));
      }

  pub ft_all : (ops : List ft.FtOp) (i : ℕ) (weights : List ℕ) → FtWeighed ops i weights → length ops ≤ i → weights ≡ map told_core (formulas held ops)
  unfolding formulas_after
  ft_all ops i weights w past = w.are ∙ ap (map told_core) (ap (formulas_after held w.before) (sym (drop_all i ops past)) ∙ w.rest)

  pub record PtWeighed (ops : List pt.PtOp) (i : ℕ) (weights : List ℕ) : Type 0 where
    pub before : List Core
    pub rest : past_formulas_after held before (drop i ops) ≡ past_formulas held ops
    pub long : i ≡ length before
    pub are : weights ≡ map told_core before

  pub pt_more : (ops : List pt.PtOp) (i : ℕ) (weights more : List ℕ) (d : pt.PtOp) (n : ℕ) → PtWeighed ops i weights → i < length ops → IsAfterPastOperands i (slice_index_or ops i d)
      → ((k : ℕ) → slice_index_or ops i d ≡ pt.TheVariants.Load k → Loads k) → n ≡ pt_weight (map told es) weights (slice_index_or ops i d) → more ≡ weights ++ n ∷ [] → PtWeighed ops (i + 1) more
  unfolding past_formulas_after
  pt_more ops i weights more d n w here after loads is pushed =
      let op : pt.PtOp = slice_index_or ops i d in
      record {
        before = w.before ++ past_formula_of held w.before op ∷ [];
        rest = ap (past_formulas_after held w.before) (sym (drop_more ops i d here)) ∙ w.rest;
        long = omega (arith, w.long, length_push w.before (past_formula_of held w.before op));
        are = pushed ∙ ap (λ ws. ws ++ n ∷ []) w.are ∙ ap (λ m. map told_core w.before ++ m ∷ []) (is ∙ ap (λ ws. pt_weight (map told es) ws op) w.are ∙ pt_here w.before i op w.long after loads)
            ∙ sym (map-append told_core w.before (past_formula_of held w.before op ∷ []));
      }

  pub pt_all : (ops : List pt.PtOp) (i : ℕ) (weights : List ℕ) → PtWeighed ops i weights → length ops ≤ i → weights ≡ map told_core (past_formulas held ops)
  unfolding past_formulas_after
  pt_all ops i weights w past = w.are ∙ ap (map told_core) (ap (past_formulas_after held w.before) (sym (drop_all i ops past)) ∙ w.rest)

-- ---- outputs

length_after : (loaded : List Atom) (before : List Core) (ops : List ft.FtOp) → length (formulas_after loaded before ops) ≡ length before + length ops
unfolding formulas_after
length_after loaded before [] = omega arith
length_after loaded before (op ∷ ops) = omega (arith, length_after loaded (before ++ op_formula loaded before op ∷ []) ops, length_push before (op_formula loaded before op))

length_past : (loaded : List Atom) (before : List Core) (ops : List pt.PtOp) → length (past_formulas_after loaded before ops) ≡ length before + length ops
unfolding past_formulas_after
length_past loaded before [] = omega arith
length_past loaded before (op ∷ ops) = omega (arith, length_past loaded (before ++ past_formula_of loaded before op ∷ []) ops, length_push before (past_formula_of loaded before op))

pub length_future_weights : (program : Program) → length (formula_weights program Ft) ≡ length program.ft
length_future_weights program = omega (arith, length-map (cores_of program Ft) told_core, length_after (atoms program.bz) [] program.ft)

pub length_past_weights : (program : Program) → length (formula_weights program Pt) ≡ length program.pt
length_past_weights program = omega (arith, length-map (cores_of program Pt) told_core, length_past (atoms program.bz) [] program.pt)

-- a contract's weights together
pairs : (a b m n : ℕ) → a ≡ capped m → b ≡ capped n → capped (a + b) ≡ capped (m + n)
pairs a b m n e f = omega (arith, e, f)

out_here : (program : Program) (out : Out) → NamesInstructions (length (formula_weights program Ft)) (length (formula_weights program Pt)) out
    → out_weight (formula_weights program Ft) (formula_weights program Pt) out ≡ capped (output_weight (output_of program out))
out_here program (Formula Ft g name) h = picked told_core (cores_of program Ft) g ctrue _ (length-map (cores_of program Ft) told_core) h
out_here program (Formula Pt g name) h = picked told_core (cores_of program Pt) g ctrue _ (length-map (cores_of program Pt) told_core) h
out_here program (Contract Ft l r name) h =
    pairs _ _ _ _ (picked told_core (cores_of program Ft) l ctrue _ (length-map (cores_of program Ft) told_core) h.0) (picked told_core (cores_of program Ft) r ctrue _ (length-map (cores_of program Ft) told_core) h.1)
out_here program (Contract Pt l r name) h =
    pairs _ _ _ _ (picked told_core (cores_of program Pt) l ctrue _ (length-map (cores_of program Pt) told_core) h.0) (picked told_core (cores_of program Pt) r ctrue _ (length-map (cores_of program Pt) told_core) h.1)

-- the first outputs together
abbrev pub weight_before : Program → List Out → ℕ → ℕ
weight_before program outs i = sum_by output_weight (map (output_of program) (take i outs))

-- the weights that an output reads are there
pub out_named : (program : Program) (future past : List ℕ) (outs : List Out) (i : ℕ) (out : Out) → IsWellFormed program → future ≡ formula_weights program Ft → past ≡ formula_weights program Pt → outs ≡ program.outs
    → i < length outs → out ≡ slice_index_or outs i out → NamesInstructions (length future) (length past) out
out_named program future past outs i out good fs ps same here is =
    let P : List Out → Type 0 = All (NamesInstructions (length program.ft) (length program.pt)) in
    let named : All (NamesInstructions (length program.ft) (length program.pt)) outs = subst P (sym same) (all_named program good) in
    let at : NamesInstructions (length program.ft) (length program.pt) out = subst (NamesInstructions (length program.ft) (length program.pt)) (sym is) (named i out here) in
    subst (λ n. NamesInstructions n (length past) out) (sym (ap length fs ∙ length_future_weights program))
    (subst (λ n. NamesInstructions (length program.ft) n out) (sym (ap length ps ∙ length_past_weights program)) at)

out_is : (program : Program) (future past : List ℕ) (out : Out) → future ≡ formula_weights program Ft → past ≡ formula_weights program Pt → NamesInstructions (length future) (length past) out
    → out_weight future past out ≡ capped (output_weight (output_of program out))
out_is program future past out fs ps named =
    let P : List ℕ → List ℕ → Type 0 = λ ws vs. NamesInstructions (length ws) (length vs) out in
    let at : P (formula_weights program Ft) (formula_weights program Pt) = subst (λ ws. P ws (formula_weights program Pt)) fs (subst (P future) ps named) in
    ap (λ ws. out_weight ws past out) fs ∙ ap (λ vs. out_weight (formula_weights program Ft) vs out) ps ∙ out_here program out at

-- one output more
more_weight : (program : Program) (outs : List Out) (i : ℕ) (out : Out) → i < length outs → out ≡ slice_index_or outs i out → weight_before program outs (i + 1) ≡ weight_before program outs i + output_weight (output_of program out)
more_weight program outs i out here is =
    let last : sum_by output_weight (output_of program out ∷ []) ≡ output_weight (output_of program out) = zero-add (output_weight (output_of program out)) in
    ap (sum_by output_weight) (map_more (output_of program) outs i out here ∙ ap (λ o. map (output_of program) (take i outs) ++ output_of program o ∷ []) (sym is))
    ∙ sum_by-append output_weight (map (output_of program) (take i outs)) (output_of program out ∷ []) ∙ ap (λ n. weight_before program outs i + n) last

pub out_more : (program : Program) (future past : List ℕ) (outs : List Out) (i total now part : ℕ) (out : Out) → future ≡ formula_weights program Ft → past ≡ formula_weights program Pt → i < length outs → out ≡ slice_index_or outs i out
    → NamesInstructions (length future) (length past) out → part ≡ out_weight future past out → now ≡ capped (total + part) → total ≡ capped (weight_before program outs i) → now ≡ capped (weight_before program outs (i + 1))
out_more program future past outs i total now part out fs ps here at named is joined_is was =
    joined_is ∙ pairs total part _ _ was (is ∙ out_is program future past out fs ps named) ∙ ap (λ n. capped n) (sym (more_weight program outs i out here at))

pub out_all : (program : Program) (outs : List Out) (i total : ℕ) → outs ≡ program.outs → length outs ≤ i → total ≡ capped (weight_before program outs i) → total ≡ capped (program_weight program)
out_all program outs i total same past is = is ∙ ap (λ os. capped (sum_by output_weight (map (output_of program) os))) (take_all i outs past ∙ same)

-- ---- what a well-formed program gives the engines' instructions

module _ (program : Program) (layout : HasLayout program) (good : IsWellFormed program) where
  pub ft_order : (items : List ft.FtOp) (i : ℕ) → items ≡ program.ft → i < length items → IsAfterOperands i (slice_index_or items i ft.TheVariants.True)
  ft_order items i same here =
      let order : AreInOrder items = subst (λ (ops : List ft.FtOp). AreInOrder ops) (sym same) (runs_future program layout good).order in
      order i ft.TheVariants.True here

  pub ft_after : (items : List ft.FtOp) (i : ℕ) (weights seen : List ℕ) → items ≡ program.ft → FtWeighed (expressions program.bz) items i weights → i < length items → seen ≡ weights
      → IsAfterOperands (length seen) (slice_index_or items i ft.TheVariants.True)
  ft_after items i weights seen same w here is =
      let long : i ≡ length seen = w.long ∙ sym (ap length (is ∙ w.are) ∙ length-map w.before told_core) in
      subst (λ n. IsAfterOperands n (slice_index_or items i ft.TheVariants.True)) long (ft_order items i same here)

  pub ft_loads : (items : List ft.FtOp) (i : ℕ) → items ≡ program.ft → i < length items → (k : ℕ) → slice_index_or items i ft.TheVariants.True ≡ ft.TheVariants.Load k → Loads (expressions program.bz) k
  ft_loads items i same here =
      let P : List ft.FtOp → Type 0 = λ ops. (i k : ℕ) → i < length ops → slice_index_or ops i ft.TheVariants.True ≡ ft.TheVariants.Load k → Loads (expressions program.bz) k in
      λ k is. subst P (sym same) (runs_future program layout good).loads i k here is

  pub pt_order : (items : List pt.PtOp) (i : ℕ) → items ≡ program.pt → i < length items → IsAfterPastOperands i (slice_index_or items i pt.TheVariants.True)
  pt_order items i same here =
      let order : ArePastInOrder items = subst (λ (ops : List pt.PtOp). ArePastInOrder ops) (sym same) (runs_past program layout good).order in
      order i here

  pub pt_after : (items : List pt.PtOp) (i : ℕ) (weights seen : List ℕ) → items ≡ program.pt → PtWeighed (expressions program.bz) items i weights → i < length items → seen ≡ weights
      → IsAfterPastOperands (length seen) (slice_index_or items i pt.TheVariants.True)
  pt_after items i weights seen same w here is =
      let long : i ≡ length seen = w.long ∙ sym (ap length (is ∙ w.are) ∙ length-map w.before told_core) in
      subst (λ n. IsAfterPastOperands n (slice_index_or items i pt.TheVariants.True)) long (pt_order items i same here)

  pub pt_loads : (items : List pt.PtOp) (i : ℕ) → items ≡ program.pt → i < length items → (k : ℕ) → slice_index_or items i pt.TheVariants.True ≡ pt.TheVariants.Load k → Loads (expressions program.bz) k
  pt_loads items i same here =
      let P : List pt.PtOp → Type 0 = λ ops. (i k : ℕ) → i < length ops → slice_index_or ops i pt.TheVariants.True ≡ pt.TheVariants.Load k → Loads (expressions program.bz) k in
      λ k is. subst P (sym same) (runs_past program layout good).loads i k here is
