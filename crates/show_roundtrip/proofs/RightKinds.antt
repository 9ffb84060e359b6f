-- The lines of a well-formed program of version 2 have right names and kinds.

use Rattle.std.proofs.Common.{◌≡◌, ◌∙◌, ℕ, ◌+◌, ◌<◌, ◌≤◌, zero, suc, Bool, true, false, not, List, [], ◌∷◌, ◌++◌, length, take, map, Option, Some, None, refl, ap, sym, subst, arith, append_assoc, append-nil, inl, inr, nat_lt}
use Rattle.std.specs.Prelude.{slice_get, if◌then◌else◌, ◌⊎◌, ◌==◌, ◌&&◌, ◌||◌}
use Rattle.std.specs.List.{enumerate_from, list_any}
use Rattle.std.specs.Str.{bytes_eq}
use Rattle.std.proofs.Math.Seq.{take-append_seam}
use Rattle.std.proofs.lemmas.Option.{same_Some, slice_get_within}
use Rattle.std.proofs.lemmas.List.{length-append, length-take}
use Rattle.std.proofs.lemmas.Bool.{and_parts, lt-leb, ltb-true}
use Rattle.mltl_base.specs.declared.interval.Engine.TheVariants.{Ft, Pt}
use Rattle.mltl_base.specs.declared.limits.TheConstants.{MAX_SIGNALS}
use Rattle.mltl_base.specs.declared.operators.ArithOp as arith_op
use Rattle.mltl_base.specs.declared.operators.ArithOp.{ArithOp}
use Rattle.mltl_base.specs.declared.operators.BetweenOp as between_op
use Rattle.mltl_base.specs.declared.operators.BzOp as bz
use Rattle.mltl_base.specs.declared.operators.CompareOp as compare_op
use Rattle.mltl_base.specs.declared.operators.CompareOp.{CompareOp}
use Rattle.mltl_base.specs.declared.operators.FtOp as ft
use Rattle.mltl_base.specs.declared.operators.LogicOp as logic_op
use Rattle.mltl_base.specs.declared.operators.PtOp as pt
use Rattle.mltl_base.specs.declared.program.Out as out
use Rattle.mltl_base.specs.declared.program.Program.{Program}
use Rattle.mltl_base.specs.declared.program.StoredSignal.{StoredSignal}
use Rattle.c2po_types.specs.Tables.{Table, entry_of, is_named}
use Rattle.c2po_types.specs.declared.kind.Kind.{Kind}
use Rattle.c2po_types.specs.declared.kind.Meaning.{Meaning}
use Rattle.c2po_types.specs.declared.kind.Meaning.TheVariants.{Value}
use Rattle.c2po_types.specs.declared.declarations.Declarations.{Declarations}
use Rattle.c2po_types.specs.Kinds.{whole, truth}
use Rattle.c2po_types.specs.Items.{nothing, signal_kind}
use Rattle.obs_verify.specs.Layout.{HasLayout}
use Rattle.obs_verify.specs.WellFormed.{IsWellFormed, first_in, width_fault, signal_fault, is_new_signal, has_kind, is_whole, is_truth, is_whole_before, has_operands, has_future_operands, has_future_window, has_past_operands, has_past_window}
use Rattle.obs_verify.proofs.ExpressionLaws.{slice_get-take, whole_inside}
use Rattle.obs_verify.proofs.SignalLaws.{any-push}
use Rattle.obs_show.specs.Lines.{arith as computes, compare, Line}
use Rattle.obs_show.specs.Naming.{is_operation, is_future_operation, is_past_operation, bz_operations, ft_operations, pt_operations, operations, defined_name, is_signal_name, name_in, bz_name, bz_called, bz_reference, ft_name, ft_called, ft_reference, pt_name, pt_called, pt_reference}
use Rattle.obs_show.specs.Text.{signal_line, bz_form, bz_line, ft_form, ft_line, pt_form, pt_line, output_line, output_lines, numbered_lines, shown_lines}
use Rattle.obs_show.proofs.FreeLaws.{defined_is_new}
use Rattle.c2po_types.proofs.SignalLaws.{signal_last}
use Rattle.obs_verify.proofs.RuleLaws.{unless_true}
use Rattle.show_roundtrip.proofs.Walk.{get_push, HaveOwnColumns, InColumn, in_column, kind_for, HaveOperands}
use Rattle.show_roundtrip.proofs.Engines.{is_within, HaveFutureOperands, HavePastOperands}
use Rattle.show_roundtrip.proofs.Whole.{HaveReports}
use Rattle.show_roundtrip.proofs.Formed.{none_left, none_right, first_none, others_none, well_formed_said, not_true}
use Rattle.show_roundtrip.proofs.Passing.{KindPasses, KindsPass}
use Rattle.show_roundtrip.proofs.FormKinds.{push_later, pushed_entry, pushed_named, HasKindIn, FormHasKind, minus_kind, arith_kind, compare_kind, negation_kind, logic_kind, between_kind, input_passes, formula_passes, contract_passes}
use Rattle.show_roundtrip.proofs.KindWalk.{KnowsKinds, Stays, kinds_stay, HasRightKind, walk_part}

-- ---- signals

-- the names of signals have their kinds
abbrev KnowsSignalKinds : List StoredSignal → Table Meaning → Type 0
KnowsSignalKinds signals names = (k : ℕ) (s : StoredSignal) → slice_get signals k ≡ Some s → entry_of s.name names ≡ Some (Value (signal_kind s.truth))

signal_kinds_stay : (signals : List StoredSignal) → Stays (KnowsSignalKinds signals)
signal_kinds_stay signals names later g h k s e = g s.name (Value (signal_kind s.truth)) (h k s e)

-- signals are declared, and nothing else
record AreDeclared (signals : List StoredSignal) (d : Declarations) : Type 0 where
  only : (x : List ℕ) → is_named x d.names ≡ is_signal_name signals x
  kinds : KnowsSignalKinds signals d.names
  count : length d.signals ≡ length signals

signal_kinds_push : (front : List StoredSignal) (s : StoredSignal) (names : Table Meaning) → is_named s.name names ≡ false → KnowsSignalKinds front names
    → KnowsSignalKinds (front ++ s ∷ []) (names ++ (s.name, Value (signal_kind s.truth)) ∷ [])
signal_kinds_push front s names free h j t i = pick (get_push front s t j i)
  where
    pick : (slice_get front j ≡ Some t) ⊎ ((j ≡ length front) × (s ≡ t)) → entry_of t.name (names ++ (s.name, Value (signal_kind s.truth)) ∷ []) ≡ Some (Value (signal_kind t.truth))
    pick (inl old) = push_later names s.name (Value (signal_kind s.truth)) t.name (Value (signal_kind t.truth)) (h j t old)
    pick (inr last) =
        subst (λ (u : StoredSignal). entry_of u.name (names ++ (s.name, Value (signal_kind s.truth)) ∷ []) ≡ Some (Value (signal_kind u.truth))) last.1
        (pushed_entry names s.name (Value (signal_kind s.truth)) free)

-- a stored signal has no name of one before it
name_is_new : (program : Program) (front : List StoredSignal) (s : StoredSignal) (ss : List StoredSignal) (k : ℕ) → program.signals ≡ front ++ s ∷ ss → length front ≡ k → signal_fault program k s ≡ None → is_signal_name front s.name ≡ false
name_is_new program front s ss k all len none =
    let cut : take k program.signals ≡ front = ap (λ (xs : List StoredSignal). take k xs) all ∙ ap (λ (n : ℕ). take n (front ++ s ∷ ss)) (sym len) ∙ take-append_seam front (s ∷ ss) in
    let here : is_new_signal program.width front s ≡ true = ap (λ (xs : List StoredSignal). is_new_signal program.width xs s) (sym cut) ∙ unless_true (is_new_signal program.width (take k program.signals) s) _ none in
    not_true (is_signal_name front s.name) (and_parts (nat_lt s.column program.width && not (list_any (λ t. t.column == s.column) front)) (not (is_signal_name front s.name)) here).1

walk_signals : (program : Program) (front ss : List StoredSignal) (k n : ℕ) (more : List Line) (d : Declarations)
    → length program.signals ≤ MAX_SIGNALS → program.signals ≡ front ++ ss → length front ≡ k → first_in (signal_fault program) k ss ≡ None → AreDeclared front d
    → ((m : ℕ) (later : Declarations) → AreDeclared program.signals later → KindsPass m more later) → KindsPass n (map signal_line ss ++ more) d
unfolding KindsPass
walk_signals program front [] k n more d few all len none h go = go n d (subst (λ (ss : List StoredSignal). AreDeclared ss d) (sym (all ∙ append-nil front)) h)
walk_signals program front (s ∷ ss) k n more d few all len none h go =
    let later : Declarations = signal_last s.truth s.name d in
    let free : is_named s.name d.names ≡ false = h.only s.name ∙ name_is_new program front s ss k all len (first_none (signal_fault program) k s ss none) in
    let counted : length program.signals ≡ length front + length (s ∷ ss) = ap (λ (xs : List StoredSignal). length xs) all ∙ length-append front (s ∷ ss) in
    let room : length d.signals < MAX_SIGNALS = omega (arith, h.count, counted, few) in
    let next : AreDeclared (front ++ s ∷ []) later = record {
      only = λ x. pushed_named d.names s.name x (Value (signal_kind s.truth)) ∙ ap (λ (b : Bool). b || bytes_eq x s.name) (h.only x) ∙ sym (any-push (λ (t : StoredSignal). bytes_eq x t.name) front s);
      kinds = signal_kinds_push front s d.names free h.kinds;
      count = omega (arith, h.count, length-append d.signals (record { name = s.name; truth = s.truth } ∷ []), length-append front (s ∷ []));
    } in (
      later,
      input_passes n s.name s.truth d free (lt-leb MAX_SIGNALS (length d.signals) room),
      walk_signals program (front ++ s ∷ []) ss (k + 1) (n + 1) more later few (all ∙ sym (append_assoc front (s ∷ []) ss)) (omega (arith, length-append front (s ∷ []))) (others_none (signal_fault program) k s ss none) next go,
    )

-- ---- the Booleanizer

-- the kind of what stands at a place
abbrev given_by : Option bz.BzOp → Kind
given_by o = if is_whole o then whole else truth

abbrev bz_gives : Program → ℕ → Kind
bz_gives program i = given_by (slice_get program.bz i)

abbrev BzKinds : Program → ℕ → Table Meaning → Type 0
BzKinds program i names = KnowsKinds (bz_reference program) (bz_gives program) i names

column_kind : (signals : List StoredSignal) (c : ℕ) (b : Bool) (names : Table Meaning) → HaveOwnColumns signals → has_kind signals c b ≡ true → KnowsSignalKinds signals names
    → entry_of (name_in signals c) names ≡ Some (Value (signal_kind b))
column_kind signals c b names own kind h =
    let s : InColumn signals c b = in_column signals c b own kind in
    ap (λ (x : List ℕ). entry_of x names) s.name_is ∙ h s.number_is s.signal s.stands ∙ ap (λ (t : Bool). Some (Value (signal_kind t))) s.kind_is

operand_kind : (program : Program) (i a : ℕ) (names : Table Meaning) → BzKinds program i names → is_whole_before program i a ≡ true → HasKindIn names (bz_reference program a) whole
operand_kind program i a names h e =
    let inside : a < i = whole_inside program i a e in
    let test : is_whole (slice_get program.bz a) ≡ true = ap is_whole (sym (slice_get-take i program.bz a inside)) ∙ e in
    subst (λ (k : Kind). HasKindIn names (bz_reference program a) k) (ap (λ (b : Bool). if b then whole else truth) test) (h a inside)

arith_right : (program : Program) (i a b : ℕ) (op : ArithOp) (d : Declarations) → BzKinds program i d.names → (is_whole_before program i a && is_whole_before program i b) ≡ true
    → FormHasKind d (computes op (bz_reference program a) (bz_reference program b)) whole
arith_right program i a b op d h ok =
    let parts : (is_whole_before program i a ≡ true) × (is_whole_before program i b ≡ true) = and_parts (is_whole_before program i a) (is_whole_before program i b) ok in
    arith_kind op (bz_reference program a) (bz_reference program b) d (operand_kind program i a d.names h parts.0) (operand_kind program i b d.names h parts.1)

compare_right : (program : Program) (i a b : ℕ) (op : CompareOp) (d : Declarations) → BzKinds program i d.names → (is_whole_before program i a && is_whole_before program i b) ≡ true
    → FormHasKind d (compare op (bz_reference program a) (bz_reference program b)) truth
compare_right program i a b op d h ok =
    let parts : (is_whole_before program i a ≡ true) × (is_whole_before program i b ≡ true) = and_parts (is_whole_before program i a) (is_whole_before program i b) ok in
    compare_kind op (bz_reference program a) (bz_reference program b) d (operand_kind program i a d.names h parts.0) (operand_kind program i b d.names h parts.1)

bz_right : (program : Program) (i : ℕ) (op : bz.BzOp) (d : Declarations) → program.version ≡ 2 → HaveOwnColumns program.signals → has_operands program i op ≡ true → KnowsSignalKinds program.signals d.names → BzKinds program i d.names
    → HasRightKind d (bz_form program op) (is_operation op) (bz_name program i) (bz_called program i (Some op)) (given_by (Some op))
bz_right program i (bz.TheVariants.Column c) d v own ok know h = (refl, column_kind program.signals c false d.names own (kind_for program i (bz.TheVariants.Column c) v ok) know)
bz_right program i (bz.TheVariants.IsTrue c) d v own ok know h = (refl, column_kind program.signals c true d.names own (kind_for program i (bz.TheVariants.IsTrue c) v ok) know)
bz_right program i (bz.TheVariants.Const n) d v own ok know h = (refl, refl)
bz_right program i (bz.TheVariants.Neg a) d v own ok know h = (refl, refl, minus_kind (bz_reference program a) d (operand_kind program i a d.names h ok))
bz_right program i (bz.TheVariants.Add a b) d v own ok know h = (refl, refl, arith_right program i a b arith_op.TheVariants.Add d h ok)
bz_right program i (bz.TheVariants.Sub a b) d v own ok know h = (refl, refl, arith_right program i a b arith_op.TheVariants.Sub d h ok)
bz_right program i (bz.TheVariants.Mul a b) d v own ok know h = (refl, refl, arith_right program i a b arith_op.TheVariants.Mul d h ok)
bz_right program i (bz.TheVariants.Div a b) d v own ok know h = (refl, refl, arith_right program i a b arith_op.TheVariants.Div d h ok)
bz_right program i (bz.TheVariants.Rem a b) d v own ok know h = (refl, refl, arith_right program i a b arith_op.TheVariants.Rem d h ok)
bz_right program i (bz.TheVariants.Eq a b) d v own ok know h = (refl, refl, compare_right program i a b compare_op.TheVariants.Eq d h ok)
bz_right program i (bz.TheVariants.Lt a b) d v own ok know h = (refl, refl, compare_right program i a b compare_op.TheVariants.Lt d h ok)
bz_right program i (bz.TheVariants.Le a b) d v own ok know h = (refl, refl, compare_right program i a b compare_op.TheVariants.Le d h ok)

operands_at : (program : Program) (i : ℕ) (ops : List bz.BzOp) (j k : ℕ) (op : bz.BzOp) → HaveOperands program i ops → i + j ≡ k → slice_get ops j ≡ Some op → has_operands program k op ≡ true
operands_at program i [] j k op h is e = absurd (cc)
operands_at program i (x ∷ ops) zero k op h is e =
    let here : i ≡ k = omega arith in
    subst (λ (m : ℕ). has_operands program m op ≡ true) here (subst (λ (y : bz.BzOp). has_operands program i y ≡ true) (same_Some x op e) h.0)
operands_at program i (x ∷ ops) (suc j) k op h is e = operands_at program (i + 1) ops j k op h.1 (omega arith) e

bz_at : (program : Program) (i : ℕ) (op : bz.BzOp) (d : Declarations) → program.version ≡ 2 → HaveOwnColumns program.signals → HaveOperands program 0 program.bz → slice_get program.bz i ≡ Some op
    → KnowsSignalKinds program.signals d.names → BzKinds program i d.names → HasRightKind d (bz_form program op) (is_operation op) (bz_name program i) (bz_reference program i) (bz_gives program i)
bz_at program i op d v own ok at know h =
    subst (λ (o : Option bz.BzOp). HasRightKind d (bz_form program op) (is_operation op) (bz_name program i) (bz_called program i o) (given_by o)) (sym at)
    (bz_right program i op d v own (operands_at program 0 program.bz i i op ok (omega arith) at) know h)

bz_numbered : (program : Program) (i : ℕ) → bz_name program i ≡ defined_name program (0 + bz_operations (take i program.bz))
bz_numbered program i =
    let same : bz_operations (take i program.bz) ≡ 0 + bz_operations (take i program.bz) = omega arith in
    ap (λ (k : ℕ). defined_name program k) same

-- ---- the engines

-- each instruction of an engine gives a truth
abbrev gives_truth : ℕ → Kind
gives_truth i = truth

truth_is_no_whole : (o : Option bz.BzOp) → is_truth o ≡ true → is_whole o ≡ false
truth_is_no_whole None h = refl
truth_is_no_whole (Some (bz.TheVariants.IsTrue c)) h = refl
truth_is_no_whole (Some (bz.TheVariants.Eq a b)) h = refl
truth_is_no_whole (Some (bz.TheVariants.Lt a b)) h = refl
truth_is_no_whole (Some (bz.TheVariants.Le a b)) h = refl
truth_is_no_whole _ h = absurd (cc)

loaded_kind : (program : Program) (a : ℕ) (names : Table Meaning) → BzKinds program (length program.bz) names → is_truth (slice_get program.bz a) ≡ true → HasKindIn names (bz_reference program a) truth
loaded_kind program a names h ok =
    subst (λ (k : Kind). HasKindIn names (bz_reference program a) k) (ap (λ (b : Bool). if b then whole else truth) (truth_is_no_whole (slice_get program.bz a) ok)) (h a (is_within program.bz a ok))

abbrev FtKinds : Program → ℕ → Table Meaning → Type 0
FtKinds program i names = KnowsKinds (ft_reference program) gives_truth i names

ft_right : (program : Program) (i : ℕ) (op : ft.FtOp) (d : Declarations) → has_future_operands program i op ≡ true → has_future_window op ≡ true → BzKinds program (length program.bz) d.names → FtKinds program i d.names
    → HasRightKind d (ft_form program op) (is_future_operation op) (ft_name program i) (ft_called program i (Some op)) truth
ft_right program i ft.TheVariants.True d ok w base h = (refl, refl)
ft_right program i (ft.TheVariants.Load a) d ok w base h = (refl, loaded_kind program a d.names base ok)
ft_right program i (ft.TheVariants.Not g) d ok w base h = (refl, refl, negation_kind (ft_reference program g) d (h g (ltb-true g i ok)))
ft_right program i (ft.TheVariants.And l r) d ok w base h =
    let parts : (nat_lt l i ≡ true) × (nat_lt r i ≡ true) = and_parts (nat_lt l i) (nat_lt r i) ok in
    (refl, refl, logic_kind logic_op.TheVariants.And (ft_reference program l) (ft_reference program r) d (h l (ltb-true l i parts.0)) (h r (ltb-true r i parts.1)))
ft_right program i (ft.TheVariants.Until l r window) d ok w base h =
    let parts : (nat_lt l i ≡ true) × (nat_lt r i ≡ true) = and_parts (nat_lt l i) (nat_lt r i) ok in
    (refl, refl, between_kind between_op.TheVariants.U window (ft_reference program l) (ft_reference program r) d w (h l (ltb-true l i parts.0)) (h r (ltb-true r i parts.1)))

abbrev FutureAt : Program → ℕ → ft.FtOp → Type 0
FutureAt program i op = (has_future_operands program i op ≡ true) × (has_future_window op ≡ true)

future_at : (program : Program) (i : ℕ) (ops : List ft.FtOp) (j k : ℕ) (op : ft.FtOp) → HaveFutureOperands program i ops → i + j ≡ k → slice_get ops j ≡ Some op → FutureAt program k op
future_at program i [] j k op h is e = absurd (cc)
future_at program i (x ∷ ops) zero k op h is e =
    let here : i ≡ k = omega arith in
    subst (λ (m : ℕ). FutureAt program m op) here (subst (λ (y : ft.FtOp). FutureAt program i y) (same_Some x op e) (h.0, h.1))
future_at program i (x ∷ ops) (suc j) k op h is e = future_at program (i + 1) ops j k op h.2 (omega arith) e

ft_at : (program : Program) (i : ℕ) (op : ft.FtOp) (d : Declarations) → HaveFutureOperands program 0 program.ft → slice_get program.ft i ≡ Some op → BzKinds program (length program.bz) d.names → FtKinds program i d.names
    → HasRightKind d (ft_form program op) (is_future_operation op) (ft_name program i) (ft_reference program i) truth
ft_at program i op d ok at base h =
    let here : FutureAt program i op = future_at program 0 program.ft i i op ok (omega arith) at in
    subst (λ (o : Option ft.FtOp). HasRightKind d (ft_form program op) (is_future_operation op) (ft_name program i) (ft_called program i o) truth) (sym at)
    (ft_right program i op d here.0 here.1 base h)

abbrev PtKinds : Program → ℕ → Table Meaning → Type 0
PtKinds program i names = KnowsKinds (pt_reference program) gives_truth i names

pt_right : (program : Program) (i : ℕ) (op : pt.PtOp) (d : Declarations) → has_past_operands program i op ≡ true → has_past_window op ≡ true → BzKinds program (length program.bz) d.names → PtKinds program i d.names
    → HasRightKind d (pt_form program op) (is_past_operation op) (pt_name program i) (pt_called program i (Some op)) truth
pt_right program i pt.TheVariants.True d ok w base h = (refl, refl)
pt_right program i (pt.TheVariants.Load a) d ok w base h = (refl, loaded_kind program a d.names base ok)
pt_right program i (pt.TheVariants.Not g) d ok w base h = (refl, refl, negation_kind (pt_reference program g) d (h g (ltb-true g i ok)))
pt_right program i (pt.TheVariants.And l r) d ok w base h =
    let parts : (nat_lt l i ≡ true) × (nat_lt r i ≡ true) = and_parts (nat_lt l i) (nat_lt r i) ok in
    (refl, refl, logic_kind logic_op.TheVariants.And (pt_reference program l) (pt_reference program r) d (h l (ltb-true l i parts.0)) (h r (ltb-true r i parts.1)))
pt_right program i (pt.TheVariants.Since l r window) d ok w base h =
    let parts : (nat_lt l i ≡ true) × (nat_lt r i ≡ true) = and_parts (nat_lt l i) (nat_lt r i) ok in
    (refl, refl, between_kind between_op.TheVariants.S window (pt_reference program l) (pt_reference program r) d w (h l (ltb-true l i parts.0)) (h r (ltb-true r i parts.1)))

abbrev PastAt : Program → ℕ → pt.PtOp → Type 0
PastAt program i op = (has_past_operands program i op ≡ true) × (has_past_window op ≡ true)

past_at : (program : Program) (i : ℕ) (ops : List pt.PtOp) (j k : ℕ) (op : pt.PtOp) → HavePastOperands program i ops → i + j ≡ k → slice_get ops j ≡ Some op → PastAt program k op
past_at program i [] j k op h is e = absurd (cc)
past_at program i (x ∷ ops) zero k op h is e =
    let here : i ≡ k = omega arith in
    subst (λ (m : ℕ). PastAt program m op) here (subst (λ (y : pt.PtOp). PastAt program i y) (same_Some x op e) (h.0, h.1))
past_at program i (x ∷ ops) (suc j) k op h is e = past_at program (i + 1) ops j k op h.2 (omega arith) e

pt_at : (program : Program) (i : ℕ) (op : pt.PtOp) (d : Declarations) → HavePastOperands program 0 program.pt → slice_get program.pt i ≡ Some op → BzKinds program (length program.bz) d.names → PtKinds program i d.names
    → HasRightKind d (pt_form program op) (is_past_operation op) (pt_name program i) (pt_reference program i) truth
pt_at program i op d ok at base h =
    let here : PastAt program i op = past_at program 0 program.pt i i op ok (omega arith) at in
    subst (λ (o : Option pt.PtOp). HasRightKind d (pt_form program op) (is_past_operation op) (pt_name program i) (pt_called program i o) truth) (sym at)
    (pt_right program i op d here.0 here.1 base h)

-- ---- outputs

-- references of both engines have the kind of formulas
record EnginesRight (program : Program) (names : Table Meaning) : Type 0 where
  ft : FtKinds program (length program.ft) names
  pt : PtKinds program (length program.pt) names

output_passes : (program : Program) (n k : ℕ) (o : out.Out) (d : Declarations) → EnginesRight program d.names → HaveReports program (o ∷ []) → KindPasses n (output_line program k o) d d
output_passes program n k (out.TheVariants.Formula Ft i name) d h w = (truth, formula_passes n (ft_reference program i) d (h.ft i (ltb-true i (length program.ft) w.0)), refl)
output_passes program n k (out.TheVariants.Formula Pt i name) d h w = (truth, formula_passes n (pt_reference program i) d (h.pt i (ltb-true i (length program.pt) w.0)), refl)
output_passes program n k (out.TheVariants.Contract Ft i j name) d h w =
    let parts : (nat_lt i (length program.ft) ≡ true) × (nat_lt j (length program.ft) ≡ true) = and_parts (nat_lt i (length program.ft)) (nat_lt j (length program.ft)) w.0 in
    (truth, contract_passes n (ft_reference program i) (ft_reference program j) d (h.ft i (ltb-true i (length program.ft) parts.0)) (h.ft j (ltb-true j (length program.ft) parts.1)), refl)
output_passes program n k (out.TheVariants.Contract Pt i j name) d h w =
    let parts : (nat_lt i (length program.pt) ≡ true) × (nat_lt j (length program.pt) ≡ true) = and_parts (nat_lt i (length program.pt)) (nat_lt j (length program.pt)) w.0 in
    (truth, contract_passes n (pt_reference program i) (pt_reference program j) d (h.pt i (ltb-true i (length program.pt) parts.0)) (h.pt j (ltb-true j (length program.pt) parts.1)), refl)

outputs_pass : (program : Program) (outs : List out.Out) (n k : ℕ) (d : Declarations) → EnginesRight program d.names → HaveReports program outs
    → KindsPass n (map (λ x. output_line program x.0 x.1) (enumerate_from k outs)) d
unfolding KindsPass
outputs_pass program [] n k d h w = tt
outputs_pass program (o ∷ outs) n k d h w = (d, output_passes program n k o d h (w.0, tt), outputs_pass program outs (n + 1) (k + 1) d h w.1)

-- ---- programs

-- what is known after the lines of the Booleanizer and of future time
abbrev BothKinds : Program → Table Meaning → Type 0
BothKinds program names = BzKinds program (length program.bz) names × FtKinds program (length program.ft) names

both_stay : (program : Program) → Stays (BothKinds program)
both_stay program names later g h = (
  kinds_stay (bz_reference program) (bz_gives program) (length program.bz) names later g h.0,
  kinds_stay (ft_reference program) gives_truth (length program.ft) names later g h.1,
)

pub kinds_pass : (program : Program) → HasLayout program → IsWellFormed program → program.version ≡ 2 → length program.signals ≤ MAX_SIGNALS → KindsPass 1 (shown_lines program) nothing
kinds_pass program layout formed version few =
    let said = well_formed_said program formed version in
    let outs : List Line = output_lines program program.outs in
    let pts : List Line = numbered_lines (pt_line program) program.pt ++ outs in
    let fts : List Line = numbered_lines (ft_line program) program.ft ++ pts in
    let bzs : List Line = numbered_lines (bz_line program) program.bz ++ fts in
    let bz_few : 0 + bz_operations program.bz ≤ operations program = omega arith in
    let ft_few : bz_operations program.bz + ft_operations program.ft ≤ operations program = omega arith in
    let pt_few : bz_operations program.bz + ft_operations program.ft + pt_operations program.pt ≤ operations program = omega arith in
    let named : first_in (signal_fault program) 0 program.signals ≡ None = none_left (first_in (signal_fault program) 0 program.signals) _ (none_right (width_fault program) _ formed) in
    walk_signals program [] program.signals 0 1 bzs nothing few refl refl named (record { only = λ x. refl; kinds = λ k s e. absurd (cc); count = refl })
    (λ n1 d1 h1. walk_part program (bz_name program) (bz_form program) is_operation (bz_reference program) (bz_gives program) (KnowsSignalKinds program.signals) program.bz 0 layout (signal_kinds_stay program.signals)
    (bz_numbered program) bz_few (λ i op d at know h. bz_at program i op d version said.columns said.bz at know h) [] program.bz 0 n1 fts d1 refl refl
    (record { base = h1.kinds; free = λ k from below. h1.only (defined_name program k) ∙ defined_is_new program layout k below; kinds = λ j below. absurd (omega arith) })
    (λ n2 d2 h2. walk_part program (ft_name program) (ft_form program) is_future_operation (ft_reference program) gives_truth (BzKinds program (length program.bz)) program.ft (bz_operations program.bz) layout
    (kinds_stay (bz_reference program) (bz_gives program) (length program.bz)) (λ i. refl) ft_few (λ i op d at base h. ft_at program i op d said.ft at base h) [] program.ft 0 n2 pts d2 refl refl
    (record { base = h2.kinds; free = λ k from below. h2.free k (omega arith) below; kinds = λ j below. absurd (omega arith) })
    (λ n3 d3 h3. walk_part program (pt_name program) (pt_form program) is_past_operation (pt_reference program) gives_truth (BothKinds program) program.pt (bz_operations program.bz + ft_operations program.ft) layout
    (both_stay program) (λ i. refl) pt_few (λ i op d at base h. pt_at program i op d said.pt at base.0 h) [] program.pt 0 n3 outs d3 refl refl
    (record { base = (h3.base, h3.kinds); free = λ k from below. h3.free k (omega arith) below; kinds = λ j below. absurd (omega arith) })
    (λ n4 d4 h4. outputs_pass program program.outs n4 0 d4 (record { ft = h4.base.1; pt = h4.kinds }) said.reports))))
