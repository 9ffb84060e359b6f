-- A well-formed program of version 2 can be said by its lines.

use Rattle.std.proofs.Common.{◌≡◌, ◌∙◌, ℕ, ◌+◌, suc, Bool, true, false, not, List, [], ◌∷◌, ◌++◌, length, take, Option, Some, None, refl, ap, sym, subst, arith, append_assoc}
use Rattle.std.specs.Prelude.{◌&&◌, ◌||◌, ◌==◌, nat_lt, ⊤}
use Rattle.std.specs.List.{list_any}
use Rattle.std.specs.Str.{bytes_eq}
use Rattle.std.proofs.Math.Seq.{take-append_seam}
use Rattle.std.proofs.lemmas.List.{length-append}
use Rattle.std.proofs.lemmas.Bool.{and_parts}
use Rattle.std.proofs.lemmas.Bool.Decides.{nat_tests}
use Rattle.mltl_base.specs.declared.operators.BzOp.{BzOp}
use Rattle.mltl_base.specs.declared.operators.FtOp.{FtOp}
use Rattle.mltl_base.specs.declared.operators.PtOp.{PtOp}
use Rattle.mltl_base.specs.declared.program.Out.{Out}
use Rattle.mltl_base.specs.declared.program.Program.{Program}
use Rattle.mltl_base.specs.declared.program.StoredSignal.{StoredSignal}
use Rattle.mltl_base.specs.Queues.{worst_delays}
use Rattle.obs_verify.specs.declared.fault.VerifyFault.{VerifyFault}
use Rattle.obs_verify.specs.WellFormed.{unless, earlier_of, first_in, width_fault, is_new_signal, signal_fault, has_operands, bz_fault, has_future_operands, has_future_window, ft_fault, late_fault, has_past_operands, has_past_window, pt_fault, reports_within, output_fault, IsWellFormed}
use Rattle.obs_verify.proofs.SoundOps.{all_sound}
use Rattle.obs_verify.proofs.RuleLaws.{unless_true}
use Rattle.show_roundtrip.proofs.Walk.{HaveOwnColumns, HaveOperands}
use Rattle.show_roundtrip.proofs.Engines.{HaveFutureOperands, HavePastOperands}
use Rattle.show_roundtrip.proofs.Whole.{HaveReports, CanBeSaid}

pub none_left : (a b : Option VerifyFault) → earlier_of a b ≡ None → a ≡ None
none_left None b e = refl
none_left (Some f) b e = absurd (cc)

pub none_right : (a b : Option VerifyFault) → earlier_of a b ≡ None → b ≡ None
none_right None b e = e
none_right (Some f) b e = absurd (cc)

-- the first of a list without a fault, and the others
pub first_none : {X : Type 0} (rule : ℕ → X → Option VerifyFault) (k : ℕ) (x : X) (xs : List X) → first_in rule k (x ∷ xs) ≡ None → rule k x ≡ None
unfolding first_in
first_none rule k x xs e = none_left (rule k x) (first_in rule (suc k) xs) e

pub others_none : {X : Type 0} (rule : ℕ → X → Option VerifyFault) (k : ℕ) (x : X) (xs : List X) → first_in rule k (x ∷ xs) ≡ None → first_in rule (k + 1) xs ≡ None
unfolding first_in
others_none rule k x xs e =
    let same : suc k ≡ k + 1 = omega arith in
    subst (λ (n : ℕ). first_in rule n xs ≡ None) same (none_right (rule k x) (first_in rule (suc k) xs) e)

operands_formed : (program : Program) (i : ℕ) (ops : List BzOp) → first_in (bz_fault program) i ops ≡ None → HaveOperands program i ops
operands_formed program i [] e = tt
operands_formed program i (op ∷ ops) e = (
  unless_true (has_operands program i op) _ (none_left (unless (has_operands program i op) _) _ (first_none (bz_fault program) i op ops e)),
  operands_formed program (i + 1) ops (others_none (bz_fault program) i op ops e),
)

future_formed : (program : Program) (i : ℕ) (ops : List FtOp) → first_in (ft_fault program) i ops ≡ None → HaveFutureOperands program i ops
future_formed program i [] e = tt
future_formed program i (op ∷ ops) e = (
  unless_true (has_future_operands program i op) _ (none_left _ _ (first_none (ft_fault program) i op ops e)),
  unless_true (has_future_window op) _ (none_right (unless (has_future_operands program i op) _) _ (first_none (ft_fault program) i op ops e)),
  future_formed program (i + 1) ops (others_none (ft_fault program) i op ops e),
)

past_formed : (program : Program) (i : ℕ) (ops : List PtOp) → first_in (pt_fault program) i ops ≡ None → HavePastOperands program i ops
past_formed program i [] e = tt
past_formed program i (op ∷ ops) e = (
  unless_true (has_past_operands program i op) _ (none_left _ _ (first_none (pt_fault program) i op ops e)),
  unless_true (has_past_window op) _ (none_right (unless (has_past_operands program i op) _) _ (first_none (pt_fault program) i op ops e)),
  past_formed program (i + 1) ops (others_none (pt_fault program) i op ops e),
)

reports_formed : (program : Program) (k : ℕ) (outs : List Out) → first_in (output_fault program) k outs ≡ None → HaveReports program outs
reports_formed program k [] e = tt
reports_formed program k (o ∷ outs) e =
    (unless_true (reports_within (length program.ft) (length program.pt) o) _ (first_none (output_fault program) k o outs e), reports_formed program (k + 1) outs (others_none (output_fault program) k o outs e))

-- columns of signals, each looked at after those before it
abbrev AreNewAfter : List StoredSignal → List StoredSignal → Type 0
AreNewAfter front [] = ⊤
AreNewAfter front (s ∷ ss) = (list_any (λ t. t.column == s.column) front ≡ false) × AreNewAfter (front ++ s ∷ []) ss

pub not_true : (b : Bool) → not b ≡ true → b ≡ false
not_true true e = absurd (cc)
not_true false e = refl

signals_formed : (program : Program) (front ss : List StoredSignal) (k : ℕ) → program.signals ≡ front ++ ss → length front ≡ k → first_in (signal_fault program) k ss ≡ None → AreNewAfter front ss
signals_formed program front [] k all len e = tt
signals_formed program front (s ∷ ss) k all len e =
    let test : is_new_signal program.width (take k program.signals) s ≡ true = unless_true (is_new_signal program.width (take k program.signals) s) _ (first_none (signal_fault program) k s ss e) in
    let cut : take k program.signals ≡ front = ap (λ (xs : List StoredSignal). take k xs) all ∙ ap (λ (n : ℕ). take n (front ++ s ∷ ss)) (sym len) ∙ take-append_seam front (s ∷ ss) in
    let here : is_new_signal program.width front s ≡ true = ap (λ (xs : List StoredSignal). is_new_signal program.width xs s) (sym cut) ∙ test in
    let both : (((nat_lt s.column program.width && not (list_any (λ t. t.column == s.column) front)) ≡ true) × (not (list_any (λ t. bytes_eq s.name t.name) front) ≡ true)) = and_parts (nat_lt s.column program.width && not (list_any (λ t. t.column == s.column) front)) (not (list_any (λ t. bytes_eq s.name t.name) front)) here in
    let parts : (nat_lt s.column program.width ≡ true) × (not (list_any (λ t. t.column == s.column) front) ≡ true) = and_parts (nat_lt s.column program.width) (not (list_any (λ t. t.column == s.column) front)) both.0 in (
      not_true (list_any (λ t. t.column == s.column) front) parts.1,
      signals_formed program (front ++ s ∷ []) ss (k + 1) (all ∙ sym (append_assoc front (s ∷ []) ss)) (omega (arith, length-append front (s ∷ []))) (others_none (signal_fault program) k s ss e),
    )

none_at : (front : List StoredSignal) (s : StoredSignal) (back : List StoredSignal) (c : ℕ) → list_any (λ t. t.column == c) (front ++ s ∷ back) ≡ false → (s.column == c) ≡ false
none_at [] s back c e = go (s.column == c) e
  where
    go : (b : Bool) → (b || list_any (λ t. t.column == c) back) ≡ false → b ≡ false
    go true g = absurd (cc)
    go false g = refl
none_at (t ∷ front) s back c e = go (t.column == c) (none_at front s back c) e
  where
    go : (b : Bool) → (list_any (λ t. t.column == c) (front ++ s ∷ back) ≡ false → (s.column == c) ≡ false) → (b || list_any (λ t. t.column == c) (front ++ s ∷ back)) ≡ false → (s.column == c) ≡ false
    go true ih g = absurd (cc)
    go false ih g = ih g

turned : (a b : ℕ) → (a == b) ≡ false → (b == a) ≡ false
turned a b e = grind (arith, nat_tests)

own_before : (front : List StoredSignal) (s : StoredSignal) (back ss : List StoredSignal) → AreNewAfter (front ++ s ∷ back) ss → list_any (λ t. t.column == s.column) ss ≡ false
own_before front s back [] h = refl
own_before front s back (t ∷ ss) h =
    let here : (t.column == s.column) ≡ false = turned s.column t.column (none_at front s back t.column h.0) in
    rw here (own_before front s (back ++ t ∷ []) ss (subst (λ (xs : List StoredSignal). AreNewAfter xs ss) (append_assoc front (s ∷ back) (t ∷ [])) h.1))

columns_formed : (front ss : List StoredSignal) → AreNewAfter front ss → HaveOwnColumns ss
columns_formed front [] h = tt
columns_formed front (s ∷ ss) h = (own_before front s [] ss h.1, columns_formed (front ++ s ∷ []) ss h.1)

pub well_formed_said : (program : Program) → IsWellFormed program → program.version ≡ 2 → CanBeSaid program
well_formed_said program e version =
    let e1 = none_right (width_fault program) _ e in
    let e2 = none_right (first_in (signal_fault program) 0 program.signals) _ e1 in
    let e3 = none_right (first_in (bz_fault program) 0 program.bz) _ e2 in
    let e4 = none_right (first_in (ft_fault program) 0 program.ft) _ e3 in
    let e5 = none_right (first_in late_fault 0 (worst_delays program.ft)) _ e4 in
    let e6 = none_right (first_in (pt_fault program) 0 program.pt) _ e5 in
    record {
      version = version;
      columns = columns_formed [] program.signals (signals_formed program [] program.signals 0 refl refl (none_left (first_in (signal_fault program) 0 program.signals) _ e1));
      bz = operands_formed program 0 program.bz (none_left (first_in (bz_fault program) 0 program.bz) _ e2);
      sound = all_sound program e;
      ft = future_formed program 0 program.ft (none_left (first_in (ft_fault program) 0 program.ft) _ e3);
      pt = past_formed program 0 program.pt (none_left (first_in (pt_fault program) 0 program.pt) _ e5);
      reports = reports_formed program 0 program.outs (none_left (first_in (output_fault program) 0 program.outs) _ e6);
    }
