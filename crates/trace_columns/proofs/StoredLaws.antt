-- The names of a well-formed program's signals are different.
use Rattle.std.proofs.Common.{◌≡◌, ◌<◌, ◌+◌, ℕ, zero, suc, true, false, List, [], ◌∷◌, length, map, take, get_or, Option, None, arith, sym, ◌∙◌, ap, ◌==◌}
use Rattle.std.specs.Prelude.{nat_lt, not, ◌&&◌}
use Rattle.std.specs.List.{list_any}
use Rattle.std.specs.Str.{bytes_eq}
use Rattle.std.proofs.lemmas.Bool.{and_parts, not-true, both_ways}
use Rattle.std.proofs.lemmas.List.{get_or-map, get_or-take, length-map, length-take-le}
use Rattle.std.proofs.lemmas.List.Folds.{list_any_at}
use Rattle.std.proofs.lemmas.Slice.Eq.{bytes_eq-Decides}
use Rattle.mltl_base.specs.declared.program.Program.{Program}
use Rattle.mltl_base.specs.declared.program.StoredSignal.{StoredSignal}
use Rattle.obs_verify.specs.declared.fault.VerifyFault.{VerifyFault}
use Rattle.obs_verify.specs.declared.fault.VerifyFault.TheVariants.{Signal}
use Rattle.obs_verify.specs.WellFormed.{IsWellFormed, first_in, is_new_signal, signal_fault, width_fault}
use Rattle.obs_verify.proofs.RuleLaws.{or_none, unless_true}
use Rattle.trace_columns.specs.Header.{AreDifferentNames}

-- each member is without a fault where there is no first one
each_without : {X : Type 0} (rule : ℕ → X → Option VerifyFault) (xs : List X) (k : ℕ) → first_in rule k xs ≡ None → (i : ℕ) (d : X) → i < length xs → rule (k + i) (get_or xs i d) ≡ None
unfolding first_in
each_without rule [] k none i d inside = absurd (omega arith)
each_without rule (x ∷ xs) k none zero d inside = let here : k + 0 ≡ k = omega arith in ap (λ n. rule n x) here ∙ (or_none (rule k x) (first_in rule (suc k) xs) none).0
each_without rule (x ∷ xs) k none (suc i) d inside =
    let place : k + suc i ≡ suc k + i = omega arith in
    ap (λ n. rule n (get_or xs i d)) place ∙ each_without rule xs (suc k) (or_none (rule k x) (first_in rule (suc k) xs) none).1 i d (omega arith)

no_signal_fault : (program : Program) → IsWellFormed program → first_in (signal_fault program) 0 program.signals ≡ None
no_signal_fault program well = (or_none (first_in (signal_fault program) 0 program.signals) _ (or_none (width_fault program) _ well).1).0

abbrev any : StoredSignal
any = record { name = []; truth = false; column = 0 }

-- a signal has no name of one before
new_name : (program : Program) → IsWellFormed program → (i j : ℕ) → i < j → j < length program.signals → bytes_eq (get_or program.signals j any).name (get_or program.signals i any).name ≡ true → ⊥
new_name program well i j less inside same =
    let signals : List StoredSignal = program.signals in
    let signal : StoredSignal = get_or signals j any in
    let place : j ≡ 0 + j = omega arith in
    let is_new : is_new_signal program.width (take j signals) signal ≡ true = unless_true _ (Signal j) (ap (λ n. signal_fault program n signal) place ∙ each_without (signal_fault program) signals 0 (no_signal_fault program well) j any inside) in
    let parts = and_parts (nat_lt signal.column program.width && not (list_any (λ before. before.column == signal.column) (take j signals))) (not (list_any (λ before. bytes_eq signal.name before.name) (take j signals))) is_new in
    let none : list_any (λ (before : StoredSignal). bytes_eq signal.name before.name) (take j signals) ≡ false = not-true _ parts.1 in
    both_ways _ none (list_any_at (λ (before : StoredSignal). bytes_eq signal.name before.name) (take j signals) i any (omega (arith, length-take-le j signals (omega arith)))
    (ap (λ (s : StoredSignal). bytes_eq signal.name s.name) (get_or-take j signals i any less) ∙ same))

-- the stored names are different
pub stored_names : (program : Program) → IsWellFormed program → AreDifferentNames (map (λ s. s.name) program.signals)
stored_names program well = λ i j less inside same.
    let size : length (map (λ (s : StoredSignal). s.name) program.signals) ≡ length program.signals = length-map program.signals (λ (s : StoredSignal). s.name) in
    let name_i = get_or-map (λ (s : StoredSignal). s.name) program.signals i any [] (omega arith) in
    let name_j = get_or-map (λ (s : StoredSignal). s.name) program.signals j any [] (omega arith) in
    new_name program well i j less (omega arith) ((bytes_eq-Decides (get_or program.signals j any).name (get_or program.signals i any).name).1 (sym name_j ∙ (sym same ∙ name_i)))
