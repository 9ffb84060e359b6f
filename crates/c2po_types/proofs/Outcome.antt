-- What the check of all items comes to.
use Rattle.std.proofs.Common.{◌≡◌, ◌≢◌, ℕ, ◌+◌, ◌<◌, ◌≤◌, List, map, length, drop, get_or, None, Some, Ok, refl, sym, ap, ◌∙◌}
use Rattle.std.proofs.Math.ListN.{drop_of_length-le}
use Rattle.std.proofs.Math.Numerals.{suc-eq-add-one}
use Rattle.c2po_ast.specs.ItemShape.{ItemShape, item_shape}
use Rattle.mltl_base.specs.declared.signal.Signal.{Signal}
use Rattle.c2po_types.specs.declared.fault.TypeFault.{TypeFault}
use Rattle.c2po_types.specs.declared.fault.TypeFault.TheVariants.{Memory}
use Rattle.c2po_types.specs.Checking.{Fails, in_turn, fault_of}
use Rattle.c2po_types.proofs.Turns.{drop-first, turn-map}
use Rattle.c2po_ast.specs.declared.item.Item.{Item}
use Rattle.c2po_types.specs.declared.progress.Progress.{Progress}
use Rattle.c2po_types.specs.Reaching.{state_of}
use Rattle.c2po_types.specs.Environment.{Env, no_names, declare, value, signal_value}
use Rattle.c2po_types.specs.FirstFault.{first_fault}
use Rattle.c2po_types.specs.Stepwise.{State, start, item_step, checked}
use Rattle.c2po_types.specs.Outputs.{with_signals}
use Rattle.c2po_types.proofs.Ruling.{rule_is}

-- no fault is found
pub no_fault : (items : List ItemShape) (s : State) → checked items ≡ Ok s → first_fault items ≡ None
no_fault items s h = sym (rule_is items) ∙ ap fault_of h

-- a fault is the first one
pub a_fault : (items : List ItemShape) (fault : TypeFault) → Fails fault (checked items) → fault ≢ Memory → first_fault items ≡ Some fault
a_fault items Memory h other = absurd (other refl)
a_fault items fault h other = sym (rule_is items) ∙ ap fault_of h

-- one signal more
pub signals-more : (ss : List Signal) (n : ℕ) (s : Signal) (env : Env) → n < length ss → s ≡ get_or ss n s
    → with_signals n (drop n ss) env ≡ with_signals (n + 1) (drop (n + 1) ss) (declare s.name (value (signal_value s.truth n)) env)
signals-more ss n s env less here =
    ap (λ rest. with_signals n rest env) (drop-first ss n s less here)
    ∙ ap (λ m. with_signals m (drop (n + 1) ss) (declare s.name (value (signal_value s.truth n)) env)) (suc-eq-add-one n)

-- no signal is left
pub signals-end : (ss : List Signal) (n : ℕ) (env : Env) → length ss ≤ n → with_signals n (drop n ss) env ≡ env
signals-end ss n env h = ap (λ rest. with_signals n rest env) (drop_of_length-le ss h)

-- nothing is checked before the first item
pub checked-from : (items : List Item) (p : Progress) → state_of p no_names ≡ start
    → in_turn (λ i. item_step (item_shape i)) items (state_of p no_names) ≡ checked (map item_shape items)
unfolding checked
checked-from items p begins = ap (in_turn (λ i. item_step (item_shape i)) items) begins ∙ turn-map item_step item_shape items start
