-- Lines that pass have no fault: the check goes on after each of them.

use Rattle.std.proofs.Common.{◌≡◌, ◌∙◌, ℕ, ◌+◌, ◌≤◌, Bool, true, false, List, [], ◌∷◌, length, drop, Option, None, Ok, Err, refl, ap, sym, arith}
use Rattle.std.specs.Prelude.{if◌then◌else◌, ◌||◌, nat_le}
use Rattle.std.proofs.lemmas.List.{length-append}
use Rattle.std.proofs.lemmas.Bool.Decides.{nat_tests}
use Rattle.std.proofs.Math.Seq.{drop-append_seam}
use Rattle.mltl_base.specs.declared.limits.TheConstants.{MAX_WEIGHT}
use Rattle.mltl_base.specs.declared.interval.Engine.{Engine}
use Rattle.mltl_base.specs.declared.signal.Signal.{Signal}
use Rattle.mltl_base.specs.Ranges.{NoRange}
use Rattle.c2po_types.specs.declared.kind.Kind.{Kind}
use Rattle.c2po_types.specs.declared.declarations.Declarations.{Declarations}
use Rattle.c2po_types.specs.declared.fault.TypeFault.TheVariants as fault
use Rattle.c2po_types.specs.Checking.{Checked, ◌>>=◌, in_turn, fault_of}
use Rattle.c2po_types.specs.Items.{Labels, nothing, with_value, with_label, formula_kind, contract_kind}
use Rattle.c2po_types.specs.FirstFault.{first_fault, is_mixed}
use Rattle.c2po_types.specs.Stepwise.{State, when_ranged, one_tense, defined, with_out, one_out, two_out, item_step, checked}
use Rattle.c2po_ast.specs.Faults.{formula_fault, or_later}
use Rattle.c2po_types.specs.Weights.{weight}
use Rattle.c2po_types.specs.Values.{Value, formula_of}
use Rattle.c2po_types.specs.Faults.{value_fault}
use Rattle.c2po_types.specs.Environment.{Env, value, declare, signal_value}
use Rattle.c2po_types.specs.Outputs.{Place, before, place_after, with_signals}
use Rattle.c2po_types.proofs.Ruling.{known, rule_is}
use Rattle.obs_show.specs.Lines.{Reference, Form, Line, input, define, formula, contract}
use Rattle.c2po_types.proofs.SignalLaws.{signal_last}
use Rattle.c2po_types.proofs.Parts.{ok-inj}
use Rattle.show_roundtrip.specs.Said.{reference_shape, line_body, line_item, line_items}
use Rattle.show_roundtrip.proofs.Fresh.{signal_ok}
use Rattle.show_roundtrip.proofs.Passing.{form_value, reference_value, added, ValuePasses, ValuesPass, KindPasses, KindsPass, label_in, LabelsPass}
use Rattle.show_roundtrip.proofs.Whole.{input_declares}

-- a check that goes on from there
abbrev goes_on : Declarations → Labels → Env → ℕ → Checked State
goes_on d labels env total = Ok (known d labels env total)

same_way : (d e : Declarations) (l m : Labels) (v w : Env) (t u : ℕ) → d ≡ e → l ≡ m → v ≡ w → t ≡ u → goes_on d l v t ≡ goes_on e m w u
same_way d e l m v w t u declared labels env total =
    ap (λ (x : Declarations). goes_on x l v t) declared
    ∙ ap (λ (x : Labels). goes_on e x v t) labels
    ∙ ap (λ (x : Env). goes_on e m x t) env
    ∙ ap (λ (x : ℕ). goes_on e m w x) total

at_most : (a b : ℕ) → a ≤ b → nat_le a b ≡ true
at_most a b h = grind (arith, nat_tests)

-- a step that goes on, and the numbers of signals after it
record Goes (n : ℕ) (l : Line) (p : Place) (s t : State) : Type 0 where
  step : item_step (line_item n l) s ≡ Ok t
  counted : length t.declared.signals ≡ (place_after (line_body n l) p).signals

-- a signal
input_goes : (n : ℕ) (x : List ℕ) (truth : Bool) (d later : Declarations) (labels next : Labels) (p : Place) (total : ℕ)
    → length d.signals ≡ p.signals → KindPasses n (input x truth) d later → with_label n (label_in (input x truth)) labels ≡ Ok next
    → Goes n (input x truth) p (known d labels p.values total) (known later next (place_after (line_body n (input x truth)) p).values (total + added n (input x truth) p))
input_goes n x truth d later labels next p total count kinds label =
    let q : Place = place_after (line_body n (input x truth)) p in
    let k : ℕ = length d.signals in
    let one : List Signal = record { name = x; truth = truth } ∷ [] in
    let both = signal_ok n x truth d later kinds in
    let env : with_signals k (drop k later.signals) p.values ≡ q.values =
    ap (λ (c : Declarations). with_signals k (drop k c.signals) p.values) (sym both.1)
    ∙ ap (λ (ss : List Signal). with_signals k ss p.values) (drop-append_seam d.signals one)
    ∙ ap (λ (m : ℕ). declare x (value (signal_value truth m)) p.values) count
    ∙ sym (input_declares n x truth p) in
    let none : total ≡ total + 0 = omega arith in
    let more : length (signal_last truth x d).signals ≡ q.signals = omega (arith, length-append d.signals one, count) in
    record {
      step =
          ap (λ (m : Checked Declarations). m >>= λ c. goes_on c labels (with_signals k (drop k c.signals) p.values) total) kinds
          ∙ same_way later later labels next (with_signals k (drop k later.signals) p.values) q.values total (total + 0) refl (ok-inj labels next label) env none;
      counted = ap (λ (c : Declarations). length c.signals) (sym both.1) ∙ more;
    }

-- a definition
define_goes : (n : ℕ) (x : List ℕ) (f : Form) (d later : Declarations) (labels next : Labels) (p : Place) (total : ℕ)
    → length d.signals ≡ p.signals → KindPasses n (define x f) d later → with_label n (label_in (define x f)) labels ≡ Ok next → ValuePasses n (define x f) p total
    → Goes n (define x f) p (known d labels p.values total) (known later next (place_after (line_body n (define x f)) p).values (total + added n (define x f) p))
define_goes n x f d later labels next p total count kinds label passes =
    let v : Value = form_value n f p in
    let s : State = known d labels p.values total in
    let after : Checked State = goes_on (with_value x kinds.0 d) labels (declare x (value v) p.values) total in
    let none : total ≡ total + 0 = omega arith in
    let more : p.signals ≡ p.signals + 0 = omega arith in
    record {
      step =
          ap (λ (m : Checked Kind). m >>= λ k. defined n x (with_value x k d) v s) kinds.1
          ∙ ap (λ (b : Bool). if b then when_ranged n (value_fault v) after else Err (fault.Wide n)) (at_most (weight v) MAX_WEIGHT passes.0)
          ∙ ap (λ (o : Option NoRange). when_ranged n o after) passes.1
          ∙ same_way (with_value x kinds.0 d) later labels next (declare x (value v) p.values) (declare x (value v) p.values) total (total + 0) kinds.2 (ok-inj labels next label) refl none;
      counted = ap (λ (c : Declarations). length c.signals) (sym kinds.2) ∙ count ∙ more;
    }

-- an output
out_goes : (n : ℕ) (d later : Declarations) (labels : Labels) (w : ℕ) (why : Option NoRange) (mixed : Bool) (env : Env) (total : ℕ)
    → d ≡ later → total + w ≤ MAX_WEIGHT → why ≡ None → mixed ≡ false → with_out n labels w why mixed (known d labels env total) ≡ goes_on later labels env (total + w)
out_goes n d later labels w why mixed env total same light range tense =
    let after : Checked State = goes_on d labels env (total + w) in
    ap (λ (b : Bool). if b then when_ranged n why (one_tense n mixed after) else Err (fault.Wide n)) (at_most (total + w) MAX_WEIGHT light)
    ∙ ap (λ (o : Option NoRange). when_ranged n o (one_tense n mixed after)) range
    ∙ ap (λ (b : Bool). one_tense n b after) tense
    ∙ ap (λ (c : Declarations). goes_on c labels env (total + w)) same

formula_goes : (n : ℕ) (engine : Engine) (name : Option (List ℕ)) (x : Reference) (d later : Declarations) (labels next : Labels) (p : Place) (total : ℕ)
    → length d.signals ≡ p.signals → KindPasses n (formula engine name x) d later → with_label n name labels ≡ Ok next → ValuePasses n (formula engine name x) p total
    → Goes n (formula engine name x) p (known d labels p.values total) (known later next p.values (total + added n (formula engine name x) p))
formula_goes n engine name x d later labels next p total count kinds label passes =
    let v : Value = reference_value n x p in
    let s : State = known d labels p.values total in
    let more : p.signals ≡ p.signals + 0 = omega arith in
    record {
      step =
          ap (λ (m : Checked Labels). m >>= λ ls. formula_kind n (reference_shape n x) d >>= λ k. one_out n engine ls v s) label
          ∙ ap (λ (m : Checked Kind). m >>= λ k. one_out n engine next v s) kinds.1
          ∙ out_goes n d later next (weight v) (formula_fault (formula_of v)) (is_mixed engine (formula_of v)) p.values total kinds.2 passes.0 passes.1 passes.2;
      counted = ap (λ (c : Declarations). length c.signals) (sym kinds.2) ∙ count ∙ more;
    }

contract_goes : (n : ℕ) (engine : Engine) (name : Option (List ℕ)) (x y : Reference) (d later : Declarations) (labels next : Labels) (p : Place) (total : ℕ)
    → length d.signals ≡ p.signals → KindPasses n (contract engine name x y) d later → with_label n name labels ≡ Ok next → ValuePasses n (contract engine name x y) p total
    → Goes n (contract engine name x y) p (known d labels p.values total) (known later next p.values (total + added n (contract engine name x y) p))
contract_goes n engine name x y d later labels next p total count kinds label passes =
    let v : Value = reference_value n x p in
    let w : Value = reference_value n y p in
    let s : State = known d labels p.values total in
    let more : p.signals ≡ p.signals + 0 = omega arith in
    record {
      step =
          ap (λ (m : Checked Labels). m >>= λ ls. contract_kind n (reference_shape n x) (reference_shape n y) d >>= λ k. two_out n engine ls v w s) label
          ∙ ap (λ (m : Checked Kind). m >>= λ k. two_out n engine next v w s) kinds.1
          ∙ out_goes n d later next (weight v + weight w) (or_later (formula_fault (formula_of v)) (formula_fault (formula_of w))) (is_mixed engine (formula_of v) || is_mixed engine (formula_of w)) p.values total
          kinds.2 passes.0 passes.1 passes.2;
      counted = ap (λ (c : Declarations). length c.signals) (sym kinds.2) ∙ count ∙ more;
    }

-- each line
line_goes : (n : ℕ) (l : Line) (d later : Declarations) (labels next : Labels) (p : Place) (total : ℕ)
    → length d.signals ≡ p.signals → KindPasses n l d later → with_label n (label_in l) labels ≡ Ok next → ValuePasses n l p total
    → Goes n l p (known d labels p.values total) (known later next (place_after (line_body n l) p).values (total + added n l p))
line_goes n (input x truth) d later labels next p total count kinds label passes = input_goes n x truth d later labels next p total count kinds label
line_goes n (define x f) d later labels next p total count kinds label passes = define_goes n x f d later labels next p total count kinds label passes
line_goes n (formula engine name x) d later labels next p total count kinds label passes = formula_goes n engine name x d later labels next p total count kinds label passes
line_goes n (contract engine name x y) d later labels next p total count kinds label passes = contract_goes n engine name x y d later labels next p total count kinds label passes

-- all lines
lines_go : (ls : List Line) (n : ℕ) (d : Declarations) (labels : Labels) (p : Place) (total : ℕ) → length d.signals ≡ p.signals → KindsPass n ls d → LabelsPass n ls labels → ValuesPass n ls p total
    → (t : State) × (in_turn item_step (line_items n ls) (known d labels p.values total) ≡ Ok t)
unfolding line_items KindsPass LabelsPass ValuesPass
lines_go [] n d labels p total count kinds names passes = (known d labels p.values total, refl)
lines_go (l ∷ ls) n d labels p total count kinds names passes =
    let q : Place = place_after (line_body n l) p in
    let here = line_goes n l d kinds.0 labels names.0 p total count kinds.1 names.1 passes.0 in
    let rest = lines_go ls (n + 1) kinds.0 names.0 q (total + added n l p) here.counted kinds.2 names.2 passes.1 in
    (rest.0, ap (λ (m : Checked State). m >>= in_turn item_step (line_items (n + 1) ls)) here.step ∙ rest.1)

-- lines that pass have no fault
pub lines_pass : (ls : List Line) → KindsPass 1 ls nothing → LabelsPass 1 ls [] → ValuesPass 1 ls before 0 → first_fault (line_items 1 ls) ≡ None
unfolding checked
lines_pass ls kinds names passes = sym (rule_is (line_items 1 ls)) ∙ ap fault_of (lines_go ls 1 nothing [] before 0 refl kinds names passes).1
