-- What the engines show is what is known.

use Rattle.std.proofs.Common.{◌≡◌, ◌≢◌, ℕ, zero, suc, ◌+◌, ◌-◌, ◌<◌, ◌≤◌, inl, inr, min, Bool, true, false, Option, Some, None, option_map, List, [], ◌∷◌, ◌++◌, length, slice_get, refl, sym, ap, ◌∙◌, arith}
use Rattle.std.proofs.lemmas.Bool.{cases_lt}
use Rattle.std.proofs.lemmas.List.{length-map}
use Rattle.std.proofs.lemmas.Option.{slice_get_past, slice_get_within, slice_get-map}
use Rattle.mltl_base.specs.declared.interval.Engine.TheVariants.{Ft as future_engine, Pt as past_engine}
use Rattle.mltl_base.specs.declared.operators.PtOp.{PtOp}
use Rattle.mltl_base.specs.declared.operators.PtOp.TheVariants.{Not, And, Since}
use Rattle.mltl_base.specs.declared.program.Program.{Program}
use Rattle.mltl_base.specs.declared.report.Word.{Word}
use Rattle.mltl_base.specs.declared.report.Word.TheVariants.{Inactive}
use Rattle.mltl_base.specs.Atoms.{Row, Atom}
use Rattle.mltl_base.specs.Formula.{Formula, Core, plain}
use Rattle.mltl_base.specs.Programs.{atoms, core_at, past_formula_of, past_formulas_after, formula_at}
use Rattle.mltl_base.specs.Reports.{formula, contract, status, status_of, word_of, words}
use Rattle.mltl_base.specs.Settled.{IsPast}
use Rattle.mltl_base.specs.Verdicts.{known_front, verdicts}
use Rattle.mltl_base.proofs.Bounds.{past_known, verdict_within, verdicts_fit}
use Rattle.mltl_base.proofs.Fronts.{front_ends}
use Rattle.mltl_base.proofs.Unique.{front_unknown, front_value}
use Rattle.scq_ring.specs.declared.Seen.{Seen}
use Rattle.scq_ring.specs.declared.Seen.TheVariants.{Run, Nothing}
use Rattle.ft_engine.specs.declared.Ft.{Ft}
use Rattle.ft_engine.specs.Standing as future
use Rattle.pt_boxes.specs.declared.Pt.{Pt}
use Rattle.pt_boxes.specs.Standing as past
use Rattle.contract_status.specs.Stretches.{IsLongestStretch, ShowsVerdicts, known_verdicts}

-- formulas of the past engine have no operator of the future
abbrev ArePast : List Core → Type 0
ArePast cores = (n : ℕ) → IsPast (plain (core_at cores n))

past_op : (loaded : List Atom) (before : List Core) (op : PtOp) → ArePast before → IsPast (plain (past_formula_of loaded before op))
unfolding plain
past_op loaded before (Not g) h = h g
past_op loaded before (And l r) h = (h l, h r)
past_op loaded before (Since l r i) h = (h l, h r)
past_op loaded before op h = tt

past_next : (before : List Core) (p : Core) → ArePast before → IsPast (plain p) → ArePast (before ++ p ∷ [])
unfolding plain
past_next [] p h g zero = g
past_next [] p h g (suc n) = tt
past_next (q ∷ before) p h g zero = h 0
past_next (q ∷ before) p h g (suc n) = past_next before p (λ n. h (suc n)) g n

past_after : (loaded : List Atom) (before : List Core) (ops : List PtOp) → ArePast before → ArePast (past_formulas_after loaded before ops)
unfolding past_formulas_after
past_after loaded before [] h = h
past_after loaded before (op ∷ ops) h = past_after loaded (before ++ past_formula_of loaded before op ∷ []) ops (past_next before (past_formula_of loaded before op) h (past_op loaded before op h))

past_none : ArePast []
unfolding plain
past_none n = tt

pub formula_past : (program : Program) (i : ℕ) → IsPast (plain (formula_at program past_engine i))
formula_past program i = past_after (atoms program.bz) [] program.pt past_none i

-- a run of the future engine
pub future_shows : (program : Program) (rows : List Row) (ft : Ft) (i from : ℕ) (seen : Seen) → future.FtHasTaken program rows ft → i < future.instruction_count ft → future.lowest_at ft i ≤ from
    → future.ShowsFrom ft i from seen → ShowsVerdicts (known_verdicts program rows future_engine i) from seen
future_shows program rows ft i from (Run last value) stands exists kept shows =
    let inside : i < length program.ft = omega (arith, stands.count) in
    record {
      lasts = record {
        upward = shows.upward;
        alike = λ t low high. stands.verdicts i t inside (omega arith) (omega (arith, shows.known)) ∙ ap Some (shows.alike t low high);
      };
      ends = λ same.
          let further : last + 1 < future.frontier_at ft i = omega (arith, stands.frontiers i inside, slice_get_within (known_verdicts program rows future_engine i) (last + 1) value same) in
          let next = stands.verdicts i (last + 1) inside (omega (arith, shows.upward)) further in
          shows.ends further (let verdict : future.kept_verdict ft i (last + 1) ≡ value = cc in verdict);
    }
future_shows program rows ft i from Nothing stands exists kept shows =
    let inside : i < length program.ft = omega (arith, stands.count) in
    omega (arith, stands.frontiers i inside, shows)

-- the last row's verdict of the past engine
pub past_shows : (program : Program) (rows : List Row) (pt : Pt) (i from : ℕ) (value : Bool) → past.PtHasTaken program rows pt → i < past.instruction_count pt → length rows ≤ from + 1 → from < length rows
    → value ≡ past.now_at pt i → IsLongestStretch (known_verdicts program rows past_engine i) from from value
past_shows program rows pt i from value stands exists late early is =
    let inside : i < length program.pt = omega (arith, stands.count) in
    let last : from ≡ length rows - 1 = omega arith in
    record {
      lasts = record {
        upward = omega arith;
        alike = λ t low high.
            let here : t ≡ length rows - 1 = omega arith in
            past_known rows (plain (formula_at program past_engine i)) (formula_past program i) t (omega arith)
            ∙ ap Some (ap (past.formula_meaning program rows i) here ∙ sym (stands.now i inside (omega arith)) ∙ sym is);
      };
      ends = λ same.
          omega (arith, slice_get_within (known_verdicts program rows past_engine i) (from + 1) value same, verdicts_fit rows (plain (formula_at program past_engine i)));
    }

pub past_ends : (program : Program) (rows : List Row) (i from : ℕ) → length rows ≤ from → length (known_verdicts program rows past_engine i) ≤ from
past_ends program rows i from past = omega (arith, verdicts_fit rows (plain (formula_at program past_engine i)))

-- the words of a formula are those of its verdicts
same_verdict : (x : Option Bool) (v : Bool) → option_map word_of x ≡ Some (word_of v) → x ≡ Some v
same_verdict None v e = cc
same_verdict (Some true) true e = refl
same_verdict (Some true) false e = cc
same_verdict (Some false) true e = cc
same_verdict (Some false) false e = refl

pub formula_lasts : (rows : List Row) (p : Formula) (from last : ℕ) (value : Bool) → IsLongestStretch (verdicts rows p) from last value → IsLongestStretch (words rows (formula p)) from last (word_of value)
unfolding words
formula_lasts rows p from last value h = record {
  lasts = record {
    upward = h.lasts.upward;
    alike = λ t low high. let e : slice_get (verdicts rows p) t ≡ Some value = h.lasts.alike t low high in rw (slice_get-map word_of (verdicts rows p) t, e) refl;
  };
  ends = λ same. h.ends (same_verdict (slice_get (verdicts rows p) (last + 1)) value (sym (slice_get-map word_of (verdicts rows p) (last + 1)) ∙ same));
}

pub formula_ends : (rows : List Row) (p : Formula) (from : ℕ) → length (verdicts rows p) ≤ from → length (words rows (formula p)) ≤ from
unfolding words
formula_ends rows p from h = simp length-map h

-- what is known at each time of a stretch, is in the longest known list where that reaches the stretch
longer : (k : ℕ → Option Word) (n from last : ℕ) (w : Word) → from ≤ length (known_front k n) → last < n → ((t : ℕ) → from ≤ t → t ≤ last → k t ≡ Some w) → (length (known_front k n) ≤ last → ⊥)
longer k n from last w reach early known short =
    let here : k (length (known_front k n)) ≡ Some w = known (length (known_front k n)) reach short in
    let none : k (length (known_front k n)) ≡ None = front_unknown k n (omega arith) in
    cc

pub front_lasts : (k : ℕ → Option Word) (n from last : ℕ) (w : Word) → from ≤ length (known_front k n) → from ≤ last → last < n → ((t : ℕ) → from ≤ t → t ≤ last → k t ≡ Some w) → k (last + 1) ≢ Some w
    → IsLongestStretch (known_front k n) from last w
front_lasts k n from last w reach up early known turns = record {
  lasts = record {
    upward = up;
    alike = λ t low high. elim (cases_lt t (length (known_front k n))) [
      | inl inside ↦ sym (front_value k n t inside) ∙ known t low high
      | inr past ↦ absurd (longer k n from last w reach early known (omega arith))
    ];
  };
  ends = λ same. turns (front_value k n (last + 1) (slice_get_within (known_front k n) (last + 1) w same) ∙ same);
}

-- exactly where the first formula is false a contract is inactive
inactive_there : (x y : Option Bool) → status x y ≡ Some Inactive → x ≡ Some false
inactive_there None y e = cc
inactive_there (Some false) y e = refl
inactive_there (Some true) None e = cc
inactive_there (Some true) (Some false) e = cc
inactive_there (Some true) (Some true) e = cc

pub contract_inactive : (rows : List Row) (p q : Formula) (from last : ℕ) → from ≤ length (words rows (contract p q)) → IsLongestStretch (verdicts rows p) from last false → IsLongestStretch (words rows (contract p q)) from last Inactive
unfolding words
contract_inactive rows p q from last reach h =
    let run = h.lasts in
    let end : slice_get (verdicts rows p) last ≡ Some false = run.alike last run.upward (omega arith) in
    front_lasts (λ t. status (slice_get (verdicts rows p) t) (slice_get (verdicts rows q) t)) (length rows) from last Inactive reach run.upward (verdict_within rows p last false end)
    (λ t low high. let e : slice_get (verdicts rows p) t ≡ Some false = run.alike t low high in rw e refl)
    (λ same. h.ends (inactive_there (slice_get (verdicts rows p) (last + 1)) (slice_get (verdicts rows q) (last + 1)) same))

-- where it is true the second one decides
status_both : (x y : Option Bool) (v : Bool) → x ≡ Some true → y ≡ Some v → status x y ≡ Some (status_of true v)
status_both x y true e f = rw (e, f) refl
status_both x y false e f = rw (e, f) refl

decided_there : (x y : Option Bool) (v : Bool) → status x y ≡ Some (status_of true v) → (x ≡ Some true) × (y ≡ Some v)
decided_there None y v e = cc
decided_there (Some false) y true e = cc
decided_there (Some false) y false e = cc
decided_there (Some true) None v e = cc
decided_there (Some true) (Some true) true e = (refl, refl)
decided_there (Some true) (Some true) false e = cc
decided_there (Some true) (Some false) true e = cc
decided_there (Some true) (Some false) false e = (refl, refl)

-- it is decided otherwise once either of the two turns
decided_until : (ps qs : List Bool) (last end : ℕ) (v : Bool) → slice_get ps (last + 1) ≢ Some true → slice_get qs (end + 1) ≢ Some v → status (slice_get ps (min last end + 1)) (slice_get qs (min last end + 1)) ≢ Some (status_of true v)
decided_until ps qs last end v first second = λ same.
    let both = decided_there (slice_get ps (min last end + 1)) (slice_get qs (min last end + 1)) v same in
    elim (cases_lt end last) [
      | inl short ↦ let here : end ≡ min last end = omega arith in second (ap (λ (t : ℕ). slice_get qs (t + 1)) here ∙ both.1)
      | inr long ↦ let here : last ≡ min last end = omega arith in first (ap (λ (t : ℕ). slice_get ps (t + 1)) here ∙ both.0)
    ]

pub contract_decided : (rows : List Row) (p q : Formula) (from last end : ℕ) (v : Bool) → from ≤ length (words rows (contract p q)) → IsLongestStretch (verdicts rows p) from last true → IsLongestStretch (verdicts rows q) from end v
    → IsLongestStretch (words rows (contract p q)) from (min last end) (status_of true v)
unfolding words
contract_decided rows p q from last end v reach h g =
    let up : from ≤ last = h.lasts.upward in
    let up' : from ≤ end = g.lasts.upward in
    let there : slice_get (verdicts rows p) (min last end) ≡ Some true = h.lasts.alike (min last end) (omega arith) (omega arith) in
    front_lasts (λ t. status (slice_get (verdicts rows p) t) (slice_get (verdicts rows q) t)) (length rows) from (min last end) (status_of true v) reach (omega arith) (verdict_within rows p (min last end) true there)
    (λ t low high. status_both (slice_get (verdicts rows p) t) (slice_get (verdicts rows q) t) v (h.lasts.alike t low (omega arith)) (g.lasts.alike t low (omega arith)))
    (decided_until (verdicts rows p) (verdicts rows q) last end v h.ends g.ends)

-- where the first isn't known, or is true and the second isn't known, no status is
pub contract_ends : (rows : List Row) (p q : Formula) (from : ℕ) → length (verdicts rows p) ≤ from → length (words rows (contract p q)) ≤ from
unfolding words
contract_ends rows p q from h =
    let none : slice_get (verdicts rows p) from ≡ None = slice_get_past (verdicts rows p) from h in
    front_ends (λ t. status (slice_get (verdicts rows p) t) (slice_get (verdicts rows q) t)) (length rows) from (rw none refl)

pub contract_waits : (rows : List Row) (p q : Formula) (from last : ℕ) → IsLongestStretch (verdicts rows p) from last true → length (verdicts rows q) ≤ from → length (words rows (contract p q)) ≤ from
unfolding words
contract_waits rows p q from last h g =
    let holds : slice_get (verdicts rows p) from ≡ Some true = h.lasts.alike from (omega arith) h.lasts.upward in
    let none : slice_get (verdicts rows q) from ≡ None = slice_get_past (verdicts rows q) from g in
    front_ends (λ t. status (slice_get (verdicts rows p) t) (slice_get (verdicts rows q) t)) (length rows) from (rw (holds, none) refl)

-- the same stretch, its ends and its value being known otherwise
pub stretch_as : {X : Type 0} (values : List X) (from last last' : ℕ) (value value' : X) → last' ≡ last → value ≡ value' → IsLongestStretch values from last value → IsLongestStretch values from last' value'
stretch_as values from last last' value value' e f h = rw (e, ← f) h
