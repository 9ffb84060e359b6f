-- Which signals instructions read: as a table of them is filled, and where signals are moved.
use Rattle.std.proofs.Common.{◌≡◌, ℕ, ◌<◌, ◌==◌, zero, suc, Bool, true, false, Option, Some, None, List, [], ◌∷◌, ◌++◌, length, map, slice_index, slice_index_or, slice_set, refl, ap, sym, ◌∙◌, arith, inl, inr, eq-eqb}
use Rattle.std.specs.Prelude.{◌&&◌, ◌||◌, option_map}
use Rattle.std.proofs.lemmas.Bool.Decides.{eqb_tells}
use Rattle.std.proofs.lemmas.List.{get_or-map, get_or-set_other, get_or-set_same, length-map}
use Rattle.mltl_base.specs.declared.operators.BzOp.{BzOp}
use Rattle.mltl_base.specs.declared.operators.BzOp.TheVariants.{Column, IsTrue, Const, Neg, Add, Sub, Mul, Div, Rem, Eq, Lt, Le}
use Rattle.mltl_base.specs.declared.program.Program.{Program}
use Rattle.mltl_base.specs.declared.program.StoredSignal.{StoredSignal}
use Rattle.obs_verify.specs.Bound.{AreDifferent, bound, bound_op, bound_signals, moved}
use Rattle.obs_verify.specs.SignalNumbers.{signal_in, signal_read, signals_read}
use Rattle.obs_verify.specs.WellFormed.{IsWellFormed, bz_fault, has_kind, has_operands, is_column_of}
use Rattle.obs_verify.proofs.RuleLaws.{and_right, or_none, unless_true}
use Rattle.obs_verify.proofs.SoundLaws.{each}

-- ---- the first signal in a column

pub number_here : (s : StoredSignal) (signals : List StoredSignal) (c : ℕ) → s.column ≡ c → signal_in (s ∷ signals) c ≡ Some 0
unfolding signal_in
number_here s signals c at = rw (eq-eqb s.column c at) refl

pub number_after : (s : StoredSignal) (signals : List StoredSignal) (c : ℕ) → (s.column ≡ c → ⊥) → signal_in (s ∷ signals) c ≡ option_map suc (signal_in signals c)
unfolding signal_in
number_after s signals c other = elim (eqb_tells s.column c) [ inl p ↦ absurd (other p.1) | inr p ↦ rw p.0 refl ]

pub nowhere : (c : ℕ) → signal_in [] c ≡ None
unfolding signal_in
nowhere c = refl

pub one_less : (o : Option ℕ) (k : ℕ) → option_map suc o ≡ Some k → (j : ℕ) × (o ≡ Some j) × (k ≡ suc j)
one_less None k h = absurd (cc)
one_less (Some j) k h = (j, refl, cc)

pub none_less : (o : Option ℕ) → option_map suc o ≡ None → o ≡ None
none_less None h = refl
none_less (Some j) h = absurd (cc)

pub same_number : (j k : ℕ) → Some j ≡ Some k → j ≡ k
same_number j k h = cc

pub not_none : (k : ℕ) → Some k ≡ None → ⊥
not_none k h = cc

pub number_inside : (signals : List StoredSignal) (c k : ℕ) → signal_in signals c ≡ Some k → k < length signals
number_inside [] c k h = absurd (not_none k (sym h ∙ nowhere c))
number_inside (s ∷ signals) c k h = elim (eqb_tells s.column c) [
  | inl p ↦ let first : k ≡ 0 = same_number k 0 (sym h ∙ number_here s signals c p.1) in omega arith
  | inr p ↦
      let less = one_less (signal_in signals c) k (sym (number_after s signals c p.1) ∙ h) in
      let inside : less.0 < length signals = number_inside signals c less.0 less.1 in
      let next : k ≡ suc less.0 = less.2 in
      omega arith
]

-- ---- a table of columns as it is filled

pub number_known : (signals more : List StoredSignal) (c k : ℕ) → signal_in signals c ≡ Some k → signal_in (signals ++ more) c ≡ Some k
number_known [] more c k h = absurd (not_none k (sym h ∙ nowhere c))
number_known (s ∷ signals) more c k h = elim (eqb_tells s.column c) [
  | inl p ↦ number_here s (signals ++ more) c p.1 ∙ sym (number_here s signals c p.1) ∙ h
  | inr p ↦
      let less = one_less (signal_in signals c) k (sym (number_after s signals c p.1) ∙ h) in
      number_after s (signals ++ more) c p.1 ∙ ap (option_map suc) (number_known signals more c less.0 less.1) ∙ ap Some (sym less.2)
]

pub number_new : (signals : List StoredSignal) (s : StoredSignal) (c : ℕ) → signal_in signals c ≡ None → s.column ≡ c → signal_in (signals ++ s ∷ []) c ≡ Some (length signals)
number_new [] s c none at = number_here s [] c at
number_new (t ∷ signals) s c none at = elim (eqb_tells t.column c) [
  | inl p ↦ absurd (not_none 0 (sym (number_here t signals c p.1) ∙ none))
  | inr p ↦ number_after t (signals ++ s ∷ []) c p.1
      ∙ ap (option_map suc) (number_new signals s c (none_less (signal_in signals c) (sym (number_after t signals c p.1) ∙ none)) at)
]

pub number_other : (signals : List StoredSignal) (s : StoredSignal) (c : ℕ) → (s.column ≡ c → ⊥) → signal_in (signals ++ s ∷ []) c ≡ signal_in signals c
number_other [] s c other = number_after s [] c other ∙ ap (option_map suc) (nowhere c) ∙ sym (nowhere c)
number_other (t ∷ signals) s c other = elim (eqb_tells t.column c) [
  | inl p ↦ number_here t (signals ++ s ∷ []) c p.1 ∙ sym (number_here t signals c p.1)
  | inr p ↦ number_after t (signals ++ s ∷ []) c p.1 ∙ ap (option_map suc) (number_other signals s c other) ∙ sym (number_after t signals c p.1)
]

-- a column that has no signal yet gets this one
pub filled_free : (numbers : List (Option ℕ)) (signals : List StoredSignal) (s : StoredSignal) (n : ℕ) → s.column < length numbers → n < length numbers
    → ((c : ℕ) → c < length numbers → slice_index_or numbers c None ≡ signal_in signals c) → signal_in signals s.column ≡ None
    → slice_index_or (slice_set numbers s.column (Some (length signals))) n None ≡ signal_in (signals ++ s ∷ []) n
filled_free numbers signals s n inside below told free = elim (eqb_tells s.column n) [
  | inl p ↦ ap (λ m. slice_index_or (slice_set numbers s.column (Some (length signals))) m None) (sym p.1) ∙ get_or-set_same numbers s.column (Some (length signals)) None inside
      ∙ sym (number_new signals s n (ap (signal_in signals) (sym p.1) ∙ free) p.1)
  | inr p ↦ get_or-set_other numbers s.column n (Some (length signals)) None (λ (h : n ≡ s.column). p.1 (sym h)) ∙ told n below ∙ sym (number_other signals s n p.1)
]

-- a column that has one keeps it
pub filled_known : (numbers : List (Option ℕ)) (signals : List StoredSignal) (s : StoredSignal) (n k : ℕ) → n < length numbers
    → ((c : ℕ) → c < length numbers → slice_index_or numbers c None ≡ signal_in signals c) → signal_in signals s.column ≡ Some k
    → slice_index_or numbers n None ≡ signal_in (signals ++ s ∷ []) n
filled_known numbers signals s n k below told there = elim (eqb_tells s.column n) [
  | inl p ↦
      let here : signal_in signals n ≡ Some k = ap (signal_in signals) (sym p.1) ∙ there in
      told n below ∙ here ∙ sym (number_known signals (s ∷ []) n k here)
  | inr p ↦ told n below ∙ sym (number_other signals s n p.1)
]

-- ---- signals that are moved

pub moved_read : (signals : List StoredSignal) (columns : List ℕ) (c k : ℕ) → length columns ≡ length signals → signal_in signals c ≡ Some k → moved signals columns c ≡ slice_index columns k
unfolding moved
moved_read [] columns c k same h = absurd (not_none k (sym h ∙ nowhere c))
moved_read (s ∷ signals) [] c k same h = absurd (omega arith)
moved_read (s ∷ signals) (n ∷ columns) c k same h = elim (eqb_tells s.column c) [
  | inl p ↦
      let first : k ≡ 0 = same_number k 0 (sym h ∙ number_here s signals c p.1) in
      rw p.0 (ap (slice_index (n ∷ columns)) (sym first))
  | inr p ↦
      let less = one_less (signal_in signals c) k (sym (number_after s signals c p.1) ∙ h) in
      rw p.0 (moved_read signals columns c less.0 (omega arith) less.1 ∙ ap (slice_index (n ∷ columns)) (sym less.2))
]

moved_unread : (signals : List StoredSignal) (columns : List ℕ) (c : ℕ) → signal_in signals c ≡ None → moved signals columns c ≡ c
unfolding moved
moved_unread (s ∷ signals) (n ∷ columns) c none = elim (eqb_tells s.column c) [
  | inl p ↦ absurd (not_none 0 (sym (number_here s signals c p.1) ∙ none))
  | inr p ↦ rw p.0 (moved_unread signals columns c (none_less (signal_in signals c) (sym (number_after s signals c p.1) ∙ none)))
]
moved_unread _ _ c none = refl

-- an instruction that reads no signal stays
pub unread_stays : (signals : List StoredSignal) (columns : List ℕ) (op : BzOp) → signal_read signals op ≡ None → bound_op signals columns op ≡ op
unread_stays signals columns (Column c) none = ap Column (moved_unread signals columns c none)
unread_stays signals columns (IsTrue c) none = ap IsTrue (moved_unread signals columns c none)
unread_stays signals columns _ none = refl

-- the signal that an instruction reads is one of those stored
pub read_inside : (signals : List StoredSignal) (op : BzOp) (k : ℕ) → signal_read signals op ≡ Some k → k < length signals
read_inside signals (Column c) k h = number_inside signals c k h
read_inside signals (IsTrue c) k h = number_inside signals c k h
read_inside signals _ k h = absurd (cc)

-- an instruction that reads a signal reads it where it stands now
pub read_moves : (signals : List StoredSignal) (columns : List ℕ) (op new : BzOp) (k : ℕ) → length columns ≡ length signals → signal_read signals op ≡ Some k
    → ((c : ℕ) → op ≡ Column c → new ≡ Column (slice_index columns k)) → ((c : ℕ) → op ≡ IsTrue c → new ≡ IsTrue (slice_index columns k)) → bound_op signals columns op ≡ new
read_moves signals columns (Column c) new k same h whole truth = ap Column (moved_read signals columns c k same h) ∙ sym (whole c refl)
read_moves signals columns (IsTrue c) new k same h whole truth = ap IsTrue (moved_read signals columns c k same h) ∙ sym (truth c refl)
read_moves signals columns _ new k same h whole truth = absurd (cc)

-- what a table of signal numbers says of an instruction
pub signal_numbers_long : (program : Program) (signal_numbers : List (Option ℕ)) → signal_numbers ≡ signals_read program → length signal_numbers ≡ length program.bz
signal_numbers_long program signal_numbers is = ap length is ∙ length-map program.bz (signal_read program.signals)

pub signal_number_at : (program : Program) (signal_numbers : List (Option ℕ)) (i : ℕ) (op : BzOp) → signal_numbers ≡ signals_read program → i < length signal_numbers
    → slice_index_or signal_numbers i None ≡ signal_read program.signals (slice_index_or program.bz i op)
signal_number_at program signal_numbers i op is inside =
    ap (λ rs. slice_index_or rs i None) is
    ∙ get_or-map (signal_read program.signals) program.bz i op None (omega (arith, signal_numbers_long program signal_numbers is))

different_after : (n : ℕ) (columns : List ℕ) → AreDifferent (n ∷ columns) → AreDifferent columns
different_after n columns different i j before inside = different (suc i) (suc j) (omega arith) (omega arith)

-- a signal keeps its number where it stands now
number_stays : (signals : List StoredSignal) (columns : List ℕ) (k : ℕ) → length columns ≡ length signals → AreDifferent columns → k < length signals → signal_in (bound_signals signals columns) (slice_index columns k) ≡ Some k
unfolding bound_signals
number_stays [] columns k same different inside = absurd (omega arith)
number_stays (s ∷ signals) [] k same different inside = absurd (omega arith)
number_stays (s ∷ signals) (n ∷ columns) zero same different inside = number_here (record s { column = n }) (bound_signals signals columns) n refl
number_stays (s ∷ signals) (n ∷ columns) (suc k) same different inside =
    number_after (record s { column = n }) (bound_signals signals columns) (slice_index columns k) (different 0 (suc k) (omega arith) (omega arith))
    ∙ ap (option_map suc) (number_stays signals columns k (omega arith) (different_after n columns different) (omega arith))

-- a column that has a signal of some kind has a first one
pub or_first : (a b : Bool) → a ≡ false → (a || b) ≡ true → b ≡ true
or_first true b h k = absurd (cc)
or_first false b h k = k

and_first : (a b : Bool) → a ≡ false → (a && b) ≡ false
and_first true b h = absurd (cc)
and_first false b h = refl

has_number : (signals : List StoredSignal) (c : ℕ) (t : Bool) → has_kind signals c t ≡ true → (k : ℕ) × (signal_in signals c ≡ Some k)
has_number [] c t h = absurd (cc)
has_number (s ∷ signals) c t h = elim (eqb_tells s.column c) [
  | inl p ↦ (0, number_here s signals c p.1)
  | inr p ↦
      let rest = has_number signals c t (or_first _ _ (and_first _ _ p.0) h) in
      (suc rest.0, number_after s signals c p.1 ∙ ap (option_map suc) rest.1)
]

stored_number : (program : Program) (c : ℕ) (t : Bool) → program.version ≡ 2 → is_column_of program c t ≡ true → (k : ℕ) × (signal_in program.signals c ≡ Some k)
stored_number program c t two h =
    let second : (program.version == 1) ≡ false = ap (λ v. v == 1) two in
    has_number program.signals c t (or_first (program.version == 1) (has_kind program.signals c t) second (and_right _ _ h))

column_stays : (program : Program) (columns : List ℕ) (c : ℕ) (t : Bool) → program.version ≡ 2 → length columns ≡ length program.signals → AreDifferent columns → is_column_of program c t ≡ true
    → signal_in (bound_signals program.signals columns) (moved program.signals columns c) ≡ signal_in program.signals c
column_stays program columns c t two same different h =
    let read = stored_number program c t two h in
    ap (signal_in (bound_signals program.signals columns)) (moved_read program.signals columns c read.0 same read.1)
    ∙ number_stays program.signals columns read.0 same different (number_inside program.signals c read.0 read.1)
    ∙ sym read.1

reader_stays : (program : Program) (columns : List ℕ) (i : ℕ) (op : BzOp) → program.version ≡ 2 → length columns ≡ length program.signals → AreDifferent columns → has_operands program i op ≡ true
    → signal_read (bound_signals program.signals columns) (bound_op program.signals columns op) ≡ signal_read program.signals op
reader_stays program columns i (Column c) two same different h = column_stays program columns c false two same different h
reader_stays program columns i (IsTrue c) two same different h = column_stays program columns c true two same different h
reader_stays program columns i _ two same different h = refl

mapped_same : {X Y Z : Type 0} (f : Y → Z) (g : X → Y) (h : X → Z) (xs : List X) → ((i : ℕ) (d : X) → i < length xs → f (g (slice_index_or xs i d)) ≡ h (slice_index_or xs i d)) → map f (map g xs) ≡ map h xs
mapped_same f g h [] all = refl
mapped_same f g h (x ∷ xs) all =
    ap (λ z. z ∷ map f (map g xs)) (all 0 x (omega arith)) ∙ ap (λ zs. h x ∷ zs) (mapped_same f g h xs (λ i d inside. all (suc i) d (omega arith)))

-- the instructions of a program that is moved read the same signals
pub readers_stay : (program : Program) (width : ℕ) (columns : List ℕ) → program.version ≡ 2 → length columns ≡ length program.signals → AreDifferent columns → IsWellFormed program
    → signals_read (bound program width columns) ≡ signals_read program
readers_stay program width columns two same different good =
    let h1 = or_none _ _ good in
    let h2 = or_none _ _ h1.1 in
    let h3 = or_none _ _ h2.1 in
    mapped_same (signal_read (bound_signals program.signals columns)) (bound_op program.signals columns) (signal_read program.signals) program.bz (λ i d inside.
    reader_stays program columns i (slice_index_or program.bz i d) two same different (unless_true _ _ (or_none _ _ (each (bz_fault program) program.bz h3.0 i d inside)).0))
