-- A well-formed program stays so where its signals are moved.
use Rattle.std.proofs.Common.{◌≡◌, ℕ, ◌<◌, ◌≤◌, ◌==◌, zero, suc, Bool, true, false, Option, None, List, [], ◌∷◌, All, length, take, map, slice_index, slice_index_or, refl, ap, sym, ◌∙◌, arith, subst, zero-add, inl, inr, eq-eqb}
use Rattle.std.specs.Prelude.{◌&&◌, ◌||◌, not, nat_lt, if◌then◌else◌}
use Rattle.std.specs.List.{list_any}
use Rattle.std.specs.Str.{bytes_eq}
use Rattle.std.proofs.lemmas.Bool.{eqb-true, lt-ltb, le-leb, and_from, or_parts, or_right, not-true}
use Rattle.std.proofs.lemmas.Bool.Decides.{eqb_tells}
use Rattle.std.proofs.lemmas.List.{get_or-map, get_or-take, get_or_default, length-take, length-map}
use Rattle.std.proofs.lemmas.List.Folds.{Any-from_list_any, list_any-from_Any, list_any_none}
use Rattle.mltl_base.specs.declared.interval.Part.TheVariants.{Ft, Pt}
use Rattle.mltl_base.specs.declared.operators.BzOp.{BzOp}
use Rattle.mltl_base.specs.declared.operators.BzOp.TheVariants.{Column, IsTrue, Const, Neg, Add, Sub, Mul, Div, Rem, Eq, Lt, Le}
use Rattle.mltl_base.specs.declared.operators.FtOp as ft
use Rattle.mltl_base.specs.declared.operators.PtOp as pt
use Rattle.mltl_base.specs.declared.program.Program.{Program}
use Rattle.mltl_base.specs.declared.program.StoredSignal.{StoredSignal}
use Rattle.obs_verify.specs.declared.fault.VerifyFault.{VerifyFault}
use Rattle.obs_verify.specs.declared.fault.VerifyFault.TheVariants.{Signal, Operand}
use Rattle.obs_verify.specs.Bound.{AreDifferent, bound, bound_op, bound_signals, moved}
use Rattle.obs_verify.specs.Kept.{IsKept}
use Rattle.obs_verify.specs.WellFormed.{IsWellFormed, bz_fault, first_in, ft_fault, has_kind, has_operands, is_column_of, is_new_signal, earlier_of, pt_fault, signal_fault, unless}
use Rattle.obs_verify.proofs.BoundLaws.{length-bound_signals}
use Rattle.obs_verify.proofs.ExpressionLaws.{bz_range}
use Rattle.obs_verify.proofs.MovedLaws.{all_none, first_same, range_kept, truth_at_kept, whole_before_kept}
use Rattle.obs_verify.proofs.ReaderLaws.{or_first, readers_stay}
use Rattle.obs_verify.proofs.RuleLaws.{and_left, and_right, or_none, unless_true}
use Rattle.obs_verify.proofs.SignalLaws.{unless_both}
use Rattle.obs_verify.proofs.SoundLaws.{each}

pub both_none : (a b : Option VerifyFault) → a ≡ None → b ≡ None → earlier_of a b ≡ None
both_none a b h k = ap (λ o. earlier_of o b) h ∙ k

-- no member is at fault, where none is at its place in the list
pub from_each : {X : Type 0} (rule : ℕ → X → Option VerifyFault) (xs : List X) → ((i : ℕ) (d : X) → i < length xs → rule i (slice_index_or xs i d) ≡ None) → first_in rule 0 xs ≡ None
from_each {X} rule xs all = all_none rule xs 0 (λ i d inside. subst (λ (n : ℕ). rule n (slice_index_or xs i d) ≡ None) (sym (zero-add i)) (all i d inside))

-- signals in new columns
bound_at : (signals : List StoredSignal) (columns : List ℕ) (i : ℕ) (d : StoredSignal) → length columns ≡ length signals → i < length signals
    → slice_index_or (bound_signals signals columns) i d ≡ record (slice_index_or signals i d) { column = slice_index columns i }
unfolding bound_signals
bound_at (s ∷ signals) (n ∷ columns) zero d same inside = refl
bound_at (s ∷ signals) (n ∷ columns) (suc i) d same inside = bound_at signals columns i d (omega arith) (omega arith)
bound_at _ _ i d same inside = absurd (omega arith)

take_bound : (signals : List StoredSignal) (columns : List ℕ) (i : ℕ) → take i (bound_signals signals columns) ≡ bound_signals (take i signals) (take i columns)
unfolding bound_signals
take_bound signals columns zero = refl
take_bound [] columns (suc i) = refl
take_bound (s ∷ signals) [] (suc i) = refl
take_bound (s ∷ signals) (n ∷ columns) (suc i) = ap (λ ss. record s { column = n } ∷ ss) (take_bound signals columns i)

any_name : (bytes : List ℕ) (signals : List StoredSignal) (columns : List ℕ) → list_any (λ before. bytes_eq bytes before.name) (bound_signals signals columns) ≡ list_any (λ before. bytes_eq bytes before.name) signals
unfolding bound_signals
any_name bytes (s ∷ signals) (n ∷ columns) = ap (λ b. bytes_eq bytes s.name || b) (any_name bytes signals columns)
any_name bytes _ _ = refl

any_column : (c : ℕ) (signals : List StoredSignal) (columns : List ℕ) → length columns ≡ length signals → list_any (λ before. before.column == c) (bound_signals signals columns) ≡ list_any (λ n. n == c) columns
unfolding bound_signals
any_column c [] [] same = refl
any_column c (s ∷ signals) (n ∷ columns) same = ap (λ b. (n == c) || b) (any_column c signals columns (omega arith))
any_column c _ _ same = absurd (omega arith)

none_earlier : (columns : List ℕ) (i : ℕ) → AreDifferent columns → i < length columns → list_any (λ n. n == slice_index columns i) (take i columns) ≡ false
none_earlier columns i different inside = list_any_none (λ n. n == slice_index columns i) (take i columns) (λ k d below.
    let earlier : k < i = omega (arith, length-take i columns) in
    let there : slice_index_or (take i columns) k d ≡ slice_index columns k = get_or-take i columns k d earlier ∙ get_or_default columns k d 0 (omega arith) in
    elim (eqb_tells (slice_index_or (take i columns) k d) (slice_index columns i)) [ inl p ↦ absurd (different k i earlier inside (sym there ∙ p.1)) | inr p ↦ p.0 ])

signal_kept : (program : Program) (width : ℕ) (columns : List ℕ) → length columns ≡ length program.signals → All (λ c. c < width) columns → AreDifferent columns
    → first_in (signal_fault program) 0 program.signals ≡ None → first_in (signal_fault (bound program width columns)) 0 (bound_signals program.signals columns) ≡ None
signal_kept program width columns same below different none = from_each (signal_fault (bound program width columns)) (bound_signals program.signals columns) (λ i d inside.
    let here : i < length program.signals = omega (arith, length-bound_signals program.signals columns) in
    let wide : i < length columns = omega arith in
    let s : StoredSignal = slice_index_or program.signals i d in
    let n : ℕ = slice_index columns i in
    let long : length (take i columns) ≡ length (take i program.signals) = omega (arith, length-take i columns, length-take i program.signals) in
    let was : is_new_signal program.width (take i program.signals) s ≡ true = unless_true _ _ (each (signal_fault program) program.signals none i d here) in
    let column : list_any (λ before. before.column == n) (bound_signals (take i program.signals) (take i columns)) ≡ false = any_column n (take i program.signals) (take i columns) long ∙ none_earlier columns i different wide in
    let names : not (list_any (λ before. bytes_eq s.name before.name) (bound_signals (take i program.signals) (take i columns))) ≡ true = ap not (any_name s.name (take i program.signals) (take i columns)) ∙ and_right _ _ was in
    ap (signal_fault (bound program width columns) i) (bound_at program.signals columns i d same here)
    ∙ ap (λ earlier. unless (is_new_signal width earlier (record s { column = n })) (Signal i)) (take_bound program.signals columns i)
    ∙ unless_both _ _ _ (and_from _ _ (lt-ltb n width (below i 0 wide)) (ap not column)) names)

-- the column of a signal after it was moved
moved_at : (signals : List StoredSignal) (columns : List ℕ) (c j : ℕ) (d : StoredSignal) → length columns ≡ length signals → j < length signals
    → list_any (λ before. before.column == c) (take j signals) ≡ false → (slice_index_or signals j d).column ≡ c → moved signals columns c ≡ slice_index columns j
unfolding moved
moved_at (s ∷ signals) (n ∷ columns) c zero d same inside none at = rw (eq-eqb s.column c at) refl
moved_at (s ∷ signals) (n ∷ columns) c (suc j) d same inside none at =
    let p = or_parts (s.column == c) (list_any (λ before. before.column == c) (take j signals)) none in
    rw p.0 (moved_at signals columns c j d (omega arith) (omega arith) p.1 at)
moved_at _ _ c j d same inside none at = absurd (omega arith)

column_kept : (program : Program) (width : ℕ) (columns : List ℕ) → program.version ≡ 2 → length columns ≡ length program.signals → All (λ c. c < width) columns
    → first_in (signal_fault program) 0 program.signals ≡ None → (c : ℕ) (t : Bool) → is_column_of program c t ≡ true → is_column_of (bound program width columns) (moved program.signals columns c) t ≡ true
column_kept program width columns two same below none c t h =
    let second : (program.version == 1) ≡ false = ap (λ v. v == 1) two in
    let stored : has_kind program.signals c t ≡ true = or_first (program.version == 1) (has_kind program.signals c t) second (and_right (nat_lt c program.width) ((program.version == 1) || has_kind program.signals c t) h) in
    let found = Any-from_list_any (λ (signal : StoredSignal). (signal.column == c) && (if t then signal.truth else not signal.truth)) program.signals stored in
    let j : ℕ = found.0 in
    let s : StoredSignal = slice_index_or program.signals j found.1 in
    let n : ℕ = slice_index columns j in
    let inside : j < length program.signals = found.2 in
    let at : s.column ≡ c = ap (λ (x : StoredSignal). x.column) found.3 ∙ eqb-true found.1.column c (and_left _ _ found.4) in
    let kind : (if t then s.truth else not s.truth) ≡ true = ap (λ (x : StoredSignal). if t then x.truth else not x.truth) found.3 ∙ and_right _ _ found.4 in
    let was : is_new_signal program.width (take j program.signals) s ≡ true = unless_true _ _ (each (signal_fault program) program.signals none j found.1 inside) in
    let earlier : list_any (λ before. before.column == c) (take j program.signals) ≡ false =
    subst (λ (m : ℕ). list_any (λ (before : StoredSignal). before.column == m) (take j program.signals) ≡ false) at (not-true _ (and_right _ _ (and_left _ _ was))) in
    let new : moved program.signals columns c ≡ n = moved_at program.signals columns c j found.1 same inside earlier at in
    let here : StoredSignal = record s { column = n } in
    let stands : slice_index_or (bound_signals program.signals columns) j here ≡ here = bound_at program.signals columns j here same inside ∙ ap (λ (x : StoredSignal). record x { column = n }) (get_or_default program.signals j here found.1 inside) in
    let has : has_kind (bound_signals program.signals columns) n t ≡ true = list_any-from_Any (λ (signal : StoredSignal). (signal.column == n) && (if t then signal.truth else not signal.truth)) (bound_signals program.signals columns)
    (j, here, omega (arith, length-bound_signals program.signals columns), stands, and_from _ _ (eq-eqb n n refl) kind) in
    subst (λ (m : ℕ). is_column_of (bound program width columns) m t ≡ true) (sym new) (and_from _ _ (lt-ltb n width (below j 0 (omega arith))) (or_right _ _ has))

operands_kept : (program : Program) (width : ℕ) (columns : List ℕ) → program.version ≡ 2 → length columns ≡ length program.signals → All (λ c. c < width) columns
    → first_in (signal_fault program) 0 program.signals ≡ None → (i : ℕ) (op : BzOp) → has_operands program i op ≡ true → has_operands (bound program width columns) i (bound_op program.signals columns op) ≡ true
operands_kept program width columns two same below none i (Column c) h = column_kept program width columns two same below none c false h
operands_kept program width columns two same below none i (IsTrue c) h = column_kept program width columns two same below none c true h
operands_kept program width columns two same below none i (Const n) h = refl
operands_kept program width columns two same below none i (Neg a) h = whole_before_kept program.signals columns program.bz i a ∙ h
operands_kept program width columns two same below none i _ h = and_from _ _ (whole_before_kept program.signals columns program.bz i _ ∙ and_left _ _ h) (whole_before_kept program.signals columns program.bz i _ ∙ and_right _ _ h)

bz_kept : (program : Program) (width : ℕ) (columns : List ℕ) → program.version ≡ 2 → length columns ≡ length program.signals → All (λ c. c < width) columns
    → first_in (signal_fault program) 0 program.signals ≡ None → first_in (bz_fault program) 0 program.bz ≡ None
    → first_in (bz_fault (bound program width columns)) 0 (map (bound_op program.signals columns) program.bz) ≡ None
bz_kept program width columns two same below signals none = from_each (bz_fault (bound program width columns)) (map (bound_op program.signals columns) program.bz) (λ i d inside.
    let here : i < length program.bz = omega (arith, length-map program.bz (bound_op program.signals columns)) in
    let op : BzOp = slice_index_or program.bz i d in
    let was = or_none _ _ (each (bz_fault program) program.bz none i d here) in
    ap (bz_fault (bound program width columns) i) (get_or-map (bound_op program.signals columns) program.bz i d d here)
    ∙ bz_range (bound program width columns) i (bound_op program.signals columns op) _ (operands_kept program width columns two same below signals i op (unless_true _ _ was.0)) (range_kept program.signals columns program.bz i)
    ∙ was.1)

ft_kept : (program : Program) (width : ℕ) (columns : List ℕ) (i : ℕ) (op : ft.FtOp) → ft_fault (bound program width columns) i op ≡ ft_fault program i op
ft_kept program width columns i (ft.TheVariants.Load a) = ap (λ b. earlier_of (unless b (Operand Ft i)) None) (truth_at_kept program.signals columns program.bz a)
ft_kept program width columns i _ = refl

pt_kept : (program : Program) (width : ℕ) (columns : List ℕ) (i : ℕ) (op : pt.PtOp) → pt_fault (bound program width columns) i op ≡ pt_fault program i op
pt_kept program width columns i (pt.TheVariants.Load a) = ap (λ b. earlier_of (unless b (Operand Pt i)) None) (truth_at_kept program.signals columns program.bz a)
pt_kept program width columns i _ = refl

-- a well-formed program stays so
pub well_bound : (program : Program) (width : ℕ) (columns : List ℕ) → program.version ≡ 2 → length columns ≡ length program.signals → All (λ c. c < width) columns → AreDifferent columns → width ≤ 65536
    → IsWellFormed program → IsWellFormed (bound program width columns)
well_bound program width columns two same below different narrow good =
    let h1 = or_none _ _ good in
    let h2 = or_none _ _ h1.1 in
    let h3 = or_none _ _ h2.1 in
    let h4 = or_none _ _ h3.1 in
    let h5 = or_none _ _ h4.1 in
    let h6 = or_none _ _ h5.1 in
    both_none _ _ (rw (le-leb width 65536 narrow) refl)
    (both_none _ _ (signal_kept program width columns same below different h2.0)
    (both_none _ _ (bz_kept program width columns two same below h2.0 h3.0)
    (both_none _ _ (first_same (ft_fault (bound program width columns)) (ft_fault program) (ft_kept program width columns) program.ft 0 ∙ h4.0)
    (both_none _ _ h5.0
    (both_none _ _ (first_same (pt_fault (bound program width columns)) (pt_fault program) (pt_kept program width columns) program.pt 0 ∙ h6.0) h6.1)))))

-- what a checked program keeps
pub kept_bound : (program : Program) (bests worsts : List ℕ) (signal_numbers : List (Option ℕ)) (width : ℕ) (columns : List ℕ) → program.version ≡ 2 → length columns ≡ length program.signals → All (λ c. c < width) columns → AreDifferent columns → width ≤ 65536
    → IsKept program bests worsts signal_numbers → IsKept (bound program width columns) bests worsts signal_numbers
kept_bound program bests worsts signal_numbers width columns two same below different narrow kept = record {
  layout = record {
    ft_sizes = kept.layout.ft_sizes;
    pt_sizes = kept.layout.pt_sizes;
    few_bz = omega (arith, kept.layout.few_bz, length-map program.bz (bound_op program.signals columns));
    few_ft = kept.layout.few_ft;
    few_pt = kept.layout.few_pt;
    few_outs = kept.layout.few_outs;
    few_signals = omega (arith, kept.layout.few_signals, length-bound_signals program.signals columns);
    version = inr two;
  };
  well_formed = well_bound program width columns two same below different narrow kept.well_formed;
  best = kept.best;
  worst = kept.worst;
  in_time = kept.in_time;
  read_by = kept.read_by ∙ sym (readers_stay program width columns two same different kept.well_formed);
}
