-- The columns of signals whose names differ, and of signals in order.

use Rattle.std.proofs.Common.{◌≡◌, ◌∙◌, ◌<◌, ◌≤◌, ℕ, false, List, [], map, length, All, get_or, sym, arith}
use Rattle.std.proofs.lemmas.List.{get_or-map, length-map}
use Rattle.std.proofs.lemmas.List.FromFn.{length-range_with_len, get_or-range_with_len}
use Rattle.std.proofs.lemmas.Option.{slice_get-get_or}
use Rattle.std.specs.List.{range_with_len}
use Rattle.mltl_base.specs.declared.limits.TheConstants.{MAX_SIGNALS}
use Rattle.mltl_base.specs.declared.signal.Signal.{Signal}
use Rattle.obs_verify.specs.Bound.{AreDifferent}
use Rattle.mltl_base.specs.Kinds.{HaveOwnNames}
use Rattle.trace_columns.specs.Header.{AreDifferentNames, columns_in_order}
use Rattle.c2po_compile.specs.Image.{AreColumnsFor}

-- a signal's name at a place
name_at : (signals : List Signal) (i : ℕ) (d : Signal) → i < length signals → get_or (map (λ (s : Signal). s.name) signals) i [] ≡ (get_or signals i d).name
name_at signals i d inside = get_or-map (λ (s : Signal). s.name) signals i d [] inside

-- signals with names of their own have different names
pub names_differ : (signals : List Signal) → HaveOwnNames signals → AreDifferentNames (map (λ (s : Signal). s.name) signals)
names_differ signals own i j below inside same =
    let d : Signal = record { name = []; truth = false } in
    let far : j < length signals = omega (arith, length-map signals (λ (s : Signal). s.name)) in
    let near : i < length signals = omega arith in
    own i j (get_or signals i d) (get_or signals j d) below (slice_get-get_or signals i d near) (slice_get-get_or signals j d far)
    (sym (name_at signals i d near) ∙ same ∙ name_at signals j d far)

-- columns in order are below their number, and different
order_below : (n : ℕ) → All (λ column. column < n) (range_with_len 0 n)
order_below n k d inside = omega (arith, length-range_with_len 0 n, get_or-range_with_len 0 n k d)

order_different : (n : ℕ) → AreDifferent (range_with_len 0 n)
order_different n i j below inside same =
    omega (arith, length-range_with_len 0 n, get_or-range_with_len 0 n i 0, get_or-range_with_len 0 n j 0)

pub order_serves : (n : ℕ) → n ≤ MAX_SIGNALS → AreColumnsFor n (columns_in_order n)
order_serves n few = record {
  one_each = length-range_with_len 0 n;
  below = order_below n;
  different = order_different n;
  narrow = few;
}
