-- The window of a ring's list, when a member is added after it or taken off its front.
use Rattle.std.proofs.Common.{◌≡◌, ℕ, ◌+◌, ◌-◌, ◌<◌, ◌≤◌, ◌⊎◌, List, [], ◌∷◌, ◌++◌, length, get_or, set, ap, ◌∙◌, ap₂, inl, inr, arith, length-append, length-drop, length-set, length-take-le, get_or-drop, get_or-take, sym}
use Rattle.std.proofs.lemmas.List.{set-get_or, same_lists, drop_more, get_or_append_left, get_or-append_right}
use Rattle.std.proofs.lemmas.Grind.{common_steps}
use Rattle.std.proofs.lemmas.Bool.Decides.{nat_tests}
use Rattle.scq_ring.specs.Runs.{window, ring_index_of}

-- an index is either before the end of the list or past it
pub ring_index_wraps : (o k n : ℕ) → ((k < n - o) × (ring_index_of o k n ≡ o + k)) ⊎ ((n - o ≤ k) × (ring_index_of o k n ≡ k - (n - o)))
ring_index_wraps o k n = grind (arith, nat_tests)

-- the index after one in range is in range
pub next_within : (o n : ℕ) → o < n → ring_index_of o 1 n < n
next_within o n o_in = elim (ring_index_wraps o 1 n) [ inl w ↦ omega arith | inr w ↦ omega arith ]

module _ {X : Type 0} (o n : ℕ) (xs : List X) (o_in : o < length xs) (n_in : n ≤ length xs) where
  -- the window has n members
  pub length-window : length (window o n xs) ≡ n
  length-window = length-take-le n _ (simp (length-append, length-drop) (omega (arith, length-take-le o xs (omega arith))))

  -- member i of the window
  pub get_or-window : (i : ℕ) (d : X) → i < n → get_or (window o n xs) i d ≡ get_or xs (ring_index_of o i (length xs)) d
  get_or-window i d in_range =
      let length_tail = length-drop o xs in
      get_or-take n _ i d in_range ∙ elim (ring_index_wraps o i (length xs)) [
        | inl w ↦ get_or_append_left _ _ d i (omega arith) ∙ get_or-drop o xs i d ∙ ap (λ j. get_or xs j d) (sym w.1)
        | inr w ↦ get_or-append_right _ _ (length xs - o) i d (omega arith) (omega arith) ∙ get_or-take o xs _ d (omega arith) ∙ ap (λ j. get_or xs j d) (sym w.1)
      ]

-- A second block, since these use the lemmas above at other windows.
module _ {X : Type 0} (o n : ℕ) (xs : List X) (o_in : o < length xs) (n_in : n ≤ length xs) where
  -- a write after the last member adds it at the end
  pub window_after_push : (x : X) → n < length xs → window o (n + 1) (set xs (ring_index_of o n (length xs)) x) ≡ window o n xs ++ x ∷ []
  window_after_push x has_room =
      let j : ℕ = ring_index_of o n (length xs) in
      let ys : List X = set xs j x in
      let length_ys : length ys ≡ length xs = length-set xs j x in
      let length_old : length (window o n xs) ≡ n = length-window o n xs o_in n_in in
      let length_new : length (window o (n + 1) ys) ≡ n + 1 = length-window o (n + 1) ys (omega arith) (omega arith) in
      let written : (n < length xs - o) × (j ≡ o + n) ⊎ (length xs - o ≤ n) × (j ≡ n - (length xs - o)) = ring_index_wraps o n (length xs) in
      same_lists _ _ (grind (arith, common_steps)) (λ i d in_range. grind (
        arith,
        common_steps,
        ring_index_wraps o i (length xs),
        ring_index_wraps o i (length ys),
        get_or-window o n xs o_in n_in i d,
        get_or-window o (n + 1) ys (omega arith) (omega arith) i d,
      ))

  -- the window is its first member, then the window from the next index
  pub window_before_pop : (d : X) → 0 < n → window o n xs ≡ get_or xs o d ∷ window (ring_index_of o 1 (length xs)) (n - 1) xs
  window_before_pop d nonempty =
      let length_old : length (window o n xs) ≡ n = length-window o n xs o_in n_in in
      let o' : ℕ = ring_index_of o 1 (length xs) in
      let next_in : o' < length xs = next_within o (length xs) o_in in
      let length_new : length (window o' (n - 1) xs) ≡ n - 1 = length-window o' (n - 1) xs next_in (omega arith) in
      let old_member : (i : ℕ) (e : X) → i < n → get_or (window o n xs) i e ≡ get_or xs (ring_index_of o i (length xs)) e = get_or-window o n xs o_in n_in in
      drop_more _ 0 d (omega arith) ∙ ap₂ ◌∷◌ (grind (arith, old_member 0 d, ring_index_wraps o 0 (length xs))) (same_lists _ _ (simp length-drop (omega arith)) (λ i e in_range. grind (
        arith,
        length-drop 1 (window o n xs),
        get_or-drop 1 (window o n xs) i e,
        ring_index_wraps o 1 (length xs),
        ring_index_wraps o (1 + i) (length xs),
        ring_index_wraps o' i (length xs),
        old_member (1 + i) e,
        get_or-window o' (n - 1) xs next_in (omega arith) i e,
      )))

module _ {X : Type 0} (o n : ℕ) (xs : List X) (o_in : o < length xs) (n_in : n ≤ length xs) (nonempty : 0 < n) where
  -- a write to the last member changes it alone
  pub window_after_change : (x : X) → window o n (set xs (ring_index_of o (n - 1) (length xs)) x) ≡ window o (n - 1) xs ++ x ∷ []
  window_after_change x =
      let ys : List X = set xs (ring_index_of o (n - 1) (length xs)) x in
      let one_more : n ≡ n - 1 + 1 = omega arith in
      ap (λ (m : ℕ). window o m ys) one_more ∙ window_after_push o (n - 1) xs o_in (omega arith) x (omega arith)

  -- the window is what stands before its last member, and that member
  pub window_last : (d : X) → window o n xs ≡ window o (n - 1) xs ++ get_or xs (ring_index_of o (n - 1) (length xs)) d ∷ []
  window_last d =
      let j : ℕ = ring_index_of o (n - 1) (length xs) in
      ap (λ (ys : List X). window o n ys) (sym (set-get_or xs j d)) ∙ window_after_change (get_or xs j d)
