-- Nodes and parts of the slab, when one node and its part are written.
use Rattle.std.proofs.Common.{◌≡◌, ◌≢◌, ℕ, ◌+◌, ◌-◌, ◌<◌, ◌≤◌, List, ◌++◌, length, get_or, take, drop, set, arith, refl, sym, ap, ◌∙◌, inl, inr, length-drop, get_or-set_other, get_or-set_same}
use Rattle.std.proofs.lemmas.List.{get_or_append_left, get_or-append_right, take-append-le, drop-append-le, take_at, drop_at, drop-drop, get_or_default}
use Rattle.std.proofs.lemmas.Bool.{cases_lt}

-- another member of the list is as before
pub other_member : {X : Type 0} → (front back : List X) (x d : X) (j : ℕ) → j ≢ length front → get_or (front ++ set back 0 x) j d ≡ get_or (front ++ back) j d
other_member front back x d j other = elim (cases_lt j (length front)) [
  | inl before ↦ get_or_append_left front (set back 0 x) d j before ∙ sym (get_or_append_left front back d j before)
  | inr after ↦
      let later : j - length front ≢ 0 = omega arith in
      get_or-append_right front (set back 0 x) (length front) j d refl after
      ∙ get_or-set_other back 0 (j - length front) x d later
      ∙ sym (get_or-append_right front back (length front) j d refl after)
]

-- the member that is written
pub this_member : {X : Type 0} → (front back : List X) (x d : X) → 0 < length back → get_or (front ++ set back 0 x) (length front) d ≡ x
this_member front back x d some =
    let here : length front - length front ≡ 0 = omega arith in
    get_or-append_right front (set back 0 x) (length front) (length front) d refl (omega arith)
    ∙ ap (λ (k : ℕ). get_or (set back 0 x) k d) here
    ∙ get_or-set_same back 0 x d some

-- a part in front
pub part_before : {X : Type 0} → (low high : List X) (start size : ℕ) → start + size ≤ length low → take size (drop start (low ++ high)) ≡ take size (drop start low)
part_before low high start size within =
    ap (λ xs. take size xs) (drop-append-le start low high (omega arith))
    ∙ take-append-le size (drop start low) high (omega (arith, length-drop start low))

-- the part between
pub part_here : {X : Type 0} → (low own high : List X) (start size : ℕ) → length low ≡ start → length own ≡ size → take size (drop start (low ++ (own ++ high))) ≡ own
part_here low own high start size starts sized =
    ap (λ xs. take size xs) (drop_at low (own ++ high) start starts) ∙ take_at own high size sized

-- a part after
pub part_after : {X : Type 0} → (low own high : List X) (start size : ℕ) → length low + length own ≤ start → take size (drop start (low ++ (own ++ high))) ≡ take size (drop (start - (length low + length own)) high)
part_after low own high start size past =
    let further : length low + (length own + (start - (length low + length own))) ≡ start = omega arith in
    ap (λ xs. take size xs) (
    ap (λ (k : ℕ). drop k (low ++ (own ++ high))) (sym further)
    ∙ sym (drop-drop (length own + (start - (length low + length own))) (length low) (low ++ (own ++ high)))
    ∙ ap (λ xs. drop (length own + (start - (length low + length own))) xs) (drop_at low (own ++ high) (length low) refl)
    ∙ sym (drop-drop (start - (length low + length own)) (length own) (own ++ high))
    ∙ ap (λ xs. drop (start - (length low + length own)) xs) (drop_at own high (length own) refl)
    )

-- the first member after
pub first_after : {X : Type 0} → (front back : List X) (d e : X) → 0 < length back → get_or back 0 d ≡ get_or (front ++ back) (length front) e
first_after front back d e some =
    let here : length front - length front ≡ 0 = omega arith in
    get_or_default back 0 d e some ∙ ap (λ (k : ℕ). get_or back k e) (sym here) ∙ sym (get_or-append_right front back (length front) (length front) e refl (omega arith))
