-- Members of a list that have parts of one slab, whatever else members and slab are: new ones, and one and its part that are written.
use Rattle.std.proofs.Common.{◌≡◌, ◌≢◌, ℕ, ◌+◌, ◌-◌, ◌<◌, ◌≤◌, List, [], ◌∷◌, ◌++◌, length, get_or, take, drop, set, inl, inr, length-set, length-drop, arith, subst, sym, ap, ◌∙◌, refl}
use Rattle.std.proofs.lemmas.Bool.{cases_lt, cases_eq}
use Rattle.std.proofs.lemmas.List.{get_or_append_left, get_or_push, length-append, drop_at, length-take-le, take-append-drop}
use Rattle.mltl_base.specs.declared.seat.Seat.{Seat}
use Rattle.mltl_base.specs.Seats.{AreSeated, part}
use Rattle.mltl_base.proofs.Pieces.{other_member, this_member, part_before, part_here, part_after}

-- a part within the slab is as long as its seat says
pub length-part : {S : Type 0} → (slab : List S) (seat : Seat) → seat.start + seat.size ≤ length slab → length (part slab seat) ≡ seat.size
length-part slab seat within = length-take-le seat.size (drop seat.start slab) (omega (arith, length-drop seat.start slab))

-- no node is seated
pub none_seated : {N : Type 0} (none : N) (seat : N → Seat) (nodes : List N) → AreSeated none seat nodes 0 0
none_seated none seat nodes = record { within = λ j h. absurd (omega arith); apart = λ j k jk h. absurd (omega arith) }

module _ {N : Type 0} (none : N) (nodes : List N) (i : ℕ) (new : N) (count : length nodes ≡ i) where
  -- the nodes before a new one, and the new one
  pub earlier : (j : ℕ) → j < i → get_or (nodes ++ new ∷ []) j none ≡ get_or nodes j none
  earlier j h = get_or_append_left nodes (new ∷ []) none j (omega arith)

  pub latest : get_or (nodes ++ new ∷ []) i none ≡ new
  latest = get_or_push nodes new none i count

  -- what holds of each node, by its number
  pub each_more : (P : ℕ → N → Type 0) → ((j : ℕ) → j < i → P j (get_or nodes j none)) → P i new → (j : ℕ) → j < i + 1 → P j (get_or (nodes ++ new ∷ []) j none)
  each_more P before here j h = elim (cases_eq j i) [
    | inl same ↦ subst (λ (k : ℕ). P k (get_or (nodes ++ new ∷ []) k none)) (sym same) (subst (λ (m : N). P i m) (sym latest) here)
    | inr other ↦ subst (λ (m : N). P j m) (sym (earlier j (omega arith))) (before j (omega arith))
  ]

  -- one more node, whose part begins where those before end
  pub seated_more : (seat : N → Seat) (end : ℕ) → AreSeated none seat nodes end i → (seat new).start ≡ end → AreSeated none seat (nodes ++ new ∷ []) (end + (seat new).size) (i + 1)
  seated_more seat end s begins = record {
    within = each_more (λ j m. (seat m).start + (seat m).size ≤ end + (seat new).size) (λ j h. omega (arith, s.within j h)) (omega (arith, begins));
    apart = λ j k jk h.
        let Ends : N → ℕ → Type 0 = λ m k'. (seat m).start + (seat m).size ≤ k' in
        let P : ℕ → N → Type 0 = λ k' q. j < k' → Ends (get_or nodes j none) (seat q).start in
        let old : Ends (get_or nodes j none) (seat (get_or (nodes ++ new ∷ []) k none)).start =
        each_more P (λ k' h' jk'. s.apart j k' jk' h') (λ ji. omega (arith, begins, s.within j ji)) k h jk in
        subst (λ (m : N). Ends m (seat (get_or (nodes ++ new ∷ []) k none)).start) (sym (earlier j (omega arith))) old;
  }

-- one node and its part of the slab are written
pub record Stepped {N S : Type 0} (none : N) (seat : N → Seat) (nodes : List N) (slab : List S) (i : ℕ) (new : N) (own : List S) (nodes' : List N) (slab' : List S) : Type 0 where
  pub same_length : length nodes' ≡ length nodes
  pub same_slab : length slab' ≡ length slab
  pub here : get_or nodes' i none ≡ new
  pub others : (j : ℕ) → j ≢ i → get_or nodes' j none ≡ get_or nodes j none
  pub own_part : part slab' (seat new) ≡ own
  pub other_parts : (j : ℕ) → j ≢ i → j < length nodes → part slab' (seat (get_or nodes j none)) ≡ part slab (seat (get_or nodes j none))
  pub same_seat : seat new ≡ seat (get_or nodes i none)

module _ {N S : Type 0} {none : N} {seat : N → Seat} {nodes : List N} {slab : List S} {i : ℕ} {new : N} {own : List S} {nodes' : List N} {slab' : List S}
    (st : Stepped none seat nodes slab i new own nodes' slab') where
  -- what holds of the old node at an index, and of the new one, holds of the nodes
  pub each_on : (P : ℕ → N → Type 0) (j : ℕ) → (j ≢ i → P j (get_or nodes j none)) → P i new → P j (get_or nodes' j none)
  each_on P j before here = elim (cases_eq j i) [
    | inl same ↦ subst (λ (k : ℕ). P k (get_or nodes' k none)) (sym same) (subst (λ (m : N). P i m) (sym st.here) here)
    | inr other ↦ subst (λ (m : N). P j m) (sym (st.others j other)) (before other)
  ]

  -- each node keeps its seat
  pub seat_stays : (j : ℕ) → seat (get_or nodes' j none) ≡ seat (get_or nodes j none)
  seat_stays j = each_on (λ k m. seat m ≡ seat (get_or nodes k none)) j (λ other. refl) st.same_seat

  pub seated_on : AreSeated none seat nodes (length slab) (length nodes) → AreSeated none seat nodes' (length slab') (length nodes')
  seated_on s = record {
    within = λ j h.
        subst (λ (m : Seat). m.start + m.size ≤ length slab') (sym (seat_stays j)) (omega (arith, st.same_slab, s.within j (omega (arith, st.same_length))));
    apart = λ j k jk h.
        subst (λ (m : Seat). m.start + m.size ≤ (seat (get_or nodes' k none)).start) (sym (seat_stays j))
        (subst (λ (m : Seat). (seat (get_or nodes j none)).start + (seat (get_or nodes j none)).size ≤ m.start) (sym (seat_stays k)) (s.apart j k jk (omega (arith, st.same_length))));
  }

  -- what holds of a node and its part, at another node
  pub other_kept : (P : N → List S → Type 0) (j : ℕ) → j ≢ i → j < length nodes
      → P (get_or nodes j none) (part slab (seat (get_or nodes j none))) → P (get_or nodes' j none) (part slab' (seat (get_or nodes' j none)))
  other_kept P j other j_in p =
      subst (λ (m : N). P m (part slab' (seat m))) (sym (st.others j other)) (subst (λ (xs : List S). P (get_or nodes j none) xs) (sym (st.other_parts j other j_in)) p)

  -- and at each node, by its number
  pub each_kept : (P : ℕ → N → List S → Type 0) (j : ℕ) → j < length nodes
      → (j ≢ i → P j (get_or nodes j none) (part slab (seat (get_or nodes j none)))) → P i new own → P j (get_or nodes' j none) (part slab' (seat (get_or nodes' j none)))
  each_kept P j j_in before here = elim (cases_eq j i) [
    | inl same ↦
        subst (λ (k : ℕ). P k (get_or nodes' k none) (part slab' (seat (get_or nodes' k none)))) (sym same)
        (subst (λ (m : N). P i m (part slab' (seat m))) (sym st.here) (subst (λ (xs : List S). P i new xs) (sym st.own_part) here))
    | inr other ↦ other_kept (P j) j other j_in (before other)
  ]

module _ {N S : Type 0} {none : N} {seat : N → Seat} {nodes : List N} {slab : List S} (before rest : List N) (low high : List S) (node : N)
    (seated : AreSeated none seat nodes (length slab) (length nodes))
    (nodes_are : nodes ≡ before ++ rest) (slab_is : slab ≡ low ++ high) (some : 0 < length rest) (node_is : node ≡ get_or nodes (length before) none) (low_is : length low ≡ (seat node).start) where
  -- a node in front
  pub node_before : (j : ℕ) → j < length before → get_or nodes j none ≡ get_or before j none
  node_before j h = ap (λ ns. get_or ns j none) nodes_are ∙ get_or_append_left before rest none j h

  -- how many there are
  pub sizes_are : length nodes ≡ length before + length rest
  sizes_are = ap length nodes_are ∙ length-append before rest

  -- the parts of nodes in front end before this one's
  pub part_in_front : (j : ℕ) → j < length before → (seat (get_or nodes j none)).start + (seat (get_or nodes j none)).size ≤ length low
  part_in_front j h =
      let apart = seated.apart j (length before) h (omega (arith, sizes_are)) in
      let here : (seat (get_or nodes (length before) none)).start ≡ length low = ap (λ (m : N). (seat m).start) (sym node_is) ∙ sym low_is in
      omega (arith, apart, here)

  pub own_within : (seat node).start + (seat node).size ≤ length low + length high
  own_within =
      let P : N → Type 0 = λ m. (seat m).start + (seat m).size ≤ length slab in
      let within : P node = subst P (sym node_is) (seated.within (length before) (omega (arith, sizes_are))) in
      omega (arith, within, ap length slab_is, length-append low high)

  -- its part is as long as its seat says
  pub own_long : length (take (seat node).size high) ≡ (seat node).size
  own_long = length-take-le (seat node).size high (omega (arith, own_within, low_is))

  -- the part of the slab that is its own
  pub own_part : part slab (seat node) ≡ take (seat node).size high
  own_part = ap (λ (xs : List S). part xs (seat node)) slab_is ∙ ap (λ (xs : List S). take (seat node).size xs) (drop_at low high (seat node).start low_is)

  -- what holds of a node in front with its part, and of this one
  pub before_kept : (P : N → List S → Type 0) (j : ℕ) → j < length before
      → P (get_or nodes j none) (part slab (seat (get_or nodes j none))) → P (get_or before j none) (part low (seat (get_or before j none)))
  before_kept P j h p =
      let m : N = get_or nodes j none in
      subst (λ (m : N). P m (part low (seat m))) (node_before j h)
      (subst (λ (xs : List S). P m xs) (ap (λ (xs : List S). part xs (seat m)) slab_is ∙ part_before low high (seat m).start (seat m).size (part_in_front j h)) p)

  pub here_kept : (P : N → List S → Type 0) → P (get_or nodes (length before) none) (part slab (seat (get_or nodes (length before) none))) → P node (take (seat node).size high)
  here_kept P p = subst (λ (xs : List S). P node xs) own_part (subst (λ (m : N). P m (part slab (seat m))) (sym node_is) p)

  -- what a write of the node and its part leaves
  pub stepped : (new : N) (own : List S) → seat new ≡ seat node → length own ≡ length (take (seat node).size high)
      → Stepped none seat nodes slab (length before) new own (before ++ set rest 0 new) (low ++ (own ++ drop (seat node).size high))
  stepped new own same_seat same_part =
      let own_size : length own ≡ (seat node).size = same_part ∙ own_long in
      let after : List S = drop (seat node).size high in
      let at : ℕ → N = λ j. get_or nodes j none in
      record {
        same_length = omega (arith, length-append before (set rest 0 new), length-set rest 0 new, sizes_are);
        same_slab = omega (arith, own_within, low_is, own_size, ap length slab_is, length-append low high, length-append low (own ++ after), length-append own after, length-drop (seat node).size high);
        here = this_member before rest new none some;
        others = λ j other. other_member before rest new none j other ∙ ap (λ (ns : List N). get_or ns j none) (sym nodes_are);
        own_part =
            part_here low own after (seat new).start (seat new).size (low_is ∙ ap (λ (m : Seat). m.start) (sym same_seat)) (own_size ∙ ap (λ (m : Seat). m.size) (sym same_seat));
        other_parts = λ j other j_in. elim (cases_lt j (length before)) [
          | inl before_it ↦
              part_before low (own ++ after) (seat (at j)).start (seat (at j)).size (part_in_front j before_it)
              ∙ sym (ap (λ (xs : List S). part xs (seat (at j))) slab_is ∙ part_before low high (seat (at j)).start (seat (at j)).size (part_in_front j before_it))
          | inr after_it ↦
              let P : N → Type 0 = λ m. (seat m).start + (seat m).size ≤ (seat (at j)).start in
              let apart : P node = subst P (sym node_is) (seated.apart (length before) j (omega arith) j_in) in
              part_after low own after (seat (at j)).start (seat (at j)).size (omega (arith, apart, own_size, low_is))
              ∙ ap (λ (k : ℕ). take (seat (at j)).size (drop ((seat (at j)).start - (length low + k)) after)) (own_size ∙ sym own_long)
              ∙ sym (part_after low (take (seat node).size high) after (seat (at j)).start (seat (at j)).size (omega (arith, apart, own_long, low_is)))
              ∙ ap (λ (xs : List S). part xs (seat (at j))) (ap (λ (ys : List S). low ++ ys) (take-append-drop (seat node).size high) ∙ sym slab_is)
        ];
        same_seat = same_seat ∙ ap seat node_is;
      }
