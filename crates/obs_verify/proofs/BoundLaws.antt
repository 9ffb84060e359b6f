-- Signals in other columns.
use Rattle.std.proofs.Common.{◌≡◌, ℕ, ◌+◌, ◌<◌, ◌≤◌, suc, Some, List, [], ◌∷◌, ◌++◌, length, take, drop, map, slice_get, slice_set, slice_index, slice_index_or, refl, ap, sym, ◌∙◌, arith, append_assoc}
use Rattle.std.proofs.lemmas.List.{append-nil, take_all, drop_more, drop_all, take_more, map_more, set_at, length-append, length-drop, length-map, length-take-le}
use Rattle.mltl_base.proofs.Members.{get_after}
use Rattle.mltl_base.specs.declared.program.StoredSignal.{StoredSignal}
use Rattle.obs_verify.specs.Bound.{bound_signals}

-- one member is changed at its place
pub change_at : {X : Type 0} (front rest ys : List X) (x y : X) (i : ℕ) → length front ≡ i → ys ≡ front ++ x ∷ rest → slice_set ys i y ≡ front ++ y ∷ rest
change_at front rest ys x y i long is = ap (λ zs. slice_set zs i y) is ∙ set_at front x rest y i long

pub mapped_more : {X : Type 0} (f : X → X) (xs ys : List X) (i : ℕ) (x : X) → i < length xs → ys ≡ map f (take i xs) ++ drop i xs → slice_get ys i ≡ Some x
    → slice_set ys i (f x) ≡ map f (take (i + 1) xs) ++ drop (i + 1) xs
mapped_more f xs ys i x inside done got =
    let front : length (map f (take i xs)) ≡ i = length-map (take i xs) f ∙ length-take-le i xs (omega arith) in
    let split : ys ≡ map f (take i xs) ++ slice_index_or xs i x ∷ drop (i + 1) xs = done ∙ ap (λ zs. map f (take i xs) ++ zs) (drop_more xs i x inside) in
    let there : slice_get ys i ≡ Some (slice_index_or xs i x) = ap (λ zs. slice_get zs i) split ∙ ap (slice_get (map f (take i xs) ++ slice_index_or xs i x ∷ drop (i + 1) xs)) (sym front) ∙ get_after (map f (take i xs)) (drop (i + 1) xs) (slice_index_or xs i x) in
    let same : x ≡ slice_index_or xs i x = cc in
    change_at (map f (take i xs)) (drop (i + 1) xs) ys (slice_index_or xs i x) (f x) i front split
    ∙ ap (λ z. map f (take i xs) ++ f z ∷ drop (i + 1) xs) same
    ∙ sym (append_assoc (map f (take i xs)) (f (slice_index_or xs i x) ∷ []) (drop (i + 1) xs)) ∙ ap (λ zs. zs ++ drop (i + 1) xs) (sym (map_more f xs i x inside))

-- the members that aren't changed yet are those of the old list
pub still_there : {X : Type 0} (f : X → X) (xs ys : List X) (i : ℕ) (x d : X) → i < length xs → ys ≡ map f (take i xs) ++ drop i xs → slice_get ys i ≡ Some x
    → x ≡ slice_index_or xs i d
still_there f xs ys i x d inside done got =
    let front : length (map f (take i xs)) ≡ i = length-map (take i xs) f ∙ length-take-le i xs (omega arith) in
    let split : ys ≡ map f (take i xs) ++ slice_index_or xs i d ∷ drop (i + 1) xs = done ∙ ap (λ zs. map f (take i xs) ++ zs) (drop_more xs i d inside) in
    let there : slice_get ys i ≡ Some (slice_index_or xs i d) = ap (λ zs. slice_get zs i) split ∙ ap (slice_get (map f (take i xs) ++ slice_index_or xs i d ∷ drop (i + 1) xs)) (sym front) ∙ get_after (map f (take i xs)) (drop (i + 1) xs) (slice_index_or xs i d) in
    cc

-- one member more, where the change leaves it as it is
pub mapped_kept : {X : Type 0} (f : X → X) (xs : List X) (i : ℕ) (x : X) → i < length xs → f (slice_index_or xs i x) ≡ slice_index_or xs i x
    → map f (take i xs) ++ drop i xs ≡ map f (take (i + 1) xs) ++ drop (i + 1) xs
mapped_kept f xs i x inside stays =
    ap (λ zs. map f (take i xs) ++ zs) (drop_more xs i x inside)
    ∙ ap (λ z. map f (take i xs) ++ z ∷ drop (i + 1) xs) (sym stays)
    ∙ sym (append_assoc (map f (take i xs)) (f (slice_index_or xs i x) ∷ []) (drop (i + 1) xs)) ∙ ap (λ zs. zs ++ drop (i + 1) xs) (sym (map_more f xs i x inside))

pub mapped_all : {X : Type 0} (f : X → X) (xs : List X) (i : ℕ) → length xs ≤ i → map f (take i xs) ++ drop i xs ≡ map f xs
mapped_all f xs i all = ap (λ zs. map f (take i xs) ++ zs) (drop_all i xs all) ∙ append-nil _ ∙ ap (map f) (take_all i xs all)

pub length-mapped : {X : Type 0} (f : X → X) (xs : List X) (i : ℕ) → i ≤ length xs → length (map f (take i xs) ++ drop i xs) ≡ length xs
length-mapped f xs i inside = omega (arith, length-append (map f (take i xs)) (drop i xs), length-map (take i xs) f, length-take-le i xs inside, length-drop i xs)

pub length-bound_signals : (signals : List StoredSignal) (columns : List ℕ) → length (bound_signals signals columns) ≡ length signals
unfolding bound_signals
length-bound_signals (s ∷ signals) (n ∷ columns) = ap suc (length-bound_signals signals columns)
length-bound_signals _ _ = refl

bound_push : (signals : List StoredSignal) (columns : List ℕ) (s : StoredSignal) (n : ℕ) → length signals ≡ length columns
    → bound_signals (signals ++ s ∷ []) (columns ++ n ∷ []) ≡ bound_signals signals columns ++ (record s { column = n }) ∷ []
unfolding bound_signals
bound_push [] [] s n same = refl
bound_push (t ∷ signals) (m ∷ columns) s n same = ap (λ ss. record t { column = m } ∷ ss) (bound_push signals columns s n (omega arith))
bound_push _ _ s n same = absurd (omega arith)

pub bound_more : (signals now : List StoredSignal) (columns : List ℕ) (k n : ℕ) (s moved_signal : StoredSignal) → k < length columns → length columns ≡ length signals
    → now ≡ bound_signals (take k signals) (take k columns) ++ drop k signals → slice_get now k ≡ Some s → n ≡ slice_index columns k → moved_signal ≡ record s { column = n }
    → slice_set now k moved_signal ≡ bound_signals (take (k + 1) signals) (take (k + 1) columns) ++ drop (k + 1) signals
bound_more signals now columns k n s moved_signal inside same done got new made =
    let within : k < length signals = omega arith in
    let fs : length (take k signals) ≡ k = length-take-le k signals (omega arith) in
    let fc : length (take k columns) ≡ k = length-take-le k columns (omega arith) in
    let front : length (bound_signals (take k signals) (take k columns)) ≡ k = length-bound_signals (take k signals) (take k columns) ∙ fs in
    let old : StoredSignal = slice_index_or signals k s in
    let split : now ≡ bound_signals (take k signals) (take k columns) ++ old ∷ drop (k + 1) signals = done ∙ ap (λ zs. bound_signals (take k signals) (take k columns) ++ zs) (drop_more signals k s within) in
    let there : slice_get now k ≡ Some old = ap (λ zs. slice_get zs k) split ∙ ap (slice_get (bound_signals (take k signals) (take k columns) ++ old ∷ drop (k + 1) signals)) (sym front)
    ∙ get_after (bound_signals (take k signals) (take k columns)) (drop (k + 1) signals) old in
    let is : s ≡ old = cc in
    let grown : bound_signals (take (k + 1) signals) (take (k + 1) columns) ≡ bound_signals (take k signals) (take k columns) ++ (record old { column = slice_index columns k }) ∷ [] =
    ap (λ ss. bound_signals ss (take (k + 1) columns)) (take_more signals k s within) ∙ ap (bound_signals (take k signals ++ old ∷ [])) (take_more columns k 0 inside)
    ∙ bound_push (take k signals) (take k columns) old (slice_index columns k) (fs ∙ sym fc) in
    let put : moved_signal ≡ record old { column = slice_index columns k } = made ∙ ap (λ (x : StoredSignal). record x { column = n }) is ∙ ap (λ (m : ℕ). record old { column = m }) new in
    change_at (bound_signals (take k signals) (take k columns)) (drop (k + 1) signals) now old moved_signal k front split
    ∙ ap (λ (z : StoredSignal). bound_signals (take k signals) (take k columns) ++ z ∷ drop (k + 1) signals) put
    ∙ sym (append_assoc (bound_signals (take k signals) (take k columns)) (record old { column = slice_index columns k } ∷ []) (drop (k + 1) signals)) ∙ ap (λ zs. zs ++ drop (k + 1) signals) (sym grown)
