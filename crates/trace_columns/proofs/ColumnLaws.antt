-- Columns of signals, found one after the other.
use Rattle.std.proofs.Common.{◌≡◌, ◌<◌, ◌≤◌, ◌+◌, ℕ, zero, suc, Bool, true, false, cond, List, [], ◌∷◌, ◌++◌, length, drop, map, get_or, Result, Ok, Err, refl, arith, sym, ◌∙◌, ap, append_assoc, ◌==◌, subst}
use Rattle.std.specs.Prelude.{All, not}
use Rattle.std.specs.Str.{bytes_eq}
use Rattle.std.specs.List.{range_with_len}
use Rattle.std.proofs.lemmas.Bool.{eqb-true}
use Rattle.std.proofs.lemmas.List.{append-nil, drop_all, drop_more}
use Rattle.std.proofs.lemmas.List.Sums.{passes_at_first}
use Rattle.std.proofs.lemmas.Slice.Eq.{bytes_eq-Decides}
use Rattle.mltl_base.specs.declared.program.Columns.{Columns}
use Rattle.obs_verify.specs.Bound.{AreDifferent}
use Rattle.trace_columns.specs.Header.{AreDifferentNames, column_of, columns_of, first_place, in_front, of_width, times}
use Rattle.trace_columns.specs.declared.header_fault.HeaderFault.{HeaderFault}
use Rattle.trace_columns.specs.declared.header_fault.HeaderFault.TheVariants.{Missing, Twice}
use Rattle.trace_columns.proofs.PlaceLaws.{times_cons}

-- columns in front of others; a fault stays
unfoldable pub onto : List ℕ → Result (List ℕ) HeaderFault → Result (List ℕ) HeaderFault
onto columns (Ok others) = Ok (columns ++ others)
onto columns (Err fault) = Err fault

pub onto_nil : (r : Result (List ℕ) HeaderFault) → onto [] r ≡ r
unfolding onto
onto_nil (Ok others) = refl
onto_nil (Err fault) = refl

onto_front : (columns : List ℕ) (column : ℕ) (r : Result (List ℕ) HeaderFault) → onto columns (in_front (Ok column) r) ≡ onto (columns ++ column ∷ []) r
unfolding onto
onto_front columns column (Ok others) = ap Ok (sym (append_assoc columns (column ∷ []) others))
onto_front columns column (Err fault) = refl

onto_fault : (columns : List ℕ) (fault : HeaderFault) → onto columns (Err fault) ≡ Err fault
unfolding onto
onto_fault columns fault = refl

onto_end : (columns : List ℕ) → onto columns (Ok []) ≡ Ok columns
unfolding onto
onto_end columns = ap Ok (append-nil columns)

columns_step : {X : Type 0} (name : X → List ℕ) (names : List (List ℕ)) (signals : List X) (i : ℕ) (d : X) → i < length signals
    → columns_of names (map name (drop i signals)) ≡ in_front (column_of names (name (get_or signals i d))) (columns_of names (map name (drop (i + 1) signals)))
columns_step name names signals i d inside = ap (λ rest. columns_of names (map name rest)) (drop_more signals i d inside)

-- a signal that is found goes to the others
pub columns_go_on : {X : Type 0} (name : X → List ℕ) (names : List (List ℕ)) (signals : List X) (i : ℕ) (signal : X) (columns : List ℕ) (column : ℕ) (m : Result (List ℕ) HeaderFault) → i < length signals
    → onto columns (columns_of names (map name (drop i signals))) ≡ m → column_of names (name (get_or signals i signal)) ≡ Ok column
    → onto (columns ++ column ∷ []) (columns_of names (map name (drop (i + 1) signals))) ≡ m
columns_go_on name names signals i signal columns column m inside so_far found =
    sym (onto_front columns column (columns_of names (map name (drop (i + 1) signals))))
    ∙ (ap (λ r. onto columns (in_front r (columns_of names (map name (drop (i + 1) signals))))) (sym found)
    ∙ (ap (onto columns) (sym (columns_step name names signals i signal inside)) ∙ so_far))

-- one that isn't is the first fault
pub columns_stop : {X : Type 0} (name : X → List ℕ) (names : List (List ℕ)) (signals : List X) (i : ℕ) (signal : X) (columns : List ℕ) (fault : HeaderFault) (m : Result (List ℕ) HeaderFault) → i < length signals
    → onto columns (columns_of names (map name (drop i signals))) ≡ m → column_of names (name (get_or signals i signal)) ≡ Err fault → m ≡ Err fault
columns_stop name names signals i signal columns fault m inside so_far bad =
    sym so_far ∙ (ap (onto columns) (columns_step name names signals i signal inside)
    ∙ (ap (λ r. onto columns (in_front r (columns_of names (map name (drop (i + 1) signals))))) bad ∙ onto_fault columns fault))

-- at the end all are found
pub columns_end : {X : Type 0} (name : X → List ℕ) (names : List (List ℕ)) (signals : List X) (i : ℕ) (columns : List ℕ) (m : Result (List ℕ) HeaderFault) → length signals ≤ i
    → onto columns (columns_of names (map name (drop i signals))) ≡ m → m ≡ Ok columns
columns_end name names signals i columns m past so_far =
    sym so_far ∙ (ap (λ rest. onto columns (columns_of names (map name rest))) (drop_all i signals past) ∙ onto_end columns)

range_push_from : (a n : ℕ) → range_with_len a n ++ (a + n) ∷ [] ≡ range_with_len a (suc n)
range_push_from a zero = let same : a + 0 ≡ a = omega arith in ap (λ k. k ∷ []) same
range_push_from a (suc n) = let same : a + suc n ≡ (a + 1) + n = omega arith in
    ap (λ k. a ∷ (range_with_len (a + 1) n ++ k ∷ [])) same ∙ ap (λ ks. a ∷ ks) (range_push_from (a + 1) n)

-- one number more
pub range_push : (a n : ℕ) → range_with_len a n ++ (a + n) ∷ [] ≡ range_with_len a (n + 1)
range_push a n = let same : n + 1 ≡ suc n = omega arith in range_push_from a n ∙ ap (range_with_len a) (sym same)

-- what columns that are found say of their signals
pub record AreFound (names signals : List (List ℕ)) (columns : List ℕ) : Type 0 where
  pub size : length columns ≡ length signals
  pub once : (k : ℕ) (d : ℕ) → k < length signals → (1 ≤ times names (get_or signals k [])) × (get_or columns k d ≡ first_place names (get_or signals k []))

column_once : (names : List (List ℕ)) (signal : List ℕ) (column : ℕ) (none one : Bool) → (times names signal == 1) ≡ one
    → cond none (Err (Missing signal)) (cond one (Ok (first_place names signal)) (Err (Twice signal))) ≡ Ok column → (1 ≤ times names signal) × (column ≡ first_place names signal)
column_once names signal column true one is h = absurd (cc)
column_once names signal column false true is h = let single = eqb-true (times names signal) 1 is in (omega arith, (cc))
column_once names signal column false false is h = absurd (cc)

found_step : (names : List (List ℕ)) (signal : List ℕ) (signals : List (List ℕ)) (columns : List ℕ) (here : Result ℕ HeaderFault) (others : Result (List ℕ) HeaderFault)
    → column_of names signal ≡ here → ((cs : List ℕ) → others ≡ Ok cs → AreFound names signals cs) → in_front here others ≡ Ok columns → AreFound names (signal ∷ signals) columns
found_step names signal signals columns (Ok column) (Ok cs) is rest e =
    let known : AreFound names signals cs = rest cs refl in
    let same : column ∷ cs ≡ columns = cc in
    let one = column_once names signal column (times names signal == 0) (times names signal == 1) refl is in
    subst (AreFound names (signal ∷ signals)) same (record { size = ap suc known.size; once = once one known })
  where
    once : (1 ≤ times names signal) × (column ≡ first_place names signal) → AreFound names signals cs → (k d : ℕ) → k < length (signal ∷ signals)
        → (1 ≤ times names (get_or (signal ∷ signals) k [])) × (get_or (column ∷ cs) k d ≡ first_place names (get_or (signal ∷ signals) k []))
    once one known zero d inside = one
    once one known (suc k) d inside = known.once k d (omega arith)
found_step names signal signals columns (Ok column) (Err fault) is rest e = absurd (cc)
found_step names signal signals columns (Err fault) others is rest e = absurd (cc)

pub are_found : (names signals : List (List ℕ)) (columns : List ℕ) → columns_of names signals ≡ Ok columns → AreFound names signals columns
are_found names [] columns e = let same : [] ≡ columns = cc in subst (AreFound names []) same (record { size = refl; once = λ k d inside. absurd (omega arith) })
are_found names (signal ∷ signals) columns e =
    found_step names signal signals columns (column_of names signal) (columns_of names signals) refl (are_found names signals) e

-- a name that stands somewhere stands within the columns, and in its first place
place_step : (m : List ℕ) (names : List (List ℕ)) (x : List ℕ) → (1 ≤ times names x → first_place names x < length names) → (b : Bool)
    → 1 ≤ cond b 1 0 + times names x → cond (not b) (1 + first_place names x) 0 < suc (length names)
place_step m names x rest true some = omega arith
place_step m names x rest false some = let r = rest (omega arith) in omega arith

pub place_below : (names : List (List ℕ)) (x : List ℕ) → 1 ≤ times names x → first_place names x < length names
place_below [] x some = absurd (omega arith)
place_below (m ∷ names) x some = place_step m names x (place_below names x) (bytes_eq x m) (omega (arith, times_cons m names x))

place_names : (names : List (List ℕ)) (x : List ℕ) → 1 ≤ times names x → x ≡ get_or names (first_place names x) []
place_names names x some = (bytes_eq-Decides x (get_or names (first_place names x) [])).0 (passes_at_first (bytes_eq x) names [] (place_below names x some))

-- columns that are found lie below the width, one for each signal, and differ where names do
pub found_below : (names signals : List (List ℕ)) (columns : List ℕ) → AreFound names signals columns → All (λ c. c < length names) columns
found_below names signals columns h = λ k d inside.
    let one = h.once k d (omega (arith, h.size)) in
    rw (one.1) (place_below names (get_or signals k []) one.0)

pub found_different : (names signals : List (List ℕ)) (columns : List ℕ) → AreFound names signals columns → AreDifferentNames signals → AreDifferent columns
found_different names signals columns h apart = λ i j less inside same.
    let at_i = h.once i 0 (omega (arith, h.size)) in
    let at_j = h.once j 0 (omega (arith, h.size)) in
    let place : first_place names (get_or signals i []) ≡ first_place names (get_or signals j []) = sym at_i.1 ∙ (same ∙ at_j.1) in
    apart i j less (omega (arith, h.size)) (place_names names (get_or signals i []) at_i.0 ∙ (ap (λ k. get_or names k []) place ∙ sym (place_names names (get_or signals j []) at_j.0)))

-- the columns of a header that is good
pub of_width_ok : (width : ℕ) (found : Result (List ℕ) HeaderFault) (columns : Columns) → of_width width found ≡ Ok columns → (found ≡ Ok columns.of_signal) × (columns.width ≡ width)
of_width_ok width (Ok cs) columns e =
    let same : record { width = width; of_signal = cs } ≡ columns = inside width cs columns e in
    (ap (λ (c : Columns). Ok c.of_signal) same, ap (λ (c : Columns). c.width) (sym same))
  where
    inside : (width : ℕ) (cs : List ℕ) (columns : Columns) → of_width width (Ok cs) ≡ Ok columns → record { width = width; of_signal = cs } ≡ columns
    inside width cs columns h = cc
of_width_ok width (Err fault) columns e = absurd (cc)

pub width_found : (names signals : List (List ℕ)) (n : ℕ) (columns : Columns) → of_width n (columns_of names signals) ≡ Ok columns → AreFound names signals columns.of_signal
width_found names signals n columns e = are_found names signals columns.of_signal (of_width_ok n (columns_of names signals) columns e).0

pub width_below : (names signals : List (List ℕ)) (n : ℕ) (columns : Columns) → n ≡ length names → of_width n (columns_of names signals) ≡ Ok columns → All (λ c. c < columns.width) columns.of_signal
width_below names signals n columns wide e = λ k d inside.
    let below = found_below names signals columns.of_signal (width_found names signals n columns e) k d inside in
    let width = (of_width_ok n (columns_of names signals) columns e).1 in
    omega (arith, below, width, wide)

pub width_different : (names signals : List (List ℕ)) (n : ℕ) (columns : Columns) → of_width n (columns_of names signals) ≡ Ok columns → AreDifferentNames signals → AreDifferent columns.of_signal
width_different names signals n columns e apart = found_different names signals columns.of_signal (width_found names signals n columns e) apart
