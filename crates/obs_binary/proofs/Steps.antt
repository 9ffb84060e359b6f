-- Reading entries and names one after the other, as loops do.
use Rattle.std.proofs.Common.{◌≡◌, ℕ, suc, ◌+◌, ◌*◌, ◌-◌, ◌≤◌, ◌<◌, true, false, eqb, List, [], ◌∷◌, ◌++◌, length, get_or, take, drop, Result, Ok, Err, refl, sym, ap, subst, ◌∙◌, append_assoc, add-one, arith}
use Rattle.std.proofs.Math.Nat.{mul-le-mul_left}
use Rattle.std.proofs.Math.Seq.{drop-cons}
use Rattle.std.proofs.lemmas.List.{append-nil, drop_all}
use Rattle.obs_binary.specs.declared.fault.ReadFault.{ReadFault}
use Rattle.obs_binary.specs.declared.fault.ReadFault.TheVariants.{Short, Magic, Version, Reserved, Opcode, Trailing, NameBytes, SignalBytes, Memory}
use Rattle.obs_binary.specs.Reading.{◌>>=◌, FailsWith, each_at, named, is_name_in_front}

-- a call that answers the fault of reading
pub Fails-same : {Y : Type 0} (fault : ReadFault) (read : Result Y ReadFault) → read ≡ Err fault → FailsWith fault read
Fails-same Memory read e = tt
Fails-same _ read e = e

-- a step whose fault is the fault of the whole
pub Fails-onto : {Y Z : Type 0} (fault : ReadFault) (step : Result Y ReadFault) (whole : Result Z ReadFault) → FailsWith fault step → (step ≡ Err fault → whole ≡ Err fault) → FailsWith fault whole
Fails-onto Memory step whole f onto = tt
Fails-onto _ step whole f onto = onto f

-- ---- entries

-- the entries read before, and those that are still read
abbrev pub with_front : {X : Type 0} → List X → Result (List X × List ℕ) ReadFault → Result (List X × List ℕ) ReadFault
with_front front read = read >>= λ x. Ok (front ++ x.0, x.1)

regroup : {X : Type 0} (front : List X) (x : X) (read : Result (List X × List ℕ) ReadFault) → with_front front (read >>= λ others. Ok (x ∷ others.0, others.1)) ≡ with_front (front ++ x ∷ []) read
regroup front x (Ok y) = ap (λ xs. Ok (xs, y.1)) (simp append_assoc)
regroup front x (Err f) = refl

module _ {X : Type 0} (read : List ℕ → Result (X × List ℕ) ReadFault) (count : ℕ) (total : Result (List X × List ℕ) ReadFault) where
  pub each_at-more : (front : List X) (i : ℕ) (bytes : List ℕ) (x : X) (after : List ℕ) → i < count → read bytes ≡ Ok (x, after)
      → with_front front (each_at read (count - i) bytes) ≡ total → with_front (front ++ x ∷ []) (each_at read (count - (i + 1)) after) ≡ total
  unfolding each_at
  each_at-more front i bytes x after lt h so_far =
      let k : count - i ≡ suc (count - (i + 1)) = omega arith in
      let one : with_front front (each_at read (count - i) bytes) ≡ with_front (front ++ x ∷ []) (each_at read (count - (i + 1)) after) = rw (k, h) (regroup front x (each_at read (count - (i + 1)) after)) in
      sym one ∙ so_far

  pub each_at-fails : (front : List X) (i : ℕ) (bytes : List ℕ) (fault : ReadFault) → i < count → FailsWith fault (read bytes)
      → with_front front (each_at read (count - i) bytes) ≡ total → FailsWith fault total
  unfolding each_at
  each_at-fails front i bytes fault lt f so_far =
      let k : count - i ≡ suc (count - (i + 1)) = omega arith in
      Fails-onto fault (read bytes) total f (λ h. let one : with_front front (each_at read (count - i) bytes) ≡ Err fault = rw (k, h) refl in sym so_far ∙ one)

  pub each_at-done : (front : List X) (i : ℕ) (bytes : List ℕ) → count ≤ i
      → with_front front (each_at read (count - i) bytes) ≡ total → total ≡ Ok (front, bytes)
  unfolding each_at
  each_at-done front i bytes le so_far =
      let k : count - i ≡ 0 = omega arith in
      let one : with_front front (each_at read (count - i) bytes) ≡ Ok (front, bytes) = rw k (ap (λ xs. Ok (xs, bytes)) (append-nil front)) in
      sym so_far ∙ one

-- there is room for one more entry of `len` bytes
pub room : (len count i rest total : ℕ) → i < count → len * count ≤ total → rest + len * i ≡ total → len ≤ rest
room len count i rest total lt enough left =
    let more : len * (i + 1) ≤ len * count = mul-le-mul_left len (omega arith) in
    omega arith

-- ---- names

-- what was named before, and what is still named
abbrev pub names_after : {X : Type 0} → List X → Result (List X) ReadFault → Result (List X) ReadFault
names_after front read = read >>= λ xs. Ok (front ++ xs)

regroup_names : {X : Type 0} (front : List X) (x : X) (read : Result (List X) ReadFault) → names_after front (read >>= λ others. Ok (x ∷ others)) ≡ names_after (front ++ x ∷ []) read
regroup_names front x (Ok y) = ap (λ xs. Ok xs) (simp append_assoc)
regroup_names front x (Err f) = refl

module _ {H X : Type 0} (len_of : H → ℕ) (with_name : H → List ℕ → X) (fault : ℕ → ReadFault) (heads : List H) (total : Result (List X) ReadFault) where
  pub named-more : (front : List X) (k : ℕ) (bytes : List ℕ) (head : H) → k < length heads → head ≡ get_or heads k head → is_name_in_front (len_of head) bytes ≡ true
      → names_after front (named len_of with_name fault k (drop k heads) bytes) ≡ total
      → names_after (front ++ with_name head (take (len_of head) bytes) ∷ []) (named len_of with_name fault (k + 1) (drop (k + 1) heads) (drop (len_of head) bytes)) ≡ total
  unfolding named
  named-more front k bytes head lt is named_so so_far =
      let cons : drop k heads ≡ head ∷ drop (k + 1) heads = drop-cons heads k head lt ∙ rw (← is, add-one) refl in
      let one : names_after front (named len_of with_name fault k (drop k heads) bytes) ≡ names_after (front ++ with_name head (take (len_of head) bytes) ∷ []) (named len_of with_name fault (suc k) (drop (k + 1) heads) (drop (len_of head) bytes)) =
      rw (cons, named_so) (regroup_names front (with_name head (take (len_of head) bytes)) (named len_of with_name fault (suc k) (drop (k + 1) heads) (drop (len_of head) bytes))) in
      let next : k + 1 ≡ suc k = add-one k in
      subst (λ j. names_after (front ++ with_name head (take (len_of head) bytes) ∷ []) (named len_of with_name fault j (drop (k + 1) heads) (drop (len_of head) bytes)) ≡ total) (sym next) (sym one ∙ so_far)

  pub named-fails : (front : List X) (k : ℕ) (bytes : List ℕ) (head : H) → k < length heads → head ≡ get_or heads k head → is_name_in_front (len_of head) bytes ≡ false
      → names_after front (named len_of with_name fault k (drop k heads) bytes) ≡ total → FailsWith (fault k) total
  unfolding named
  named-fails front k bytes head lt is not_named so_far =
      let cons : drop k heads ≡ head ∷ drop (suc k) heads = drop-cons heads k head lt ∙ rw (← is) refl in
      let one : names_after front (named len_of with_name fault k (drop k heads) bytes) ≡ Err (fault k) = rw (cons, not_named) refl in
      Fails-same (fault k) total (sym so_far ∙ one)

  pub named-over : (front : List X) (k : ℕ) (bytes : List ℕ) → length heads ≡ k → eqb (length bytes) 0 ≡ false
      → names_after front (named len_of with_name fault k (drop k heads) bytes) ≡ total → FailsWith (fault k) total
  unfolding named
  named-over front k bytes end over so_far =
      let none : drop k heads ≡ [] = drop_all k heads (omega arith) in
      let one : names_after front (named len_of with_name fault k (drop k heads) bytes) ≡ Err (fault k) = rw (none, over) refl in
      Fails-same (fault k) total (sym so_far ∙ one)

  pub named-done : (front : List X) (k : ℕ) (bytes : List ℕ) → length heads ≡ k → eqb (length bytes) 0 ≡ true
      → names_after front (named len_of with_name fault k (drop k heads) bytes) ≡ total → total ≡ Ok front
  unfolding named
  named-done front k bytes end over so_far =
      let none : drop k heads ≡ [] = drop_all k heads (omega arith) in
      let one : names_after front (named len_of with_name fault k (drop k heads) bytes) ≡ Ok front = rw (none, over) (ap (λ xs. Ok xs) (append-nil front)) in
      sym so_far ∙ one
