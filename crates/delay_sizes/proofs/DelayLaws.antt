-- The numbers of instructions, each found from those before.
use Rattle.std.proofs.Common.{◌≡◌, ℕ, ◌+◌, ◌<◌, List, [], ◌∷◌, ◌++◌, length, slice_index, slice_index_or, drop, ◌≤◌, ap, refl, subst, All, arith, length-append, length-drop, inl, inr, sym, ◌∙◌, add-zero, zero, suc, zero-add}
use Rattle.std.proofs.lemmas.List.{get_or_append_left, get_or_past, get_or_push, length_push, drop_more, drop_all}
use Rattle.std.proofs.lemmas.Bool.{cases_lt}
use Rattle.std.proofs.lemmas.List.Elements.{All-head, All-tail}
use Rattle.mltl_base.specs.Queues.{numbered_after, best_of, worst_of, best_delays, worst_delays, HasBounds, AreInOrder, IsAfterOperands, IsFirstLate}
use Rattle.mltl_base.specs.declared.operators.FtOp.{FtOp}
use Rattle.mltl_base.specs.declared.operators.FtOp.TheVariants.{True, Load, Not, And, Until}

pub length-numbered_after : (f : List ℕ → FtOp → ℕ) (ns : List ℕ) (ops : List FtOp) → length (numbered_after f ns ops) ≡ length ns + length ops
unfolding numbered_after
length-numbered_after f ns [] = sym (add-zero (length ns))
length-numbered_after f ns (op ∷ ops) =
    let rest : length (numbered_after f (ns ++ f ns op ∷ []) ops) ≡ length (ns ++ f ns op ∷ []) + length ops = length-numbered_after f (ns ++ f ns op ∷ []) ops in
    omega (arith, rest, length-append ns (f ns op ∷ []))

-- the numbers before stay
pub numbered_before : (f : List ℕ → FtOp → ℕ) (ns : List ℕ) (ops : List FtOp) (k : ℕ) → k < length ns → slice_index (numbered_after f ns ops) k ≡ slice_index ns k
unfolding numbered_after
numbered_before f ns [] k h = refl
numbered_before f ns (op ∷ ops) k h =
    let longer : k < length (ns ++ f ns op ∷ []) = omega (arith, length-append ns (f ns op ∷ [])) in
    numbered_before f (ns ++ f ns op ∷ []) ops k longer ∙ get_or_append_left ns (f ns op ∷ []) 0 k h

-- the next number
pub numbered_next : (f : List ℕ → FtOp → ℕ) (ns : List ℕ) (op : FtOp) (ops : List FtOp) (i : ℕ) → length ns ≡ i → slice_index (numbered_after f ns (op ∷ ops)) i ≡ f ns op
unfolding numbered_after
numbered_next f ns op ops i e =
    let longer : i < length (ns ++ f ns op ∷ []) = omega (arith, length-append ns (f ns op ∷ [])) in
    numbered_before f (ns ++ f ns op ∷ []) ops i longer ∙ get_or_push ns (f ns op) 0 i e

-- none is left
pub numbered_all : (f : List ℕ → FtOp → ℕ) (ns : List ℕ) (ops : List FtOp) (i : ℕ) → length ops ≤ i → numbered_after f ns (drop i ops) ≡ ns
unfolding numbered_after
numbered_all f ns ops i past = ap (numbered_after f ns) (drop_all i ops past)

-- one instruction further
pub numbered_more : (f : List ℕ → FtOp → ℕ) (ns : List ℕ) (ops : List FtOp) (i n : ℕ) (d : FtOp) → i < length ops → n ≡ f ns (slice_index_or ops i d)
    → numbered_after f ns (drop i ops) ≡ numbered_after f (ns ++ n ∷ []) (drop (i + 1) ops)
unfolding numbered_after
numbered_more f ns ops i n d here is = ap (numbered_after f ns) (drop_more ops i d here) ∙ ap (λ m. numbered_after f (ns ++ m ∷ []) (drop (i + 1) ops)) (sym is)

-- the number of the next instruction
pub numbered_here : (f : List ℕ → FtOp → ℕ) (ns : List ℕ) (ops : List FtOp) (i n : ℕ) (d : FtOp) → i < length ops → n ≡ f ns (slice_index_or ops i d) → length ns ≡ i
    → slice_index (numbered_after f ns (drop i ops)) i ≡ n
numbered_here f ns ops i n d here is long = ap (λ xs. slice_index xs i) (ap (numbered_after f ns) (drop_more ops i d here)) ∙ numbered_next f ns (slice_index_or ops i d) (drop (i + 1) ops) i long ∙ sym is

-- the best delay of an instruction is at most the worst one, where that holds of all instructions before
pub best_below_worst : (bests worsts : List ℕ) (op : FtOp) → HasBounds 1048576 op → ((k : ℕ) → slice_index bests k ≤ slice_index worsts k) → best_of bests op ≤ worst_of worsts op
best_below_worst bests worsts (Not g) bounds below = below g
best_below_worst bests worsts (And l r) bounds below = omega (arith, below l, below r)
best_below_worst bests worsts (Until l r i) bounds below = omega (arith, below l, below r, bounds.0)
best_below_worst bests worsts _ bounds below = omega arith

-- one more delay keeps the best at most the worst
pub below_push : (bests worsts : List ℕ) (best worst : ℕ) → length bests ≡ length worsts → ((k : ℕ) → slice_index bests k ≤ slice_index worsts k) → best ≤ worst
    → (k : ℕ) → slice_index (bests ++ best ∷ []) k ≤ slice_index (worsts ++ worst ∷ []) k
below_push bests worsts best worst long below last k =
    elim (cases_lt k (length bests)) [
      | inl inside ↦ let b : slice_index (bests ++ best ∷ []) k ≡ slice_index bests k = get_or_append_left bests (best ∷ []) 0 k inside in
          let w : slice_index (worsts ++ worst ∷ []) k ≡ slice_index worsts k = get_or_append_left worsts (worst ∷ []) 0 k (omega arith) in
          omega (arith, b, w, below k)
      | inr past ↦ elim (cases_lt (length bests) k) [
        | inl beyond ↦ let b : slice_index (bests ++ best ∷ []) k ≡ 0 = get_or_past (bests ++ best ∷ []) k 0 (omega (arith, length_push bests best)) in omega (arith, b)
        | inr at ↦ let b : slice_index (bests ++ best ∷ []) k ≡ best = get_or_push bests best 0 k (omega arith) in
            let w : slice_index (worsts ++ worst ∷ []) k ≡ worst = get_or_push worsts worst 0 k (omega arith) in
            omega (arith, b, w)
      ]
    ]

-- a delay above the limit, where none was before, is the first
pub first_late : (worsts : List ℕ) (ops : List FtOp) (i latest : ℕ) → i < length ops → latest ≡ worst_of worsts (slice_index_or ops i True) → length worsts ≡ i
    → numbered_after worst_of worsts (drop i ops) ≡ worst_delays ops → All (λ d. d ≤ 16777216) worsts → 16777216 < latest → IsFirstLate 16777216 (worst_delays ops) i
first_late worsts ops i latest here late long rest in_time above =
    let at : slice_index (numbered_after worst_of worsts (drop i ops)) i ≡ latest = numbered_here worst_of worsts ops i latest True here late long in
    let P : List ℕ → Type 0 = λ ds. IsFirstLate 16777216 ds i in
    subst P rest (record {
      exists = omega (arith, length-numbered_after worst_of worsts (drop i ops), length-drop i ops);
      late = omega (arith, at);
      earlier = λ k below. let before : slice_index (numbered_after worst_of worsts (drop i ops)) k ≡ slice_index worsts k = numbered_before worst_of worsts (drop i ops) k (omega arith) in
          omega (arith, before, in_time k 0 (omega arith));
    })

-- the best delays of further instructions are at most the worst ones
pub below_after : (bests worsts : List ℕ) (ops : List FtOp) → length bests ≡ length worsts → ((k : ℕ) → slice_index bests k ≤ slice_index worsts k) → All (HasBounds 1048576) ops
    → (k : ℕ) → slice_index (numbered_after best_of bests ops) k ≤ slice_index (numbered_after worst_of worsts ops) k
unfolding numbered_after
below_after bests worsts [] long below bounded k = below k
below_after bests worsts (op ∷ ops) long below bounded k =
    below_after (bests ++ best_of bests op ∷ []) (worsts ++ worst_of worsts op ∷ []) ops (omega (arith, length_push bests (best_of bests op), length_push worsts (worst_of worsts op)))
    (below_push bests worsts (best_of bests op) (worst_of worsts op) long below (best_below_worst bests worsts op (All-head (HasBounds 1048576) op ops bounded) below))
    (All-tail (HasBounds 1048576) op ops bounded) k

-- the best delay of an instruction is at most its worst one
pub best_below : (ops : List FtOp) → All (HasBounds 1048576) ops → (k : ℕ) → slice_index (best_delays ops) k ≤ slice_index (worst_delays ops) k
best_below ops bounded k = below_after [] [] ops refl (λ j. omega arith) bounded k

-- operands that stand before an instruction stand before a later one
pub after_later : (i n : ℕ) (op : FtOp) → i ≤ n → IsAfterOperands i op → IsAfterOperands n op
after_later i n (Not g) later after = omega arith
after_later i n (And l r) later after = (omega (arith, after.0), omega (arith, after.1))
after_later i n (Until l r w) later after = (omega (arith, after.0), omega (arith, after.1))
after_later i n _ later after = tt

-- delays of operands that stand before are not changed by further ones
best_along : (bests bests' : List ℕ) (op : FtOp) (i : ℕ) → IsAfterOperands i op → ((k : ℕ) → k < i → slice_index bests' k ≡ slice_index bests k) → best_of bests' op ≡ best_of bests op
best_along bests bests' (Not g) i after same = same g after
best_along bests bests' (And l r) i after same = omega (arith, same l after.0, same r after.1)
best_along bests bests' (Until l r w) i after same = omega (arith, same l after.0, same r after.1)
best_along bests bests' _ i after same = refl

worst_along : (worsts worsts' : List ℕ) (op : FtOp) (i : ℕ) → IsAfterOperands i op → ((k : ℕ) → k < i → slice_index worsts' k ≡ slice_index worsts k) → worst_of worsts' op ≡ worst_of worsts op
worst_along worsts worsts' (Not g) i after same = same g after
worst_along worsts worsts' (And l r) i after same = omega (arith, same l after.0, same r after.1)
worst_along worsts worsts' (Until l r w) i after same = omega (arith, same l after.0, same r after.1)
worst_along worsts worsts' _ i after same = refl

-- the number of instruction i of further ones, where a function of earlier numbers alone gives it
number_at : (f : List ℕ → FtOp → ℕ) → ((ns ns' : List ℕ) (op : FtOp) (i : ℕ) → IsAfterOperands i op → ((k : ℕ) → k < i → slice_index ns' k ≡ slice_index ns k) → f ns' op ≡ f ns op)
    → (before : List ℕ) (ops : List FtOp) → ((i : ℕ) (op : FtOp) → i < length ops → IsAfterOperands (length before + i) (slice_index_or ops i op))
    → (i : ℕ) (op : FtOp) → i < length ops → slice_index (numbered_after f before ops) (length before + i) ≡ f (numbered_after f before ops) (slice_index_or ops i op)
unfolding numbered_after
number_at f along before [] order i op inside = absurd (omega arith)
number_at f along before (o ∷ ops) order zero op inside =
    let P : ℕ → Type 0 = λ m. IsAfterOperands m o in
    let after : IsAfterOperands (length before) o = subst P (add-zero (length before)) (order 0 op (omega arith)) in
    numbered_next f before o ops (length before + 0) (sym (add-zero (length before)))
    ∙ sym (along before (numbered_after f before (o ∷ ops)) o (length before) after (λ k h. numbered_before f before (o ∷ ops) k h))
number_at f along before (o ∷ ops) order (suc i) op inside =
    let more : List ℕ = before ++ f before o ∷ [] in
    let place : (j : ℕ) → length before + suc j ≡ length more + j = λ j. omega (arith, length_push before (f before o)) in
    let order' : (j : ℕ) (p : FtOp) → j < length ops → IsAfterOperands (length more + j) (slice_index_or ops j p) =
    λ j p h. let P : ℕ → Type 0 = λ m. IsAfterOperands m (slice_index_or ops j p) in subst P (place j) (order (suc j) p (omega arith)) in
    ap (slice_index (numbered_after f more ops)) (place i) ∙ number_at f along more ops order' i op (omega arith)

ordered : (ops : List FtOp) → AreInOrder ops → (i : ℕ) (op : FtOp) → i < length ops → IsAfterOperands (0 + i) (slice_index_or ops i op)
ordered ops order i op inside = let P : ℕ → Type 0 = λ m. IsAfterOperands m (slice_index_or ops i op) in subst P (sym (zero-add i)) (order i op inside)

-- the delays of instruction i, from those of all
pub best_at : (ops : List FtOp) → AreInOrder ops → (i : ℕ) (op : FtOp) → i < length ops → slice_index (best_delays ops) i ≡ best_of (best_delays ops) (slice_index_or ops i op)
best_at ops order i op inside = ap (slice_index (best_delays ops)) (sym (zero-add i)) ∙ number_at best_of best_along [] ops (ordered ops order) i op inside

pub worst_at : (ops : List FtOp) → AreInOrder ops → (i : ℕ) (op : FtOp) → i < length ops → slice_index (worst_delays ops) i ≡ worst_of (worst_delays ops) (slice_index_or ops i op)
worst_at ops order i op inside = ap (slice_index (worst_delays ops)) (sym (zero-add i)) ∙ number_at worst_of worst_along [] ops (ordered ops order) i op inside
