-- The widths of instructions.
use Rattle.std.proofs.Common.{◌≡◌, ℕ, ◌+◌, ◌<◌, ◌≤◌, List, [], ◌∷◌, ◌++◌, length, slice_index, slice_set, map, max, true, false, refl, arith, sym, ◌∙◌, ap, inl, inr, ◌-◌, Result, Ok, Err, IfOk, zero-add, take, get_or, slice_index_or, All, ◌==◌, if◌then◌else◌, zero, suc, eq-eqb}
use Rattle.std.proofs.lemmas.List.{get_or-set_same, get_or-set_other, length-set, map_more, map-append}
use Rattle.std.proofs.lemmas.Bool.Decides.{eqb_tells}
use Rattle.std.proofs.lemmas.List.Elements.{All-head, All-tail, All-map}
use Rattle.std.proofs.lemmas.Bool.{cases_lt}
use Rattle.std.proofs.lemmas.List.{get_or_past, get_or_default, get_or-map, length-map}
use Rattle.std.specs.List.{list_any}
use Rattle.std.proofs.Math.Bool.{or-true}
use Rattle.std.proofs.lemmas.List.FromFn.{fill_by_all}
use Rattle.std.specs.declared.alloc.AllocError.{AllocError}
use Rattle.mltl_base.specs.declared.operators.FtOp.{FtOp}
use Rattle.mltl_base.specs.declared.program.Out.{Out}
use Rattle.delay_sizes.proofs.DelayLaws.{length-numbered_after, best_below}
use Rattle.mltl_base.specs.Queues.{HasBounds, best_of, worst_of, best_delays, worst_delays, readers, greatest, delay_beside, widest_beside, widest, queue_length, queue_lengths}

pub greatest-append : (xs ys : List ℕ) → greatest (xs ++ ys) ≡ max (greatest xs) (greatest ys)
unfolding greatest
greatest-append [] ys = omega arith
greatest-append (x ∷ xs) ys = let rest : greatest (xs ++ ys) ≡ max (greatest xs) (greatest ys) = greatest-append xs ys in omega (arith, rest)

-- one reader more
pub beside_more : (worst : List ℕ) (X : Type 0) (reads : X → List ℕ) (xs : List X) (n g : ℕ) (d : X) → n < length xs
    → widest_beside worst (map reads (take (n + 1) xs)) g ≡ max (widest_beside worst (map reads (take n xs)) g) (delay_beside worst g (reads (get_or xs n d)))
unfolding greatest
beside_more worst X reads xs n g d here =
    let last : greatest (delay_beside worst g (reads (get_or xs n d)) ∷ []) ≡ delay_beside worst g (reads (get_or xs n d)) = omega arith in
    let split : map (delay_beside worst g) (map reads (take n xs) ++ reads (get_or xs n d) ∷ []) ≡ map (delay_beside worst g) (map reads (take n xs)) ++ delay_beside worst g (reads (get_or xs n d)) ∷ [] =
    map-append (delay_beside worst g) (map reads (take n xs)) (reads (get_or xs n d) ∷ []) in
    ap (λ rs. widest_beside worst rs g) (map_more reads xs n d here) ∙ ap greatest split ∙ greatest-append _ _ ∙ ap (λ m. max (widest_beside worst (map reads (take n xs)) g) m) last

-- a reader of two instructions widens both of them, and no other
pub pair_widens : (widths worst : List ℕ) (l r g latest a b : ℕ) → l < length widths → r < length widths
    → latest ≡ max (slice_index worst l) (slice_index worst r)
    → a ≡ max (slice_index widths l) latest
    → b ≡ max (slice_index (slice_set widths l a) r) latest
    → slice_index (slice_set (slice_set widths l a) r b) g ≡ max (slice_index widths g) (delay_beside worst g (l ∷ r ∷ []))
unfolding greatest
pair_widens widths worst l r g latest a b left right later first second =
    let once : List ℕ = slice_set widths l a in
    let right' : r < length once = omega (arith, length-set widths l a) in
    let here : slice_index (slice_set once r b) r ≡ b = get_or-set_same once r b 0 right' in
    let here' : slice_index once l ≡ a = get_or-set_same widths l a 0 left in
    elim (eqb_tells r g) [
      | inl rg ↦ let at : slice_index (slice_set once r b) r ≡ slice_index (slice_set once r b) g = ap (slice_index (slice_set once r b)) rg.1 in
          let was : slice_index widths r ≡ slice_index widths g = ap (slice_index widths) rg.1 in
          elim (eqb_tells l g) [
            | inl lg ↦ let same : slice_index once l ≡ slice_index once r = ap (slice_index once) (lg.1 ∙ sym rg.1) in
                let was' : slice_index widths l ≡ slice_index widths g = ap (slice_index widths) lg.1 in
                rw (lg.0) (omega (arith, at, was, same, was', here, here'))
            | inr lg ↦ let other : slice_index once r ≡ slice_index widths r = get_or-set_other widths l r a 0 (λ e. lg.1 (sym e ∙ rg.1)) in
                rw (rg.0, lg.0) (omega (arith, at, was, other, here))
          ]
      | inr rg ↦ let other : slice_index (slice_set once r b) g ≡ slice_index once g = get_or-set_other once r g b 0 (λ e. rg.1 (sym e)) in
          elim (eqb_tells l g) [
            | inl lg ↦ let at : slice_index once l ≡ slice_index once g = ap (slice_index once) lg.1 in
                let was : slice_index widths l ≡ slice_index widths g = ap (slice_index widths) lg.1 in
                rw (lg.0) (omega (arith, at, was, other, here'))
            | inr lg ↦ let other' : slice_index once g ≡ slice_index widths g = get_or-set_other widths l g a 0 (λ e. lg.1 (sym e)) in
                rw (rg.0, lg.0) (omega (arith, other, other'))
          ]
    ]

-- a reader of one instruction widens no more than one that reads it twice
pub read_twice : (worst : List ℕ) (l g : ℕ) → delay_beside worst g (l ∷ l ∷ []) ≡ delay_beside worst g (l ∷ [])
unfolding greatest
read_twice worst l g = elim (eqb_tells l g) [ inl lg ↦ rw lg.0 (omega arith) | inr lg ↦ rw lg.0 refl ]

-- no delay beside an instruction is above a limit that all delays keep
pub greatest_small : (limit : ℕ) (xs : List ℕ) → All (λ d. d ≤ limit) xs → greatest xs ≤ limit
unfolding greatest
greatest_small limit [] small = omega arith
greatest_small limit (x ∷ xs) small = omega (arith, All-head (λ d. d ≤ limit) x xs small, greatest_small limit xs (All-tail (λ d. d ≤ limit) x xs small))

pub index_small : (limit : ℕ) (xs : List ℕ) → All (λ d. d ≤ limit) xs → (k : ℕ) → slice_index xs k ≤ limit
index_small limit xs small k = elim (cases_lt k (length xs)) [ inl inside ↦ small k 0 inside | inr past ↦ omega (arith, get_or_past xs k 0 past) ]

pub beside_small : (limit : ℕ) (worst : List ℕ) → All (λ d. d ≤ limit) worst → (reads : List (List ℕ)) (g : ℕ) → widest_beside worst reads g ≤ limit
beside_small limit worst small reads g = greatest_small limit _ (All-map (λ d. d ≤ limit) (delay_beside worst g) reads (λ k d inside. one (slice_index_or reads k d)))
  where
    one : (read : List ℕ) → delay_beside worst g read ≤ limit
    one read = elim (list_any (λ h. h == g) read) as (λ b. (if b then greatest (map (slice_index worst) read) else 0) ≤ limit) [
      | true ↦ greatest_small limit _ (All-map (λ d. d ≤ limit) (slice_index worst) read (λ k d inside. index_small limit worst small (slice_index_or read k d)))
      | false ↦ omega arith
    ]

-- two lists of readers
pub beside-append : (worst : List ℕ) (rs ss : List (List ℕ)) (g : ℕ) → widest_beside worst (rs ++ ss) g ≡ max (widest_beside worst rs g) (widest_beside worst ss g)
beside-append worst rs ss g = ap greatest (map-append (delay_beside worst g) rs ss) ∙ greatest-append (map (delay_beside worst g) rs) (map (delay_beside worst g) ss)

-- no width is above a limit that all delays keep
pub widest_small : (limit : ℕ) (worst : List ℕ) → All (λ d. d ≤ limit) worst → (reads : List (List ℕ)) (g : ℕ) → widest worst reads g ≤ limit
widest_small limit worst small reads g = omega (arith, index_small limit worst small g, beside_small limit worst small reads g)

-- what is known of the widths of all instructions
pub record AreWidths (ft : List FtOp) (outs : List Out) (widths : List ℕ) : Type 0 where
  pub long : length widths ≡ length ft
  pub same : (g : ℕ) → g < length ft → slice_index widths g ≡ widest (worst_delays ft) (readers ft outs) g
  pub covers : (g : ℕ) → g < length ft → slice_index (best_delays ft) g ≤ slice_index widths g
  pub small : All (λ width. width ≤ 16777216) widths

pub widths_known : (ft : List FtOp) (outs : List Out) (worst widths : List ℕ) → worst ≡ worst_delays ft → All (HasBounds 1048576) ft → All (λ d. d ≤ 16777216) worst
    → length widths ≡ length worst → ((g : ℕ) → g < length worst → slice_index widths g ≡ widest worst (readers ft outs) g) → AreWidths ft outs widths
widths_known ft outs worst widths is bounded small long all =
    let long' : length worst ≡ length ft = ap length is ∙ length-numbered_after worst_of [] ft ∙ zero-add (length ft) in
    record {
      long = long ∙ long';
      same = λ g inside. all g (omega arith) ∙ ap (λ ws. widest ws (readers ft outs) g) is;
      covers = λ g inside. omega (arith, all g (omega arith), ap (λ ws. slice_index ws g) is, best_below ft bounded g);
      small = λ k d inside. let here : slice_index_or widths k d ≡ slice_index widths k = get_or_default widths k d 0 inside in
          omega (arith, here, all k (omega arith), widest_small 16777216 worst small (readers ft outs) k);
    }

-- so many slots as reach from the best delay to the width are the queue's length
pub lengths_are : (ft : List FtOp) (outs : List Out) (widths best : List ℕ) (result : Result (List ℕ) AllocError) → AreWidths ft outs widths → best ≡ best_delays ft
    → IfOk result (λ sizes. length sizes ≡ length best) → IfOk result (λ sizes. (g : ℕ) → g < length best → slice_index sizes g ≡ slice_index widths g - slice_index best g + 1)
    → IfOk result (λ sizes. sizes ≡ queue_lengths ft outs)
lengths_are ft outs widths best (Ok sizes) known is long each =
    let n : length best ≡ length ft = ap length is ∙ length-numbered_after best_of [] ft ∙ zero-add (length ft) in
    fill_by_all (queue_length ft outs) sizes (length ft) 0 (long ∙ n)
    (λ g inside. omega (arith, each g (omega arith), known.same g inside, ap (λ bs. slice_index bs g) is))
lengths_are ft outs widths best (Err e) known is long each = tt

-- a member of a list is at most the greatest
pub below_greatest : (xs : List ℕ) (k : ℕ) → k < length xs → slice_index xs k ≤ greatest xs
unfolding greatest
below_greatest [] k inside = absurd (omega arith)
below_greatest (x ∷ xs) zero inside = omega arith
below_greatest (x ∷ xs) (suc k) inside = omega (arith, below_greatest xs k (omega arith))

any_at : (g : ℕ) (xs : List ℕ) (k : ℕ) → k < length xs → slice_index xs k ≡ g → list_any (λ h. h == g) xs ≡ true
any_at g [] k inside is = absurd (omega arith)
any_at g (x ∷ xs) zero inside is = rw (eq-eqb x g is) refl
any_at g (x ∷ xs) (suc k) inside is = rw (any_at g xs k (omega arith) is) (or-true (x == g))

-- the width of an instruction is at least the delay of each operand of each reader of it
pub widest_covers : (worst : List ℕ) (reads : List (List ℕ)) (n j k : ℕ) → n < length reads → j < length (slice_index_or reads n []) → k < length (slice_index_or reads n [])
    → slice_index worst (slice_index (slice_index_or reads n []) k) ≤ widest worst reads (slice_index (slice_index_or reads n []) j)
widest_covers worst reads n j k reader left right =
    let read : List ℕ = slice_index_or reads n [] in
    let g : ℕ = slice_index read j in
    let inside : slice_index (map (delay_beside worst g) reads) n ≡ delay_beside worst g read = get_or-map (delay_beside worst g) reads n [] 0 reader in
    let below : slice_index (map (delay_beside worst g) reads) n ≤ widest_beside worst reads g = below_greatest (map (delay_beside worst g) reads) n (omega (arith, length-map reads (delay_beside worst g))) in
    let among : slice_index (map (slice_index worst) read) k ≡ slice_index worst (slice_index read k) = get_or-map (slice_index worst) read k 0 0 right in
    let most : slice_index (map (slice_index worst) read) k ≤ greatest (map (slice_index worst) read) = below_greatest (map (slice_index worst) read) k (omega (arith, length-map read (slice_index worst))) in
    let beside : delay_beside worst g read ≡ greatest (map (slice_index worst) read) = rw (any_at g read j left refl) refl in
    omega (arith, inside, below, among, most, beside)
