-- The value of an expression lies in its range, where its signals have 32 bits.

use Rattle.std.proofs.Common.{◌≡◌, ℕ, zero, suc, ◌-◌, ◌*◌, ◌/◌, ◌%◌, ◌<◌, ◌≤◌, ℤ, pos, negsuc, neg_ℤ, ◌+ℤ◌, ◌-ℤ◌, ◌*ℤ◌, ◌≤ℤ◌, int_div, int_rem, int_le, int_eq, unsigned_abs, Bool, true, false, not, ◌&&◌, if◌then◌else◌, Ok, Err, FitsSigned, T, refl, sym, subst, ◌∙◌, le_trans, mul-le-mul_right, div-mul-le_self, mod-lt, mod-eq_of_lt, arith}
use Rattle.std.specs.Prelude.{IsOk}
use Rattle.std.specs.Int.Signed.{le_z_yes}
use Rattle.std.proofs.Math.IntN.{*ℤ_comm}
use Rattle.std.proofs.lemmas.Nat.{le-div}
use Rattle.std.proofs.lemmas.Bool.{and_parts, both_ways, not-true}
use Rattle.std.proofs.lemmas.Bool.Decides.{Decides-int_eq}
use Rattle.std.specs.Int.{int_min, int_max, w32, w64}
use Rattle.std.proofs.lemmas.Int.{ints, clamps}
use Rattle.mltl_base.specs.Atoms.{Row, Term, column, constant, negative, plus, minus, times, quotient, remainder, in_column, value}
use Rattle.mltl_base.specs.Ranges.{Range, divisor, wide, Ranged, range_from, IsIn, least_word, greatest_word, in_word, signal_range, negated, summed, lessened, multiplied, divided, left_over, divides, over, over_both, over_divisor, range, FitsTerm}

signal_in : (z : ℤ) → FitsSigned w32 z → IsIn signal_range z
signal_in z f = (omega (arith, ints), omega (arith, ints))

negated_in : (r : Range) (x : ℤ) → IsIn r x → IsIn (negated r) (neg_ℤ x)
negated_in r x h = let l = h.0 in let g = h.1 in (omega (arith, ints), omega (arith, ints))

summed_in : (r s : Range) (x y : ℤ) → IsIn r x → IsIn s y → IsIn (summed r s) (x +ℤ y)
summed_in r s x y h k = let l = h.0 in let g = h.1 in let m = k.0 in let n = k.1 in (omega (arith, ints), omega (arith, ints))

lessened_in : (r s : Range) (x y : ℤ) → IsIn r x → IsIn s y → IsIn (lessened r s) (x -ℤ y)
lessened_in r s x y h k = let l = h.0 in let g = h.1 in let m = k.0 in let n = k.1 in (omega (arith, ints), omega (arith, ints))

-- a product by a number keeps the order, or turns it
times_pos : (x h : ℤ) (y : ℕ) → x ≤ℤ h → (x *ℤ pos y) ≤ℤ (h *ℤ pos y)
times_pos (pos a) (pos b) y p = let e : a ≤ b = omega (arith, ints) in let f : a * y ≤ b * y = mul-le-mul_right y e in omega (arith, ints)
times_pos (pos a) (negsuc b) y p = absurd (omega (arith, ints))
times_pos (negsuc a) (pos b) y p = omega (arith, ints)
times_pos (negsuc a) (negsuc b) y p =
    let e : suc b ≤ suc a = omega (arith, ints) in
    let f : suc b * y ≤ suc a * y = mul-le-mul_right y e in
    omega (arith, ints)

times_turned : (x : ℤ) (y : ℕ) → x *ℤ negsuc y ≡ neg_ℤ (x *ℤ pos (suc y))
times_turned (pos a) y = refl
times_turned (negsuc a) y = omega (arith, ints)

neg_turns : (x h : ℤ) → x ≤ℤ h → neg_ℤ h ≤ℤ neg_ℤ x
neg_turns x h p = omega (arith, ints)

times_neg : (x h : ℤ) (y : ℕ) → x ≤ℤ h → (h *ℤ negsuc y) ≤ℤ (x *ℤ negsuc y)
times_neg x h y p =
    let f : (x *ℤ pos (suc y)) ≤ℤ (h *ℤ pos (suc y)) = times_pos x h (suc y) p in
    rw (times_turned x y, times_turned h y) (neg_turns (x *ℤ pos (suc y)) (h *ℤ pos (suc y)) f)

ends_in : (l h z : ℤ) → l ≤ℤ z → z ≤ℤ h → (int_min l h ≤ℤ z) × (z ≤ℤ int_max l h)
ends_in l h z p q = (omega (arith, ints, clamps), omega (arith, ints, clamps))

ends_turned : (l h z : ℤ) → h ≤ℤ z → z ≤ℤ l → (int_min l h ≤ℤ z) × (z ≤ℤ int_max l h)
ends_turned l h z p q = (omega (arith, ints, clamps), omega (arith, ints, clamps))

left_in : (l h x y : ℤ) → l ≤ℤ x → x ≤ℤ h → (int_min (l *ℤ y) (h *ℤ y) ≤ℤ (x *ℤ y)) × ((x *ℤ y) ≤ℤ int_max (l *ℤ y) (h *ℤ y))
left_in l h x (pos n) p q = ends_in (l *ℤ pos n) (h *ℤ pos n) (x *ℤ pos n) (times_pos l x n p) (times_pos x h n q)
left_in l h x (negsuc n) p q = ends_turned (l *ℤ negsuc n) (h *ℤ negsuc n) (x *ℤ negsuc n) (times_neg x h n q) (times_neg l x n p)

right_in : (l h x y : ℤ) → l ≤ℤ x → x ≤ℤ h → (int_min (y *ℤ l) (y *ℤ h) ≤ℤ (y *ℤ x)) × ((y *ℤ x) ≤ℤ int_max (y *ℤ l) (y *ℤ h))
right_in l h x y p q = rw (*ℤ_comm y l, *ℤ_comm y h, *ℤ_comm y x) (left_in l h x y p q)

least_of : (a c u v z : ℤ) → a ≤ℤ u → c ≤ℤ v → int_min u v ≤ℤ z → int_min a c ≤ℤ z
least_of a c u v z p q r = omega (arith, ints, clamps)

greatest_of : (a c u v z : ℤ) → u ≤ℤ a → v ≤ℤ c → z ≤ℤ int_max u v → z ≤ℤ int_max a c
greatest_of a c u v z p q r = omega (arith, ints, clamps)

-- within the two values of each end, so within the four
four_in : (a b c d u v z : ℤ) → int_min a b ≤ℤ u → u ≤ℤ int_max a b → int_min c d ≤ℤ v → v ≤ℤ int_max c d → int_min u v ≤ℤ z → z ≤ℤ int_max u v →
    (int_min (int_min a b) (int_min c d) ≤ℤ z) × (z ≤ℤ int_max (int_max a b) (int_max c d))
four_in a b c d u v z p q r s t w = (least_of (int_min a b) (int_min c d) u v z p r t, greatest_of (int_max a b) (int_max c d) u v z q s w)

pub multiplied_in : (r s : Range) (x y : ℤ) → IsIn r x → IsIn s y → IsIn (multiplied r s) (x *ℤ y)
multiplied_in r s x y h k =
    let f = left_in r.least r.greatest x y h.0 h.1 in
    let g = right_in s.least s.greatest y r.least k.0 k.1 in
    let m = right_in s.least s.greatest y r.greatest k.0 k.1 in
    four_in (r.least *ℤ s.least) (r.least *ℤ s.greatest) (r.greatest *ℤ s.least) (r.greatest *ℤ s.greatest) (r.least *ℤ y) (r.greatest *ℤ y) (x *ℤ y) g.0 g.1 m.0 m.1 f.0 f.1

-- so does a quotient
div_grows : (a b c : ℕ) → a ≤ b → a / suc c ≤ b / suc c
div_grows a b c l = le-div (a / suc c) b (suc c) (omega arith) (le_trans (div-mul-le_self a (suc c)) l)

over_pos : (x h : ℤ) (c : ℕ) → x ≤ℤ h → int_div x (pos (suc c)) ≤ℤ int_div h (pos (suc c))
over_pos (pos a) (pos b) c p = let e : a ≤ b = omega (arith, ints) in let f = div_grows a b c e in omega (arith, ints)
over_pos (pos a) (negsuc b) c p = absurd (omega (arith, ints))
over_pos (negsuc a) (pos b) c p = omega (arith, ints)
over_pos (negsuc a) (negsuc b) c p = let e : suc b ≤ suc a = omega (arith, ints) in let f = div_grows (suc b) (suc a) c e in omega (arith, ints)

over_turned : (x : ℤ) (c : ℕ) → int_div x (negsuc c) ≡ neg_ℤ (int_div x (pos (suc c)))
over_turned (pos a) c = refl
over_turned (negsuc a) c = omega (arith, ints)

over_neg : (x h : ℤ) (c : ℕ) → x ≤ℤ h → int_div h (negsuc c) ≤ℤ int_div x (negsuc c)
over_neg x h c p = rw (over_turned x c, over_turned h c) (neg_turns (int_div x (pos (suc c))) (int_div h (pos (suc c))) (over_pos x h c p))

pub divided_in : (r : Range) (x c : ℤ) → IsIn r x → (c ≡ pos 0 → ⊥) → IsIn (divided r c) (int_div x c)
divided_in r x (pos zero) h n = absurd (n refl)
divided_in r x (pos (suc c)) h n = ends_in (int_div r.least (pos (suc c))) (int_div r.greatest (pos (suc c))) (int_div x (pos (suc c))) (over_pos r.least x c h.0) (over_pos x r.greatest c h.1)
divided_in r x (negsuc c) h n = ends_turned (int_div r.least (negsuc c)) (int_div r.greatest (negsuc c)) (int_div x (negsuc c)) (over_neg x r.greatest c h.1) (over_neg r.least x c h.0)

-- a remainder has the sign of the left operand and less than the divisor's magnitude
abs_some : (c : ℤ) → (c ≡ pos 0 → ⊥) → 0 < unsigned_abs c
abs_some (pos zero) n = absurd (n refl)
abs_some (pos (suc c)) n = omega arith
abs_some (negsuc c) n = omega arith

pub le_true : (a b : ℤ) → int_le a b ≡ true → a ≤ℤ b
le_true a b e = le_z_yes (subst T (sym e) tt)

left_pos : (x : ℤ) (c : ℤ) → 0 < unsigned_abs c → pos 0 ≤ℤ x → (pos 0 ≤ℤ int_rem x c) × (int_rem x c ≤ℤ pos (unsigned_abs c - 1))
left_pos (pos a) c n h = let m : a % unsigned_abs c < unsigned_abs c = mod-lt a n in (omega (arith, ints), omega (arith, ints))
left_pos (negsuc a) c n h = absurd (omega (arith, ints))

left_neg : (x : ℤ) (c : ℤ) → 0 < unsigned_abs c → x ≤ℤ pos 0 → (neg_ℤ (pos (unsigned_abs c - 1)) ≤ℤ int_rem x c) × (int_rem x c ≤ℤ pos 0)
left_neg (pos a) c n h =
    let z : a ≡ 0 = omega (arith, ints) in
    let m : a % unsigned_abs c ≡ a = mod-eq_of_lt (omega arith) in
    (omega (arith, ints), omega (arith, ints))
left_neg (negsuc a) c n h = let m : suc a % unsigned_abs c < unsigned_abs c = mod-lt (suc a) n in (omega (arith, ints), omega (arith, ints))

left_any : (x : ℤ) (c : ℤ) → 0 < unsigned_abs c → (neg_ℤ (pos (unsigned_abs c - 1)) ≤ℤ int_rem x c) × (int_rem x c ≤ℤ pos (unsigned_abs c - 1))
left_any (pos a) c n = let m : a % unsigned_abs c < unsigned_abs c = mod-lt a n in (omega (arith, ints), omega (arith, ints))
left_any (negsuc a) c n = let m : suc a % unsigned_abs c < unsigned_abs c = mod-lt (suc a) n in (omega (arith, ints), omega (arith, ints))

left_over_in : (r : Range) (x c : ℤ) → IsIn r x → (c ≡ pos 0 → ⊥) → IsIn (left_over r c) (int_rem x c)
left_over_in r x c h n = go (int_le (pos 0) r.least) refl (int_le r.greatest (pos 0)) refl
  where
    m : ℤ
    m = pos (unsigned_abs c - 1)

    go : (p : Bool) → int_le (pos 0) r.least ≡ p → (q : Bool) → int_le r.greatest (pos 0) ≡ q →
        IsIn (if p then range_from (pos 0) m else if q then range_from (neg_ℤ m) (pos 0) else range_from (neg_ℤ m) m) (int_rem x c)
    go true e q f = left_pos x c (abs_some c n) (let l = le_true (pos 0) r.least e in let k = h.0 in omega (arith, ints))
    go false e true f = left_neg x c (abs_some c n) (let l = le_true r.greatest (pos 0) f in let k = h.1 in omega (arith, ints))
    go false e false f = left_any x c (abs_some c n)

-- what an answer says of its operands'
word_ok : (r s : Range) → in_word r ≡ Ok s → r ≡ s
word_ok r s e = go (int_le least_word r.least && int_le r.greatest greatest_word) e
  where
    go : (b : Bool) → (if b then Ok r else Err wide) ≡ Ok s → r ≡ s
    go true e = cc
    go false e = cc

over_ok : (f : Range → Range) (x : Ranged) (r : Range) → over f x ≡ Ok r → (s : Range) × (x ≡ Ok s) × (f s ≡ r)
over_ok f (Ok s) r e = (s, refl, word_ok (f s) r e)
over_ok f (Err why) r e = absurd (cc)

both_ok : (f : Range → Range → Range) (x y : Ranged) (r : Range) → over_both f x y ≡ Ok r → (s : Range) × (t : Range) × (x ≡ Ok s) × (y ≡ Ok t) × (f s t ≡ r)
both_ok f (Ok s) (Ok t) r e = (s, t, refl, refl, word_ok (f s t) r e)
both_ok f (Ok s) (Err why) r e = absurd (cc)
both_ok f (Err why) y r e = absurd (cc)

-- a divisor's value is its one number, which isn't 0
pub record IsDivisor (t : Range) : Type 0 where
  pub one : t.least ≡ t.greatest
  pub some : t.least ≡ pos 0 → ⊥

pub divides_ok : (t : Range) → divides t ≡ true → IsDivisor t
divides_ok t e =
    let p = and_parts (int_eq t.least t.greatest) (not (int_eq t.least (pos 0))) e in
    record {
      one = (Decides-int_eq t.least t.greatest).0 p.0;
      some = λ z. both_ways (int_eq t.least (pos 0)) (not-true (int_eq t.least (pos 0)) p.1) ((Decides-int_eq t.least (pos 0)).1 z);
    }

divisor_ok : (f : Range → ℤ → Range) (x y : Ranged) (r : Range) → over_divisor f x y ≡ Ok r → (s : Range) × (t : Range) × (x ≡ Ok s) × (y ≡ Ok t) × IsDivisor t × (f s t.least ≡ r)
divisor_ok f (Ok s) (Ok t) r e = go (divides t) refl e
  where
    go : (b : Bool) → divides t ≡ b → (if b then in_word (f s t.least) else Err divisor) ≡ Ok r → (s' : Range) × (t' : Range) × (◌≡◌ {A = Ranged} (Ok s) (Ok s')) × (◌≡◌ {A = Ranged} (Ok t) (Ok t')) × IsDivisor t' × (f s' t'.least ≡ r)
    go true d e = (s, t, refl, refl, divides_ok t d, word_ok (f s t.least) r e)
    go false d e = absurd (cc)
divisor_ok f (Ok s) (Err why) r e = absurd (cc)
divisor_ok f (Err why) y r e = absurd (cc)

the_divisor : (t : Range) (y : ℤ) → IsDivisor t → IsIn t y → y ≡ t.least
the_divisor t y d h = let o = d.one in let l = h.0 in let g = h.1 in omega (arith, ints)

pub value_in_range : (row : Row) (e : Term) (r : Range) → FitsTerm row e → range e ≡ Ok r → IsIn r (value e row)
unfolding range value FitsTerm
value_in_range row (column c) r h q = let e : signal_range ≡ r = cc in subst (λ (s : Range). IsIn s (in_column row c)) e (signal_in (in_column row c) h)
value_in_range row (constant n) r h q = subst (λ (s : Range). IsIn s n) (word_ok (range_from n n) r q) (omega (arith, ints), omega (arith, ints))
value_in_range row (negative a) r h q =
    let k = over_ok negated (range a) r q in
    subst (λ (s : Range). IsIn s (neg_ℤ (value a row))) k.2 (negated_in k.0 (value a row) (value_in_range row a k.0 h k.1))
value_in_range row (plus a b) r h q =
    let k = both_ok summed (range a) (range b) r q in
    subst (λ (s : Range). IsIn s (value a row +ℤ value b row)) k.4 (summed_in k.0 k.1 (value a row) (value b row) (value_in_range row a k.0 h.0 k.2) (value_in_range row b k.1 h.1 k.3))
value_in_range row (minus a b) r h q =
    let k = both_ok lessened (range a) (range b) r q in
    subst (λ (s : Range). IsIn s (value a row -ℤ value b row)) k.4 (lessened_in k.0 k.1 (value a row) (value b row) (value_in_range row a k.0 h.0 k.2) (value_in_range row b k.1 h.1 k.3))
value_in_range row (times a b) r h q =
    let k = both_ok multiplied (range a) (range b) r q in
    subst (λ (s : Range). IsIn s (value a row *ℤ value b row)) k.4 (multiplied_in k.0 k.1 (value a row) (value b row) (value_in_range row a k.0 h.0 k.2) (value_in_range row b k.1 h.1 k.3))
value_in_range row (quotient a b) r h q =
    let k = divisor_ok divided (range a) (range b) r q in
    let e : value b row ≡ k.1.least = the_divisor k.1 (value b row) k.4 (value_in_range row b k.1 h.1 k.3) in
    rw e (subst (λ (s : Range). IsIn s (int_div (value a row) k.1.least)) k.5 (divided_in k.0 (value a row) k.1.least (value_in_range row a k.0 h.0 k.2) k.4.some))
value_in_range row (remainder a b) r h q =
    let k = divisor_ok left_over (range a) (range b) r q in
    let e : value b row ≡ k.1.least = the_divisor k.1 (value b row) k.4 (value_in_range row b k.1 h.1 k.3) in
    rw e (subst (λ (s : Range). IsIn s (int_rem (value a row) k.1.least)) k.5 (left_over_in k.0 (value a row) k.1.least (value_in_range row a k.0 h.0 k.2) k.4.some))

-- a divisor is another number than 0
pub divisor_not_zero : (f : Range → ℤ → Range) (row : Row) (x : Ranged) (e : Term) (r : Range) → FitsTerm row e → over_divisor f x (range e) ≡ Ok r → value e row ≡ pos 0 → ⊥
divisor_not_zero f row x e r h q z =
    let k = divisor_ok f x (range e) r q in
    k.4.some (sym (the_divisor k.1 (value e row) k.4 (value_in_range row e k.1 h k.3)) ∙ z)

-- a range that is given stays within 64 bits
abbrev pub IsWithinWord : Range → Type 0
IsWithinWord r = (least_word ≤ℤ r.least) × (r.greatest ≤ℤ greatest_word)

word_within : (r s : Range) → in_word r ≡ Ok s → IsWithinWord s
word_within r s e = go (int_le least_word r.least && int_le r.greatest greatest_word) refl e
  where
    go : (b : Bool) → (int_le least_word r.least && int_le r.greatest greatest_word) ≡ b → (if b then Ok r else Err wide) ≡ Ok s → IsWithinWord s
    go true d e =
        let p = and_parts (int_le least_word r.least) (int_le r.greatest greatest_word) d in
        let q : r ≡ s = cc in
        subst IsWithinWord q (le_true least_word r.least p.0, le_true r.greatest greatest_word p.1)
    go false d e = absurd (cc)

over_within : (f : Range → Range) (x : Ranged) (r : Range) → over f x ≡ Ok r → IsWithinWord r
over_within f (Ok s) r e = word_within (f s) r e
over_within f (Err why) r e = absurd (cc)

both_within : (f : Range → Range → Range) (x y : Ranged) (r : Range) → over_both f x y ≡ Ok r → IsWithinWord r
both_within f (Ok s) (Ok t) r e = word_within (f s t) r e
both_within f (Ok s) (Err why) r e = absurd (cc)
both_within f (Err why) y r e = absurd (cc)

divisor_within : (f : Range → ℤ → Range) (x y : Ranged) (r : Range) → over_divisor f x y ≡ Ok r → IsWithinWord r
divisor_within f (Ok s) (Ok t) r e = go (divides t) e
  where
    go : (b : Bool) → (if b then in_word (f s t.least) else Err divisor) ≡ Ok r → IsWithinWord r
    go true e = word_within (f s t.least) r e
    go false e = absurd (cc)
divisor_within f (Ok s) (Err why) r e = absurd (cc)
divisor_within f (Err why) y r e = absurd (cc)

signal_within : IsWithinWord signal_range
signal_within = (omega (arith, ints), omega (arith, ints))

pub range_within : (e : Term) (r : Range) → range e ≡ Ok r → IsWithinWord r
unfolding range
range_within (column c) r q = let e : signal_range ≡ r = cc in subst IsWithinWord e signal_within
range_within (constant n) r q = word_within (range_from n n) r q
range_within (negative a) r q = over_within negated (range a) r q
range_within (plus a b) r q = both_within summed (range a) (range b) r q
range_within (minus a b) r q = both_within lessened (range a) (range b) r q
range_within (times a b) r q = both_within multiplied (range a) (range b) r q
range_within (quotient a b) r q = divisor_within divided (range a) (range b) r q
range_within (remainder a b) r q = divisor_within left_over (range a) (range b) r q

word_fits : (l g z : ℤ) → least_word ≤ℤ l → g ≤ℤ greatest_word → l ≤ℤ z → z ≤ℤ g → FitsSigned w64 z
word_fits l g z p q s t = omega (arith, ints)

pub value_fits_word : (row : Row) (e : Term) (r : Range) → FitsTerm row e → range e ≡ Ok r → FitsSigned w64 (value e row)
value_fits_word row e r h q =
    let w = range_within e r q in
    let v = value_in_range row e r h q in
    word_fits r.least r.greatest (value e row) w.0 w.1 v.0 v.1

-- the range that there is
pub record HasRange (r : Ranged) : Type 0 where
  pub the : Range
  pub is : r ≡ Ok the

pub has_range : (r : Ranged) → IsOk r → HasRange r
has_range (Ok x) h = record { the = x; is = refl }
has_range (Err why) h = absurd (cc)
