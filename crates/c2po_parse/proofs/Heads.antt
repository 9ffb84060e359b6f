use Rattle.std.proofs.Common.{◌≡◌, ℕ, Bool, true, false, List, [], ◌∷◌, ◌++◌, refl, ap, sym, ◌∙◌, subst, arith, Option, Some, None, inl, inr}
use Rattle.std.specs.Prelude.{slice_get, unwrap_or}
use Rattle.std.proofs.lemmas.Bool.{eq-eqb, eqb-true}
use Rattle.std.proofs.lemmas.Option.{same_Some, some_pair_parts}
use Rattle.c2po_lexer.specs.declared.token.Sign.{Sign}
use Rattle.c2po_lexer.specs.declared.token.Sign.TheVariants as sign
use Rattle.c2po_lexer.specs.declared.token.What.{What}
use Rattle.c2po_lexer.specs.declared.token.What.TheVariants as what
use Rattle.c2po_lexer.specs.declared.token.Token.{Token}
use Rattle.c2po_parse.specs.Tokens.{sign_index, is_sign, level_after, ends_operand, depth_after, is_separator}
use Rattle.c2po_parse.specs.Fronts.{◌>>=◌, past, natural_in, natural_at, bounds_or, bounds_at, interval_at}
use Rattle.c2po_parse.proofs.Walks.{bind-some, if-cases, ends_of, depth_of, IsPlain, Quiet}

-- What stands at the front of a token list, apart from what follows it.

-- the signs in their order
signs : List Sign
signs = sign.Iff ∷ sign.Implies ∷ sign.Promises ∷ sign.Becomes ∷ sign.EqualEqual ∷ sign.NotEqual ∷ sign.LessEqual ∷ sign.GreaterEqual
    ∷ sign.AndAnd ∷ sign.OrOr ∷ sign.LeftRound ∷ sign.RightRound ∷ sign.LeftCurly ∷ sign.RightCurly ∷ sign.LeftSquare ∷ sign.RightSquare
    ∷ sign.Comma ∷ sign.Semicolon ∷ sign.Colon ∷ sign.Dot ∷ sign.Bang ∷ sign.Less ∷ sign.Greater ∷ sign.Plus ∷ sign.Minus ∷ sign.Star
    ∷ sign.Slash ∷ sign.Percent ∷ []

sign_of : ℕ → Sign
sign_of n = unwrap_or (slice_get signs n) sign.Iff

sign_again : (s : Sign) → sign_of (sign_index s) ≡ s
unfolding signs sign_of
sign_again sign.Iff = refl
sign_again _ = refl

pub is_sign-same : (s : Sign) (w : What) → is_sign s w ≡ true → w ≡ what.Sign s
is_sign-same s (what.Sign r) h =
    ap what.Sign (sym (sign_again r) ∙ ap sign_of (eqb-true (sign_index r) (sign_index s) h) ∙ sign_again s)
is_sign-same s _ h = absurd (cc)

pub is_sign-at : (s : Sign) (w : What) → w ≡ what.Sign s → is_sign s w ≡ true
is_sign-at s w h = ap (is_sign s) h ∙ eq-eqb (sign_index s) (sign_index s) refl

-- a sign at the front
pub record Begins (s : Sign) (ts : List Token) (rest : List Token) : Type 0 where
  pub at : Token
  pub is : at.what ≡ what.Sign s
  pub joined : ts ≡ at ∷ rest

pub past-begins : (s : Sign) (ts rest : List Token) → past s ts ≡ Some rest → Begins s ts rest
past-begins s [] rest h = absurd (cc)
past-begins s (t ∷ ts) rest h = elim (if-cases (is_sign s t.what) (Some ts) None (Some rest) h) [
  | inl p ↦ let same : ts ≡ rest = same_Some ts rest p.1 in record { at = t; is = is_sign-same s t.what p.0; joined = ap (λ us. t ∷ us) same }
  | inr p ↦ absurd (let q = p.1 in cc)
]

pub past-at : (s : Sign) (t : Token) (rest : List Token) → t.what ≡ what.Sign s → past s (t ∷ rest) ≡ Some rest
past-at s t rest h = rw (is_sign-at s t.what h) refl

-- a number at the front
pub record Counts (n : ℕ) (ts : List Token) (rest : List Token) : Type 0 where
  pub at : Token
  pub is : natural_in at.what ≡ Some n
  pub joined : ts ≡ at ∷ rest

pub natural_at-counts : (ts : List Token) (n : ℕ) (rest : List Token) → natural_at ts ≡ Some (n, rest) → Counts n ts rest
natural_at-counts [] n rest h = absurd (cc)
natural_at-counts (t ∷ ts) n rest h =
    let p = bind-some (natural_in t.what) (λ m. Some (m, ts)) (n, rest) h in
    let same = some_pair_parts p.0 n ts rest p.2 in
    record { at = t; is = p.1 ∙ ap (λ m. Some m) same.0; joined = ap (λ us. t ∷ us) same.1 }

pub natural_at-at : (t : Token) (n : ℕ) (rest : List Token) → natural_in t.what ≡ Some n → natural_at (t ∷ rest) ≡ Some (n, rest)
natural_at-at t n rest h = rw h refl

pub number_ends : (w : What) (n : ℕ) → natural_in w ≡ Some n → ends_operand w ≡ true
number_ends (what.Number z) n h = refl
number_ends _ n h = absurd (cc)

some_triple_parts : {A B C : Type 0} (a x : A) (b y : B) (c z : C) → ◌≡◌ {A = Option (A × B × C)} (Some (a, b, c)) (Some (x, y, z)) →
    (a ≡ x) × (b ≡ y) × (c ≡ z)
some_triple_parts {A} {B} {C} a x b y c z h =
    let same : ◌≡◌ {A = A × B × C} (a, b, c) (x, y, z) = same_Some (a, b, c) (x, y, z) h in
    (ap (λ (t : A × B × C). t.0) same, ap (λ (t : A × B × C). t.1) same, ap (λ (t : A × B × C). t.2) same)

-- a number opens and closes no bracket
pub natural-flat : (w : What) (n d : ℕ) → natural_in w ≡ Some n → depth_after w d ≡ d
natural-flat (what.Number z) n d h = refl
natural-flat _ n d h = absurd (cc)

-- the bounds of an interval after its first number
pub record IsBounds (n a b : ℕ) (us : List Token) : Type 0 where
  pub reads : (z : List Token) → bounds_at (n, us ++ z) ≡ Some (a, b, z)
  pub quiet : Quiet 12 true 1 us
  pub ends : ends_of true us ≡ false
  pub depth : depth_of 1 us ≡ 0

one-bound : (n : ℕ) (r : Token) → r.what ≡ what.Sign sign.RightSquare → IsBounds n 0 n (r ∷ [])
unfolding Quiet ends_of depth_of
one-bound n r is = record {
  reads = λ z. ap (bounds_or (n, r ∷ z)) (past-at sign.RightSquare r z is);
  quiet = (tt, tt);
  ends = ap ends_operand is;
  depth = ap (λ w. depth_after w 1) is;
}

not-close : (c : Token) (z : List Token) → c.what ≡ what.Sign sign.Comma → past sign.RightSquare (c ∷ z) ≡ None
not-close c z is = rw is refl

two-bounds : (n m : ℕ) (c d r : Token) → c.what ≡ what.Sign sign.Comma → natural_in d.what ≡ Some m →
    r.what ≡ what.Sign sign.RightSquare → IsBounds n n m (c ∷ d ∷ r ∷ [])
unfolding Quiet ends_of depth_of
two-bounds n m c d r comma number close = record {
  reads = λ z. ap (bounds_or (n, c ∷ d ∷ r ∷ z)) (not-close c (d ∷ r ∷ z) comma)
      ∙ rw (past-at sign.Comma c (d ∷ r ∷ z) comma, natural_at-at d m (r ∷ z) number, past-at sign.RightSquare r z close) refl;
  quiet = rw (comma, natural-flat d.what m 1 number) (tt, (tt, (tt, tt)));
  ends = ap ends_operand close;
  depth = rw (comma, natural-flat d.what m 1 number, close) refl;
}

-- the front of a token list, apart from what follows it
pub record BoundsFront (n a b : ℕ) (ts rest : List Token) : Type 0 where
  pub front : List Token
  pub joined : ts ≡ front ++ rest
  pub is : IsBounds n a b front

bounds_at-front : (n a b : ℕ) (ts rest : List Token) (v : Option (List Token)) → past sign.RightSquare ts ≡ v →
    bounds_or (n, ts) v ≡ Some (a, b, rest) → BoundsFront n a b ts rest
bounds_at-front n a b ts rest (Some us) past_is h =
    let begins = past-begins sign.RightSquare ts us past_is in
    let same = some_triple_parts 0 a n b us rest h in
    record {
      front = begins.at ∷ [];
      joined = begins.joined ∙ ap (λ xs. begins.at ∷ xs) same.2;
      is = subst (λ m. IsBounds n m b (begins.at ∷ [])) same.0
          (subst (λ m. IsBounds n 0 m (begins.at ∷ [])) same.1 (one-bound n begins.at begins.is));
    }
bounds_at-front n a b ts rest None past_is h =
    let p = bind-some (past sign.Comma ts) (λ us. natural_at us >>= λ second. past sign.RightSquare second.1 >>= λ vs. Some (n, second.0, vs)) (a, b, rest) h in
    let q = bind-some (natural_at p.0) (λ second. past sign.RightSquare second.1 >>= λ vs. Some (n, second.0, vs)) (a, b, rest) p.2 in
    let r = bind-some (past sign.RightSquare q.0.1) (λ vs. Some (n, q.0.0, vs)) (a, b, rest) q.2 in
    let comma = past-begins sign.Comma ts p.0 p.1 in
    let number = natural_at-counts p.0 q.0.0 q.0.1 q.1 in
    let close = past-begins sign.RightSquare q.0.1 r.0 r.1 in
    let same = some_triple_parts n a q.0.0 b r.0 rest r.2 in
    record {
      front = comma.at ∷ number.at ∷ close.at ∷ [];
      joined = comma.joined ∙ ap (λ xs. comma.at ∷ xs) (number.joined ∙ ap (λ xs. number.at ∷ xs) (close.joined ∙ ap (λ xs. close.at ∷ xs) same.2));
      is = subst (λ m. IsBounds n m b (comma.at ∷ number.at ∷ close.at ∷ [])) same.0
          (subst (λ m. IsBounds n n m (comma.at ∷ number.at ∷ close.at ∷ [])) same.1
          (two-bounds n q.0.0 comma.at number.at close.at comma.is number.is close.is));
    }

-- an interval
pub record IsInterval (a b : ℕ) (us : List Token) : Type 0 where
  pub reads : (z : List Token) → interval_at (us ++ z) ≡ Some (a, b, z)
  pub quiet : Quiet 12 false 0 us
  pub ends : ends_of false us ≡ false
  pub depth : depth_of 0 us ≡ 0

pub record IntervalFront (a b : ℕ) (ts rest : List Token) : Type 0 where
  pub front : List Token
  pub joined : ts ≡ front ++ rest
  pub is : IsInterval a b front

pub plain-of : (k : ℕ) (a : Bool) (t : Token) (w : What) → t.what ≡ w → is_separator w ≡ false → level_after a w ≡ 0 → IsPlain k a t
plain-of k a t w is apart level = record {
  apart = ap is_separator is ∙ apart;
  level = λ positive. let none : level_after a t.what ≡ 0 = ap (level_after a) is ∙ level in absurd (omega arith);
}

interval-of : (n a b : ℕ) (o d : Token) (us : List Token) → o.what ≡ what.Sign sign.LeftSquare → natural_in d.what ≡ Some n →
    IsBounds n a b us → IsInterval a b (o ∷ d ∷ us)
unfolding interval_at Quiet ends_of depth_of
interval-of n a b o d us opener number bounds = record {
  reads = λ z. rw (past-at sign.LeftSquare o (d ∷ us ++ z) opener, natural_at-at d n (us ++ z) number) (bounds.reads z);
  quiet = (
    plain-of 12 false o (what.Sign sign.LeftSquare) opener refl refl,
    rw (opener, natural-flat d.what n 1 number, number_ends d.what n number) (tt, bounds.quiet),
  );
  ends = rw (number_ends d.what n number) bounds.ends;
  depth = rw (opener, natural-flat d.what n 1 number) bounds.depth;
}

pub interval_at-front : (a b : ℕ) (ts rest : List Token) → interval_at ts ≡ Some (a, b, rest) → IntervalFront a b ts rest
unfolding interval_at
interval_at-front a b ts rest h =
    let p = bind-some (past sign.LeftSquare ts) (λ us. natural_at us >>= λ first. bounds_at first) (a, b, rest) h in
    let q = bind-some (natural_at p.0) (λ first. bounds_at first) (a, b, rest) p.2 in
    let opener = past-begins sign.LeftSquare ts p.0 p.1 in
    let number = natural_at-counts p.0 q.0.0 q.0.1 q.1 in
    let bounds = bounds_at-front q.0.0 a b q.0.1 rest (past sign.RightSquare q.0.1) refl q.2 in
    record {
      front = opener.at ∷ number.at ∷ bounds.front;
      joined = opener.joined ∙ ap (λ xs. opener.at ∷ xs) (number.joined ∙ ap (λ xs. number.at ∷ xs) bounds.joined);
      is = interval-of q.0.0 a b opener.at number.at bounds.front opener.is number.is bounds.is;
    }
