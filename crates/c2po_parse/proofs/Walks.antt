use Rattle.std.proofs.Common.{◌≡◌, ℕ, zero, suc, pred, ◌<◌, ◌≤◌, Bool, true, false, ◌&&◌, List, [], ◌∷◌, ◌++◌, refl, ap, sym, ◌∙◌, subst, arith, Option, Some, None, nat_eq, if◌then◌else◌, inl, inr, ◌⊎◌}
use Rattle.std.specs.Prelude.{option_and_then, ⊤}
use Rattle.std.proofs.lemmas.Option.{same_Some}
use Rattle.std.proofs.lemmas.Bool.Decides.{nat_tests}
use Rattle.std.proofs.lemmas.Bool.{and_parts}
use Rattle.c2po_lexer.specs.declared.token.Sign.TheVariants as sign
use Rattle.c2po_lexer.specs.declared.token.What.{What}
use Rattle.c2po_lexer.specs.declared.token.What.TheVariants as what
use Rattle.c2po_lexer.specs.declared.token.Token.{Token}
use Rattle.c2po_parse.specs.Tokens.{level_after, ends_operand, depth_after, is_separator}
use Rattle.c2po_parse.specs.Splitting.{Cut, Test, with_front, cut_first, cut_last, later}

-- Facts on going through a token list.

-- what stands after a step that gave something
pub bind-some : {A B : Type 0} (o : Option A) (f : A → Option B) (r : B) → option_and_then f o ≡ Some r → (x : A) × (o ≡ Some x) × (f x ≡ Some r)
bind-some None f r h = absurd (cc)
bind-some (Some x) f r h = (x, refl, h)

pub if-cases : {A : Type 0} (b : Bool) (x y r : A) → (if b then x else y) ≡ r → ((b ≡ true) × (x ≡ r)) ⊎ ((b ≡ false) × (y ≡ r))
if-cases true x y r h = inl (refl, h)
if-cases false x y r h = inr (refl, h)

-- whether the last token ends an operand
unfoldable pub ends_of : Bool → List Token → Bool
ends_of after [] = after
ends_of after (t ∷ ts) = ends_of (ends_operand t.what) ts

-- how many brackets are open at the end
unfoldable pub depth_of : ℕ → List Token → ℕ
depth_of d [] = d
depth_of d (t ∷ ts) = depth_of (depth_after t.what d) ts

-- a token that is no separator, and no operator below level k
pub record IsPlain (k : ℕ) (after : Bool) (t : Token) : Type 0 where
  pub apart : is_separator t.what ≡ false
  pub level : 0 < level_after after t.what → k ≤ level_after after t.what

abbrev pub IsQuiet : ℕ → Bool → ℕ → Token → Type 0
IsQuiet k after zero t = IsPlain k after t
IsQuiet k after (suc d) t = ⊤

-- all tokens outside brackets are plain
unfoldable pub Quiet : ℕ → Bool → ℕ → List Token → Type 0
Quiet k after d [] = ⊤
Quiet k after d (t ∷ ts) = IsQuiet k after d t × Quiet k (ends_operand t.what) (depth_after t.what d) ts

pub ends_of-append : (a : Bool) (x y : List Token) → ends_of a (x ++ y) ≡ ends_of (ends_of a x) y
unfolding ends_of
ends_of-append a [] y = refl
ends_of-append a (t ∷ x) y = ends_of-append (ends_operand t.what) x y

pub depth_of-append : (d : ℕ) (x y : List Token) → depth_of d (x ++ y) ≡ depth_of (depth_of d x) y
unfolding depth_of
depth_of-append d [] y = refl
depth_of-append d (t ∷ x) y = depth_of-append (depth_after t.what d) x y

pub Quiet-append : (k : ℕ) (a : Bool) (d : ℕ) (x y : List Token) → Quiet k a d x → Quiet k (ends_of a x) (depth_of d x) y → Quiet k a d (x ++ y)
unfolding Quiet ends_of depth_of
Quiet-append k a d [] y qx qy = qy
Quiet-append k a d (t ∷ x) y qx qy = (qx.0, Quiet-append k (ends_operand t.what) (depth_after t.what d) x y qx.1 qy)

quiet-weaker : (j k : ℕ) (a : Bool) (d : ℕ) (t : Token) → j ≤ k → IsQuiet k a d t → IsQuiet j a d t
quiet-weaker j k a zero t h p = record { apart = p.apart; level = λ positive. omega (arith, p.level positive) }
quiet-weaker j k a (suc d) t h p = tt

pub Quiet-weaker : (j k : ℕ) (a : Bool) (d : ℕ) (x : List Token) → j ≤ k → Quiet k a d x → Quiet j a d x
unfolding Quiet
Quiet-weaker j k a d [] h q = tt
Quiet-weaker j k a d (t ∷ x) h q =
    (quiet-weaker j k a d t h q.0, Quiet-weaker j k (ends_operand t.what) (depth_after t.what d) x h q.1)

suc-pred : (d : ℕ) → 0 < d → d ≡ suc (pred d)
suc-pred zero h = absurd (omega arith)
suc-pred (suc d) h = refl

-- a closing bracket outside brackets isn't plain, so a plain list leaves open what was open before it
deeper-after : (w : What) (d : ℕ) → (is_separator w ≡ true → 0 < d) → depth_after w (suc d) ≡ suc (depth_after w d)
deeper-after (what.Sign sign.RightRound) d h = suc-pred d (h refl)
deeper-after (what.Sign sign.RightCurly) d h = suc-pred d (h refl)
deeper-after (what.Sign sign.RightSquare) d h = suc-pred d (h refl)
deeper-after _ d h = refl

quiet-open : (k : ℕ) (a : Bool) (d : ℕ) (t : Token) → IsQuiet k a d t → is_separator t.what ≡ true → 0 < d
quiet-open k a zero t q h = let p : is_separator t.what ≡ false = q.apart in absurd (cc)
quiet-open k a (suc d) t q h = omega arith

pub depth_of-deeper : (k : ℕ) (a : Bool) (d : ℕ) (x : List Token) → Quiet k a d x → depth_of (suc d) x ≡ suc (depth_of d x)
unfolding Quiet depth_of
depth_of-deeper k a d [] q = refl
depth_of-deeper k a d (t ∷ x) q =
    ap (λ n. depth_of n x) (deeper-after t.what d (quiet-open k a d t q.0))
    ∙ depth_of-deeper k (ends_operand t.what) (depth_after t.what d) x q.1

pub Quiet-deeper : (j k : ℕ) (a : Bool) (d : ℕ) (x : List Token) → Quiet k a d x → Quiet j a (suc d) x
unfolding Quiet
Quiet-deeper j k a d [] q = tt
Quiet-deeper j k a d (t ∷ x) q =
    let tail : Quiet j (ends_operand t.what) (suc (depth_after t.what d)) x =
    Quiet-deeper j k (ends_operand t.what) (depth_after t.what d) x q.1 in
    (tt, subst (λ n. Quiet j (ends_operand t.what) n x) (sym (deeper-after t.what d (quiet-open k a d t q.0))) tail)

-- a test that no token passes that is plain for level k
pub record Skips (test : Test) (k : ℕ) : Type 0 where
  pub skips : (a : Bool) (t : Token) → IsPlain k a t → test a t ≡ false

here-not : (test : Test) (k : ℕ) (a : Bool) (d : ℕ) (t : Token) → Skips test k → IsQuiet k a d t → (nat_eq d 0 && test a t) ≡ false
here-not test k a zero t s q = s.skips a t q
here-not test k a (suc d) t s q = grind (arith, nat_tests)

here : (test : Test) (a : Bool) (d : ℕ) (t : Token) → d ≡ 0 → test a t ≡ true → (nat_eq d 0 && test a t) ≡ true
here test a d t z h = rw (z, h) refl

-- the first cut goes on after a list whose plain tokens don't pass the test
with_fronts : List Token → Option Cut → Option Cut
with_fronts [] c = c
with_fronts (t ∷ x) c = with_front t (with_fronts x c)

with_fronts-some : (x z : List Token) → with_fronts x (Some ([], z)) ≡ Some (x, z)
unfolding with_fronts
with_fronts-some [] z = refl
with_fronts-some (t ∷ x) z = ap (with_front t) (with_fronts-some x z)

cut_first-over : (test : Test) (k : ℕ) (a : Bool) (d : ℕ) (x z : List Token) → Skips test k → Quiet k a d x →
    cut_first test a d (x ++ z) ≡ with_fronts x (cut_first test (ends_of a x) (depth_of d x) z)
unfolding cut_first with_fronts Quiet ends_of depth_of
cut_first-over test k a d [] z s q = refl
cut_first-over test k a d (t ∷ x) z s q =
    rw (here-not test k a d t s q.0)
    (ap (with_front t) (cut_first-over test k (ends_operand t.what) (depth_after t.what d) x z s q.1))

cut_first-here : (test : Test) (a : Bool) (d : ℕ) (t : Token) (z : List Token) → d ≡ 0 → test a t ≡ true →
    cut_first test a d (t ∷ z) ≡ Some ([], t ∷ z)
unfolding cut_first
cut_first-here test a d t z deep passes = rw (here test a d t deep passes) refl

pub cut_first-at : (test : Test) (k : ℕ) (x : List Token) (t : Token) (z : List Token) → Skips test k → Quiet k false 0 x →
    depth_of 0 x ≡ 0 → test (ends_of false x) t ≡ true → cut_first test false 0 (x ++ t ∷ z) ≡ Some (x, t ∷ z)
cut_first-at test k x t z s q deep passes =
    cut_first-over test k false 0 x (t ∷ z) s q
    ∙ ap (with_fronts x) (cut_first-here test (ends_of false x) (depth_of 0 x) t z deep passes)
    ∙ with_fronts-some x (t ∷ z)

pub cut_first-none : (test : Test) (k : ℕ) (a : Bool) (d : ℕ) (x : List Token) → Skips test k → Quiet k a d x → cut_first test a d x ≡ None
unfolding cut_first Quiet
cut_first-none test k a d [] s q = refl
cut_first-none test k a d (t ∷ x) s q =
    rw (here-not test k a d t s q.0, cut_first-none test k (ends_operand t.what) (depth_after t.what d) x s q.1) refl

pub cut_last-none : (test : Test) (k : ℕ) (a : Bool) (d : ℕ) (x : List Token) → Skips test k → Quiet k a d x → cut_last test a d x ≡ None
unfolding cut_last Quiet
cut_last-none test k a d [] s q = refl
cut_last-none test k a d (t ∷ x) s q =
    rw (here-not test k a d t s q.0, cut_last-none test k (ends_operand t.what) (depth_after t.what d) x s q.1) refl

pub cut_last-at : (test : Test) (a : Bool) (d : ℕ) (x : List Token) (t : Token) (z : List Token) →
    depth_of d x ≡ 0 → test (ends_of a x) t ≡ true → cut_last test (ends_operand t.what) (depth_after t.what 0) z ≡ None →
    cut_last test a d (x ++ t ∷ z) ≡ Some (x, t ∷ z)
unfolding cut_last ends_of depth_of
cut_last-at test a d [] t z deep passes none = rw (deep, none, passes) refl
cut_last-at test a d (u ∷ x) t z deep passes none =
    rw (cut_last-at test (ends_operand u.what) (depth_after u.what d) x t z deep passes none) refl

-- a cut keeps the tokens and begins its second part with one that passes the test
pub record Rejoins (test : Test) (ts : List Token) (c : Cut) : Type 0 where
  pub after : Bool
  pub at : Token
  pub rest : List Token
  pub joined : ts ≡ c.0 ++ c.1
  pub begins : c.1 ≡ at ∷ rest
  pub passes : test after at ≡ true

rejoins-front : (test : Test) (ts : List Token) (t : Token) (o : Option Cut) (c : Cut) → with_front t o ≡ Some c →
    ((d : Cut) → o ≡ Some d → Rejoins test ts d) → Rejoins test (t ∷ ts) c
rejoins-front test ts t None c h r = absurd (cc)
rejoins-front test ts t (Some d) c h r =
    let q = r d refl in
    let same : ◌≡◌ {A = Cut} (t ∷ d.0, d.1) c = same_Some (t ∷ d.0, d.1) c h in
    subst (Rejoins test (t ∷ ts)) same
    (record { after = q.after; at = q.at; rest = q.rest; joined = ap (λ us. t ∷ us) q.joined; begins = q.begins; passes = q.passes })

rejoins-here : (test : Test) (a : Bool) (d : ℕ) (t : Token) (ts : List Token) (c : Cut) → (nat_eq d 0 && test a t) ≡ true →
    ◌≡◌ {A = Option Cut} (Some ([], t ∷ ts)) (Some c) → Rejoins test (t ∷ ts) c
rejoins-here test a d t ts c passes h =
    let same : ◌≡◌ {A = Cut} ([], t ∷ ts) c = same_Some ([], t ∷ ts) c h in
    subst (Rejoins test (t ∷ ts)) same
    (record { after = a; at = t; rest = ts; joined = refl; begins = refl; passes = (and_parts (nat_eq d 0) (test a t) passes).1 })

pub cut_first-rejoins : (test : Test) (a : Bool) (d : ℕ) (ts : List Token) (c : Cut) → cut_first test a d ts ≡ Some c → Rejoins test ts c
unfolding cut_first
cut_first-rejoins test a d [] c h = absurd (cc)
cut_first-rejoins test a d (t ∷ ts) c h =
    elim (if-cases (nat_eq d 0 && test a t) (Some ([], t ∷ ts)) (with_front t (cut_first test (ends_operand t.what) (depth_after t.what d) ts)) (Some c) h) [
      | inl p ↦ rejoins-here test a d t ts c p.0 p.1
      | inr p ↦ rejoins-front test ts t (cut_first test (ends_operand t.what) (depth_after t.what d) ts) c p.1
          (λ e is. cut_first-rejoins test (ends_operand t.what) (depth_after t.what d) ts e is)
    ]

rejoins-later : (test : Test) (a : Bool) (d : ℕ) (t : Token) (ts : List Token) (o : Option Cut) (c : Cut) (b : Bool) →
    (nat_eq d 0 && test a t) ≡ b → later (with_front t o) b (t ∷ ts) ≡ Some c →
    ((e : Cut) → o ≡ Some e → Rejoins test ts e) → Rejoins test (t ∷ ts) c
rejoins-later test a d t ts None c true is h r = rejoins-here test a d t ts c is h
rejoins-later test a d t ts None c false is h r = absurd (cc)
rejoins-later test a d t ts (Some e) c b is h r = rejoins-front test ts t (Some e) c h r

pub cut_last-rejoins : (test : Test) (a : Bool) (d : ℕ) (ts : List Token) (c : Cut) → cut_last test a d ts ≡ Some c → Rejoins test ts c
unfolding cut_last
cut_last-rejoins test a d [] c h = absurd (cc)
cut_last-rejoins test a d (t ∷ ts) c h =
    rejoins-later test a d t ts (cut_last test (ends_operand t.what) (depth_after t.what d) ts) c (nat_eq d 0 && test a t) refl h
    (λ e is. cut_last-rejoins test (ends_operand t.what) (depth_after t.what d) ts e is)
