use Rattle.std.proofs.Common.{◌≡◌, ℕ, zero, suc, ◌+◌, ◌-◌, ◌*◌, ◌<◌, ◌≤◌, Bool, true, false, List, [], ◌∷◌, ◌++◌, length, length-append, refl, ap, sym, ◌∙◌, subst, arith, Option, Some, None, nat_le, ◌||◌, if◌then◌else◌, inl, inr, append_assoc}
use Rattle.std.specs.Prelude.{option_and_then}
use Rattle.std.proofs.lemmas.Bool.{le-leb}
use Rattle.std.proofs.lemmas.Bool.Decides.{nat_tests}
use Rattle.std.proofs.lemmas.Option.{some_pair_parts}
use Rattle.c2po_lexer.specs.declared.token.Sign.{Sign}
use Rattle.c2po_lexer.specs.declared.token.Sign.TheVariants as sign
use Rattle.c2po_lexer.specs.declared.token.What.TheVariants as what
use Rattle.c2po_lexer.specs.declared.token.Token.{Token}
use Rattle.c2po_ast.specs.declared.operator.Infix.{Infix}
use Rattle.c2po_parse.specs.declared.operator.Operator.{Operator}
use Rattle.c2po_parse.specs.declared.operator.Operator.TheVariants.{Binary, Field}
use Rattle.c2po_ast.specs.declared.operator.Prefix.{Prefix}
use Rattle.c2po_ast.specs.declared.operator.Quantifier.{Quantifier}
use Rattle.c2po_ast.specs.declared.operator.Bracket.{Bracket}
use Rattle.c2po_parse.specs.declared.operator.Start.{Start}
use Rattle.c2po_parse.specs.declared.operator.Start.TheVariants.{Leaf, Before, Round, Open, Bind}
use Rattle.c2po_ast.specs.Shape.{Shape, pick}
use Rattle.c2po_parse.specs.Tokens.{is_sign, token_level, is_separator, left_level, right_level, is_right_level, is_prefix_level}
use Rattle.c2po_ast.specs.Parts.{joined, prefixed, enclosed, quantified, leaf}
use Rattle.c2po_parse.specs.Fronts.{◌>>=◌, past, operator_at, start_at, middle_at, infix_level, level_of, prefix_level, closing}
use Rattle.c2po_parse.specs.Climbing.{Goal, Whole, Operand, Rest, Elements, Climbs, closed, operand, joins, climbed, elements_of, climb_step, climb}
use Rattle.c2po_parse.proofs.Walks.{bind-some, if-cases}
use Rattle.c2po_parse.proofs.Heads.{is_sign-same, past-at}
use Rattle.c2po_parse.proofs.Operators.{IsOperator, separator-none, separator-closed}
use Rattle.c2po_parse.proofs.Starts.{IsStart, is_leaf, IsMiddle}
use Rattle.c2po_parse.proofs.Rules as rules
use Rattle.c2po_parse.proofs.Rules.{Derives, DerivesAll, down, picks, behind, alone, inside, encloses, binds, last, and_more, infix_is_level, prefix_low, closing_closes}
use Rattle.c2po_parse.proofs.ClimbSound.{Stops, right_level-low, regroup_front, regroup_bound}

-- What the rules derive is read by climbing.

pub bind-with : {A B : Type 0} (o : Option A) (f : A → Option B) (x : A) (r : B) → o ≡ Some x → f x ≡ Some r → option_and_then f o ≡ Some r
bind-with o f x r is h = ap (option_and_then f) is ∙ h

pub if-true : {A : Type 0} (b : Bool) (x y r : A) → b ≡ true → x ≡ r → (if b then x else y) ≡ r
if-true b x y r is h = ap (λ c. if c then x else y) is ∙ h

pub if-false : {A : Type 0} (b : Bool) (x y r : A) → b ≡ false → y ≡ r → (if b then x else y) ≡ r
if-false b x y r is h = ap (λ c. if c then x else y) is ∙ h

-- What is read with some steps is read with more of them.

-- what one reads, the other reads too
record Extends (read further : Climbs) : Type 0 where
  extends : (g : Goal) (ts : List Token) (r : Shape × List Token) → read g ts ≡ Some r → further g ts ≡ Some r

closed-extends : (read further : Climbs) (ts : List Token) (r : Shape × List Token) → Extends read further → closed read ts ≡ Some r → closed further ts ≡ Some r
closed-extends read further ts r x h =
    let p = bind-some (read (Whole 1) ts) (λ y. past sign.RightRound y.1 >>= λ rest. Some (y.0, rest)) r h in
    bind-with (further (Whole 1) ts) (λ y. past sign.RightRound y.1 >>= λ rest. Some (y.0, rest)) p.0 r (x.extends (Whole 1) ts p.0 p.1) p.2

operand-extends : (read further : Climbs) (l : ℕ) (s : Start) (ts : List Token) (r : Shape × List Token) → Extends read further →
    operand read l (s, ts) ≡ Some r → operand further l (s, ts) ≡ Some r
operand-extends read further l (Leaf line a) ts r x h = h
operand-extends read further l (Before p) ts r x h =
    elim (if-cases (nat_le l (prefix_level p)) (read (Whole (prefix_level p)) ts >>= λ y. Some (prefixed p y.0, y.1)) None (Some r) h) [
      | inl c ↦
          let y = bind-some (read (Whole (prefix_level p)) ts) (λ y. Some (prefixed p y.0, y.1)) r c.1 in
          if-true (nat_le l (prefix_level p)) (further (Whole (prefix_level p)) ts >>= λ y. Some (prefixed p y.0, y.1)) None (Some r) c.0
          (bind-with (further (Whole (prefix_level p)) ts) (λ y. Some (prefixed p y.0, y.1)) y.0 r (x.extends (Whole (prefix_level p)) ts y.0 y.1) y.2)
      | inr c ↦ absurd (let no = c.1 in cc)
    ]
operand-extends read further l Round ts r x h = closed-extends read further ts r x h
operand-extends read further l (Open b) ts r x h = x.extends (Elements b []) ts r h
operand-extends read further l (Bind line q v) ts r x h =
    let s = bind-some (read (Whole 1) ts) (λ s. middle_at q s.1 >>= λ m. closed read m.1 >>= λ y. Some (quantified line q v s.0 m.0 y.0, y.1)) r h in
    let m = bind-some (middle_at q s.0.1) (λ m. closed read m.1 >>= λ y. Some (quantified line q v s.0.0 m.0 y.0, y.1)) r s.2 in
    let y = bind-some (closed read m.0.1) (λ y. Some (quantified line q v s.0.0 m.0.0 y.0, y.1)) r m.2 in
    bind-with (further (Whole 1) ts) (λ s. middle_at q s.1 >>= λ m. closed further m.1 >>= λ y. Some (quantified line q v s.0 m.0 y.0, y.1)) s.0 r
    (x.extends (Whole 1) ts s.0 s.1)
    (bind-with (middle_at q s.0.1) (λ m. closed further m.1 >>= λ y. Some (quantified line q v s.0.0 m.0 y.0, y.1)) m.0 r m.1
    (bind-with (closed further m.0.1) (λ y. Some (quantified line q v s.0.0 m.0.0 y.0, y.1)) y.0 r
    (closed-extends read further m.0.1 y.0 x y.1) y.2))

joins-extends : (read further : Climbs) (l : ℕ) (left : Shape) (o : Operator) (ts : List Token) (r : Shape × List Token) → Extends read further →
    joins read l left (o, ts) ≡ Some r → joins further l left (o, ts) ≡ Some r
joins-extends read further l left (Binary line op) ts r x h =
    let p = bind-some (read (Whole (right_level (infix_level op))) ts) (λ y. read (Rest l (joined line op left y.0)) y.1) r h in
    bind-with (further (Whole (right_level (infix_level op))) ts) (λ y. further (Rest l (joined line op left y.0)) y.1) p.0 r
    (x.extends (Whole (right_level (infix_level op))) ts p.0 p.1) (x.extends (Rest l (joined line op left p.0.0)) p.0.1 r p.2)
joins-extends read further l left (Field line f) ts r x h = x.extends (Rest l (pick line left f)) ts r h

rest_of-extends : (read further : Climbs) (l : ℕ) (left : Shape) (ts : List Token) (v : Option (Operator × List Token)) (r : Shape × List Token) →
    Extends read further → climbed read l left ts v ≡ Some r → climbed further l left ts v ≡ Some r
rest_of-extends read further l left ts None r x h = h
rest_of-extends read further l left ts (Some o) r x h =
    elim (if-cases (nat_le l (level_of o.0)) (joins read l left o) (Some (left, ts)) (Some r) h) [
      | inl c ↦ if-true (nat_le l (level_of o.0)) (joins further l left o) (Some (left, ts)) (Some r) c.0 (joins-extends read further l left o.0 o.1 r x c.1)
      | inr c ↦ if-false (nat_le l (level_of o.0)) (joins further l left o) (Some (left, ts)) (Some r) c.0 c.1
    ]

elements_of-extends : (read further : Climbs) (b : Bracket) (es : List Shape) (ts : List Token) (v : Option (List Token)) (r : Shape × List Token) →
    Extends read further → elements_of read b es ts v ≡ Some r → elements_of further b es ts v ≡ Some r
elements_of-extends read further b es ts None r x h = h
elements_of-extends read further b es ts (Some rest) r x h = x.extends (Elements b es) rest r h

step-extends : (read further : Climbs) (g : Goal) (ts : List Token) (r : Shape × List Token) → Extends read further →
    climb_step read g ts ≡ Some r → climb_step further g ts ≡ Some r
step-extends read further (Whole l) ts r x h =
    let p = bind-some (read (Operand l) ts) (λ y. read (Rest l y.0) y.1) r h in
    bind-with (further (Operand l) ts) (λ y. further (Rest l y.0) y.1) p.0 r (x.extends (Operand l) ts p.0 p.1) (x.extends (Rest l p.0.0) p.0.1 r p.2)
step-extends read further (Operand l) ts r x h =
    let s = bind-some (start_at ts) (λ s. operand read l s) r h in
    bind-with (start_at ts) (λ s. operand further l s) s.0 r s.1 (operand-extends read further l s.0.0 s.0.1 r x s.2)
step-extends read further (Rest l left) ts r x h = rest_of-extends read further l left ts (operator_at ts) r x h
step-extends read further (Elements b es) ts r x h =
    let p = bind-some (read (Whole 1) ts) (λ y. elements_of read b (es ++ y.0 ∷ []) y.1 (past sign.Comma y.1)) r h in
    bind-with (further (Whole 1) ts) (λ y. elements_of further b (es ++ y.0 ∷ []) y.1 (past sign.Comma y.1)) p.0 r (x.extends (Whole 1) ts p.0 p.1)
    (elements_of-extends read further b (es ++ p.0.0 ∷ []) p.0.1 (past sign.Comma p.0.1) r x p.2)

climb-next : (n : ℕ) (g : Goal) (ts : List Token) (r : Shape × List Token) → climb n g ts ≡ Some r → climb (suc n) g ts ≡ Some r
unfolding climb
climb-next zero g ts r h = absurd (cc)
climb-next (suc n) g ts r h = step-extends (climb n) (climb (suc n)) g ts r (record { extends = climb-next n }) h

climb-plus : (j n : ℕ) (g : Goal) (ts : List Token) (r : Shape × List Token) → climb n g ts ≡ Some r → climb (j + n) g ts ≡ Some r
climb-plus zero n g ts r h = subst (λ k. climb k g ts ≡ Some r) (let same : n ≡ zero + n = omega arith in same) h
climb-plus (suc j) n g ts r h =
    subst (λ k. climb k g ts ≡ Some r) (let same : suc (j + n) ≡ suc j + n = omega arith in same) (climb-next (j + n) g ts r (climb-plus j n g ts r h))

climb-more : (m n : ℕ) (g : Goal) (ts : List Token) (r : Shape × List Token) → m ≤ n → climb m g ts ≡ Some r → climb n g ts ≡ Some r
climb-more m n g ts r le h =
    subst (λ k. climb k g ts ≡ Some r) (let same : (n - m) + m ≡ n = omega arith in same) (climb-plus (n - m) m g ts r h)

-- One step of climbing, by its parts.

climb-by : (n p : ℕ) (g : Goal) (ts : List Token) (r : Shape × List Token) → n ≡ suc p → climb_step (climb p) g ts ≡ Some r → climb n g ts ≡ Some r
unfolding climb
climb-by n p g ts r is h = subst (λ k. climb k g ts ≡ Some r) (sym is) h

pub some-suc : (n : ℕ) → 1 ≤ n → (p : ℕ) × (n ≡ suc p)
some-suc zero h = absurd (omega arith)
some-suc (suc p) h = (p, refl)

whole-by : (n p l : ℕ) (ts z : List Token) (e : Shape) (r : Shape × List Token) → n ≡ suc p → climb p (Operand l) ts ≡ Some (e, z) →
    climb p (Rest l e) z ≡ Some r → climb n (Whole l) ts ≡ Some r
whole-by n p l ts z e r is first tail =
    climb-by n p (Whole l) ts r is (bind-with (climb p (Operand l) ts) (λ y. climb p (Rest l y.0) y.1) (e, z) r first tail)

operand-by : (n p l : ℕ) (ts rest z : List Token) (s : Start) (e : Shape) → n ≡ suc p → start_at ts ≡ Some (s, rest) →
    operand (climb p) l (s, rest) ≡ Some (e, z) → climb n (Operand l) ts ≡ Some (e, z)
operand-by n p l ts rest z s e is start h =
    climb-by n p (Operand l) ts (e, z) is (bind-with (start_at ts) (λ y. operand (climb p) l y) (s, rest) (e, z) start h)

rest-by : (n p l : ℕ) (e : Shape) (t : Token) (us z : List Token) (o : Operator) (r : Shape × List Token) → n ≡ suc p → IsOperator t us o →
    l ≤ level_of o → joins (climb p) l e (o, z) ≡ Some r → climb n (Rest l e) (t ∷ (us ++ z)) ≡ Some r
rest-by n p l e t us z o r is operator low h =
    climb-by n p (Rest l e) (t ∷ (us ++ z)) r is
    (ap (climbed (climb p) l e (t ∷ (us ++ z))) (operator.reads z)
    ∙ if-true (nat_le l (level_of o)) (joins (climb p) l e (o, z)) (Some (e, t ∷ (us ++ z))) (Some r) (le-leb l (level_of o) low) h)

below : (a b : ℕ) → b < a → nat_le a b ≡ false
below a b h = grind (arith, nat_tests)

rest_of-stops : (read : Climbs) (l : ℕ) (e : Shape) (z : List Token) (v : Option (Operator × List Token)) → operator_at z ≡ v → Stops l z →
    climbed read l e z v ≡ Some (e, z)
rest_of-stops read l e z None is stops = refl
rest_of-stops read l e z (Some o) is stops =
    if-false (nat_le l (level_of o.0)) (joins read l e o) (Some (e, z)) (Some (e, z)) (below l (level_of o.0) (stops.stops o.0 o.1 is)) refl

pub rest-stops : (n l : ℕ) (e : Shape) (z : List Token) → 1 ≤ n → Stops l z → climb n (Rest l e) z ≡ Some (e, z)
rest-stops n l e z one stops =
    let p = some-suc n one in
    climb-by n p.0 (Rest l e) z (e, z) p.1 (rest_of-stops (climb p.0) l e z (operator_at z) refl stops)

-- What may follow a tree: no operator that would take it, and no `(`.
pub record Follows (level : ℕ) (z : List Token) : Type 0 where
  pub stops : Stops level z
  pub no_call : past sign.LeftRound z ≡ None

stops-weaker : (j k : ℕ) (z : List Token) → j ≤ k → Stops j z → Stops k z
stops-weaker j k z le s = record { stops = λ o rest h. let low = s.stops o rest h in omega arith }

follows-weaker : (j k : ℕ) (z : List Token) → j ≤ k → Follows j z → Follows k z
follows-weaker j k z le f = record { stops = stops-weaker j k z le f.stops; no_call = f.no_call }

pub follows-end : (level : ℕ) → Follows level []
unfolding operator_at
follows-end level = record { stops = record { stops = λ o rest h. absurd (cc) }; no_call = refl }

pub not-past : (s : Sign) (t : Token) (z : List Token) → is_sign s t.what ≡ false → past s (t ∷ z) ≡ None
not-past s t z is = rw is refl

follows-separator : (level : ℕ) (t : Token) (z : List Token) → is_separator t.what ≡ true → Follows level (t ∷ z)
unfolding operator_at
follows-separator level t z is = record {
  stops = record { stops = λ o rest h. let none = separator-none t.what t.line z is in absurd (cc) };
  no_call = not-past sign.LeftRound t z (separator-closed t.what is);
}

not-round : (b : Bool) (t : Token) → is_sign sign.LeftRound t.what ≡ b → 1 ≤ token_level t.what → b ≡ false
not-round false t is positive = refl
not-round true t is positive =
    let none : token_level t.what ≡ 0 = ap token_level (is_sign-same sign.LeftRound t.what is) in absurd (omega arith)

follows-operator : (level : ℕ) (t : Token) (us z : List Token) (o : Operator) → IsOperator t us o → 1 ≤ level_of o → level_of o < level →
    Follows level (t ∷ (us ++ z))
follows-operator level t us z o is positive low = record {
  stops = record {
    stops = λ q rest h.
        let same = some_pair_parts o q z rest (sym (is.reads z) ∙ h) in subst (λ p. level_of p < level) same.0 low;
  };
  no_call = not-past sign.LeftRound t (us ++ z) (not-round (is_sign sign.LeftRound t.what) t refl (let level_is = is.level in omega arith));
}

-- The reading of derived tokens: they are read, and then what follows is gone on with.
pub record Completes (k : ℕ) (c : List Token) (e : Shape) : Type 0 where
  pub completes : (l m n : ℕ) (z : List Token) (r : Shape × List Token) → l ≤ k → Follows (right_level k) z → climb m (Rest l e) z ≡ Some r →
      m + 4 * length c ≤ n → climb n (Whole l) (c ++ z) ≡ Some r

-- a derived list before something that no operator begins
alone-read : (k n : ℕ) (c : List Token) (e : Shape) (z : List Token) → Completes k c e → Follows (right_level k) z → Stops k z → 1 + 4 * length c ≤ n →
    climb n (Whole k) (c ++ z) ≡ Some (e, z)
alone-read k n c e z ih follows stops enough = ih.completes k 1 n z (e, z) (omega arith) follows (rest-stops 1 k e z (omega arith) stops) enough

pub CompletesAll : Bracket → List Token → List Shape → Type 0
CompletesAll b c es = (n : ℕ) (fs : List Shape) (z : List Token) → 4 * length c ≤ n → climb n (Elements b fs) (c ++ z) ≡ Some (enclosed b (fs ++ es), z)

operand-of : ℕ → ℕ → List Token → Shape × List Token → Type 0
operand-of p l ts x = (s : Start) × (rest : List Token) × (start_at ts ≡ Some (s, rest)) × (operand (climb p) l (s, rest) ≡ Some x)

-- a primary is an operand at each level
record IsPrimary (c : List Token) (e : Shape) : Type 0 where
  some : 1 ≤ length c
  reads : (p l : ℕ) (z : List Token) → past sign.LeftRound z ≡ None → 4 * length c ≤ p + 2 → operand-of p l (c ++ z) (e, z)

primary-completes : (c : List Token) (e : Shape) → IsPrimary c e → Completes 12 c e
unfolding operand-of
primary-completes c e is = record {
  completes = λ l m n z r low follows tail enough.
      let some : 1 ≤ length c = is.some in
      let p = some-suc n (omega arith) in
      let q = some-suc p.0 (omega arith) in
      let o = is.reads q.0 l z follows.no_call (omega arith) in
      whole-by n p.0 l (c ++ z) z e r p.1
      (operand-by p.0 q.0 l (c ++ z) o.1 z o.0 e q.1 o.2 o.3)
      (climb-more m p.0 (Rest l e) z r (omega arith) tail);
}

closed-reads : (p : ℕ) (c : List Token) (t : Token) (e : Shape) (z : List Token) → Completes 1 c e → t.what ≡ what.Sign sign.RightRound →
    1 + 4 * length c ≤ p → closed (climb p) (c ++ t ∷ z) ≡ Some (e, z)
closed-reads p c t e z ih close enough =
    let apart : is_separator t.what ≡ true = ap is_separator close in
    let f = follows-separator (right_level 1) t z apart in
    let g = follows-separator 1 t z apart in
    bind-with (climb p (Whole 1) (c ++ t ∷ z)) (λ y. past sign.RightRound y.1 >>= λ rest. Some (y.0, rest)) (e, t ∷ z) (e, z)
    (alone-read 1 p c e (t ∷ z) ih f g.stops enough)
    (bind-with (past sign.RightRound (t ∷ z)) (λ rest. Some (e, rest)) z (e, z) (past-at sign.RightRound t z close) refl)

-- a beginning that isn't a name alone may stand before anything
pub no-leaf : (s : Start) (z : List Token) → is_leaf s ≡ false → is_leaf s ≡ true → past sign.LeftRound z ≡ None
no-leaf s z isnt is = absurd (cc)

leaf-primary : (us : List Token) (s : Start) (e : Shape) → IsStart us s →
    ((read : Climbs) (l : ℕ) (z : List Token) → operand read l (s, z) ≡ Some (e, z)) → IsPrimary us e
unfolding operand-of
leaf-primary us s e is reads = record {
  some = is.some;
  reads = λ p l z none enough. (s, z, is.reads z (λ leaf. none), reads (climb p) l z);
}

inside-primary : (us c : List Token) (t : Token) (e : Shape) → IsStart us Round → Completes 1 c e → t.what ≡ what.Sign sign.RightRound →
    IsPrimary (us ++ (c ++ t ∷ [])) e
unfolding operand-of
inside-primary us c t e is ih close =
    let size = length-append us (c ++ t ∷ []) in
    let inner_size = length-append c (t ∷ []) in
    let some : 1 ≤ length us = is.some in
    record {
      some = omega arith;
      reads = λ p l z none enough. (
        Round,
        c ++ t ∷ z,
        ap start_at (append_assoc us (c ++ t ∷ []) z ∙ ap (λ xs. us ++ xs) (append_assoc c (t ∷ []) z))
            ∙ is.reads (c ++ t ∷ z) (no-leaf Round (c ++ t ∷ z) refl),
        closed-reads p c t e z ih close (omega arith),
      );
    }

encloses-primary : (b : Bracket) (us c : List Token) (es : List Shape) → IsStart us (Open b) → CompletesAll b c es → IsPrimary (us ++ c) (enclosed b es)
unfolding operand-of CompletesAll
encloses-primary b us c es is ih =
    let size = length-append us c in
    let some : 1 ≤ length us = is.some in
    record {
      some = omega arith;
      reads = λ p l z none enough. (
        Open b,
        c ++ z,
        ap start_at (append_assoc us c z) ∙ is.reads (c ++ z) (no-leaf (Open b) (c ++ z) refl),
        ih p [] z (omega arith),
      );
    }

binds-primary : (line : ℕ) (q : Quantifier) (x : List ℕ) (n : ℕ) (us c : List Token) (m : Token) (vs d : List Token) (t : Token) (s e : Shape) →
    IsStart us (Bind line q x) → Completes 1 c s → IsMiddle q n m vs → Completes 1 d e → t.what ≡ what.Sign sign.RightRound →
    IsPrimary (us ++ (c ++ m ∷ (vs ++ (d ++ t ∷ [])))) (quantified line q x s n e)
unfolding operand-of
binds-primary line q x n us c m vs d t s e is set middle body close =
    let size = length-append us (c ++ m ∷ (vs ++ (d ++ t ∷ []))) in
    let size_c = length-append c (m ∷ (vs ++ (d ++ t ∷ []))) in
    let size_v = length-append vs (d ++ t ∷ []) in
    let size_d = length-append d (t ∷ []) in
    let some : 1 ≤ length us = is.some in
    record {
      some = omega arith;
      reads = λ p l z none enough.
          let after : List Token = m ∷ (vs ++ (d ++ t ∷ z)) in
          let rest : List Token = c ++ after in
          let f = follows-separator (right_level 1) m (vs ++ (d ++ t ∷ z)) middle.apart in
          let g = follows-separator 1 m (vs ++ (d ++ t ∷ z)) middle.apart in (
            Bind line q x,
            rest,
            ap start_at (sym (regroup_bound us c m vs d t z)) ∙ is.reads rest (no-leaf (Bind line q x) rest refl),
            bind-with (climb p (Whole 1) rest) (λ y. middle_at q y.1 >>= λ k. closed (climb p) k.1 >>= λ w. Some (quantified line q x y.0 k.0 w.0, w.1))
                (s, after) (quantified line q x s n e, z) (alone-read 1 p c s after set f g.stops (omega arith))
                (bind-with (middle_at q after) (λ k. closed (climb p) k.1 >>= λ w. Some (quantified line q x s k.0 w.0, w.1))
                (n, d ++ t ∷ z) (quantified line q x s n e, z) (middle.reads (d ++ t ∷ z))
                (bind-with (closed (climb p) (d ++ t ∷ z)) (λ w. Some (quantified line q x s n w.0, w.1)) (e, z) (quantified line q x s n e, z)
                (closed-reads p d t e z body close (omega arith)) refl)),
          );
    }

if-high : (b : Bool) (k : ℕ) → k ≤ (if b then k else suc k)
if-high true k = omega arith
if-high false k = omega arith

right_level-high : (k : ℕ) → k ≤ right_level k
right_level-high k = if-high (is_right_level k || is_prefix_level k) k

down-completes : (k : ℕ) (c : List Token) (e : Shape) → Completes (suc k) c e → Completes k c e
down-completes k c e ih = record {
  completes = λ l m n z r low follows tail enough.
      let lower_bound = right_level-low k in
      let upper_bound = right_level-high (suc k) in
      ih.completes l m n z r (omega arith) (follows-weaker (right_level k) (right_level (suc k)) z (omega arith) follows) tail enough;
}

joins-completes : (line : ℕ) (op : Infix) (a : List Token) (t : Token) (us b : List Token) (e f : Shape) →
    Completes (left_level (infix_level op)) a e → IsOperator t us (Binary line op) → Completes (right_level (infix_level op)) b f →
    Completes (infix_level op) (a ++ t ∷ (us ++ b)) (joined line op e f)
joins-completes line op a t us b e f left is right = record {
  completes = λ l m n z r low follows tail enough.
      let level = infix_is_level op in
      let lv : ℕ = infix_level op in
      let size = length-append a (t ∷ (us ++ b)) in
      let size_b = length-append us b in
      let p : ℕ = m + 4 * length us + 4 * length b + 3 in
      let right_read : climb p (Whole (right_level lv)) (b ++ z) ≡ Some (f, z) =
      alone-read (right_level lv) p b f z right (follows-weaker (right_level lv) (right_level (right_level lv)) z level.again follows)
      follows.stops (omega arith) in
      let joined_read : joins (climb p) l e (Binary line op, b ++ z) ≡ Some r =
      bind-with (climb p (Whole (right_level lv)) (b ++ z)) (λ y. climb p (Rest l (joined line op e y.0)) y.1) (f, z) r right_read
      (climb-more m p (Rest l (joined line op e f)) z r (omega arith) tail) in
      let rest_read : climb (suc p) (Rest l e) (t ∷ (us ++ (b ++ z))) ≡ Some r =
      rest-by (suc p) p l e t us (b ++ z) (Binary line op) r refl is low joined_read in
      subst (λ ts. climb n (Whole l) ts ≡ Some r) (sym (regroup_front a t us b z))
      (left.completes l (suc p) n (t ∷ (us ++ (b ++ z))) r (omega (arith, level.left))
      (follows-operator (right_level (left_level lv)) t us (b ++ z) (Binary line op) is level.low level.stops) rest_read (omega arith));
}

picks-completes : (line : ℕ) (x : List ℕ) (a : List Token) (t : Token) (us : List Token) (e : Shape) →
    Completes 11 a e → IsOperator t us (Field line x) → Completes 11 (a ++ t ∷ us) (pick line e x)
picks-completes line x a t us e left is = record {
  completes = λ l m n z r low follows tail enough.
      let size = length-append a (t ∷ us) in
      let rest_read : climb (suc m) (Rest l e) (t ∷ (us ++ z)) ≡ Some r = rest-by (suc m) m l e t us z (Field line x) r refl is low tail in
      subst (λ ts. climb n (Whole l) ts ≡ Some r) (sym (append_assoc a (t ∷ us) z))
      (left.completes l (suc m) n (t ∷ (us ++ z)) r low
      (follows-operator 12 t us z (Field line x) is (omega arith) (omega arith)) rest_read (omega arith));
}

behind-completes : (p : Prefix) (us c : List Token) (e : Shape) → IsStart us (Before p) → Completes (prefix_level p) c e →
    Completes (prefix_level p) (us ++ c) (prefixed p e)
behind-completes p us c e is ih = record {
  completes = λ l m n z r low follows tail enough.
      let size = length-append us c in
      let some : 1 ≤ length us = is.some in
      let one = some-suc n (omega arith) in
      let two = some-suc one.0 (omega arith) in
      let stops : Stops (prefix_level p) z = subst (λ k. Stops k z) (prefix_low p).3 follows.stops in
      let inner : climb two.0 (Whole (prefix_level p)) (c ++ z) ≡ Some (e, z) =
      alone-read (prefix_level p) two.0 c e z ih follows stops (omega arith) in
      let start : start_at ((us ++ c) ++ z) ≡ Some (Before p, c ++ z) =
      ap start_at (append_assoc us c z) ∙ is.reads (c ++ z) (no-leaf (Before p) (c ++ z) refl) in
      whole-by n one.0 l ((us ++ c) ++ z) z (prefixed p e) r one.1
      (operand-by one.0 two.0 l ((us ++ c) ++ z) (c ++ z) z (Before p) (prefixed p e) two.1 start
      (if-true (nat_le l (prefix_level p)) (climb two.0 (Whole (prefix_level p)) (c ++ z) >>= λ y. Some (prefixed p y.0, y.1)) None
      (Some (prefixed p e, z)) (le-leb l (prefix_level p) low)
      (bind-with (climb two.0 (Whole (prefix_level p)) (c ++ z)) (λ y. Some (prefixed p y.0, y.1)) (e, z) (prefixed p e, z) inner refl)))
      (climb-more m one.0 (Rest l (prefixed p e)) z r (omega arith) tail);
}

last-completes : (b : Bracket) (c : List Token) (t : Token) (e : Shape) → Completes 1 c e → t.what ≡ what.Sign (closing b) → CompletesAll b (c ++ t ∷ []) (e ∷ [])
unfolding CompletesAll
last-completes b c t e ih close n fs z enough =
    let size = length-append c (t ∷ []) in
    let p = some-suc n (omega arith) in
    let closes = closing_closes b in
    let apart : is_separator t.what ≡ true = ap is_separator close ∙ closes.apart in
    let f = follows-separator (right_level 1) t z apart in
    let g = follows-separator 1 t z apart in
    let no_comma : past sign.Comma (t ∷ z) ≡ None = not-past sign.Comma t z (ap (is_sign sign.Comma) close ∙ closes.no_comma) in
    subst (λ ts. climb n (Elements b fs) ts ≡ Some (enclosed b (fs ++ e ∷ []), z)) (sym (append_assoc c (t ∷ []) z))
    (climb-by n p.0 (Elements b fs) (c ++ t ∷ z) (enclosed b (fs ++ e ∷ []), z) p.1
    (bind-with (climb p.0 (Whole 1) (c ++ t ∷ z)) (λ y. elements_of (climb p.0) b (fs ++ y.0 ∷ []) y.1 (past sign.Comma y.1)) (e, t ∷ z)
    (enclosed b (fs ++ e ∷ []), z) (alone-read 1 p.0 c e (t ∷ z) ih f g.stops (omega arith))
    (ap (elements_of (climb p.0) b (fs ++ e ∷ []) (t ∷ z)) no_comma
    ∙ bind-with (past (closing b) (t ∷ z)) (λ rest. Some (enclosed b (fs ++ e ∷ []), rest)) z (enclosed b (fs ++ e ∷ []), z)
    (past-at (closing b) t z close) refl)))

more-completes : (b : Bracket) (c : List Token) (t : Token) (d : List Token) (e : Shape) (es : List Shape) → Completes 1 c e →
    t.what ≡ what.Sign sign.Comma → CompletesAll b d es → CompletesAll b (c ++ t ∷ d) (e ∷ es)
unfolding CompletesAll
more-completes b c t d e es ih comma ihs n fs z enough =
    let size = length-append c (t ∷ d) in
    let p = some-suc n (omega arith) in
    let apart : is_separator t.what ≡ true = ap is_separator comma in
    let f = follows-separator (right_level 1) t (d ++ z) apart in
    let g = follows-separator 1 t (d ++ z) apart in
    subst (λ ts. climb n (Elements b fs) ts ≡ Some (enclosed b (fs ++ e ∷ es), z)) (sym (append_assoc c (t ∷ d) z))
    (climb-by n p.0 (Elements b fs) (c ++ t ∷ (d ++ z)) (enclosed b (fs ++ e ∷ es), z) p.1
    (bind-with (climb p.0 (Whole 1) (c ++ t ∷ (d ++ z))) (λ y. elements_of (climb p.0) b (fs ++ y.0 ∷ []) y.1 (past sign.Comma y.1)) (e, t ∷ (d ++ z))
    (enclosed b (fs ++ e ∷ es), z) (alone-read 1 p.0 c e (t ∷ (d ++ z)) ih f g.stops (omega arith))
    (ap (elements_of (climb p.0) b (fs ++ e ∷ []) (t ∷ (d ++ z))) (past-at sign.Comma t (d ++ z) comma)
    ∙ ihs p.0 (fs ++ e ∷ []) z (omega arith)
    ∙ ap (λ gs. Some (enclosed b gs, z)) (append_assoc fs (e ∷ []) es))))

mutual
  unfolding CompletesAll

  pub derived-completes : (k : ℕ) (c : List Token) (e : Shape) → Derives k c e → Completes k c e
  derived-completes _ _ _ (down k c e high d) = down-completes k c e (derived-completes (suc k) c e d)
  derived-completes _ _ _ (rules.joins line op a t us b e f da o db) =
      joins-completes line op a t us b e f (derived-completes (left_level (infix_level op)) a e da) o (derived-completes (right_level (infix_level op)) b f db)
  derived-completes _ _ _ (picks line x a t us e d o) = picks-completes line x a t us e (derived-completes 11 a e d) o
  derived-completes _ _ _ (behind p us c e is d) = behind-completes p us c e is (derived-completes (prefix_level p) c e d)
  derived-completes _ _ _ (alone line a us is) =
      primary-completes us (leaf line a) (leaf-primary us (Leaf line a) (leaf line a) is (λ read l z. refl))
  derived-completes _ _ _ (inside us c t e is d close) =
      primary-completes (us ++ (c ++ t ∷ [])) e (inside-primary us c t e is (derived-completes 1 c e d) close)
  derived-completes _ _ _ (encloses b us c es is ds) =
      primary-completes (us ++ c) (enclosed b es) (encloses-primary b us c es is (all-completes b (closing b) c es refl ds))
  derived-completes _ _ _ (binds line q x n us c m vs d t s e is ds middle de close) =
      primary-completes (us ++ (c ++ m ∷ (vs ++ (d ++ t ∷ [])))) (quantified line q x s n e)
      (binds-primary line q x n us c m vs d t s e is (derived-completes 1 c s ds) middle (derived-completes 1 d e de) close)

  pub all-completes : (b : Bracket) (s : Sign) (c : List Token) (es : List Shape) → s ≡ closing b → DerivesAll s c es → CompletesAll b c es
  all-completes b _ _ _ is (last s c t e d close) = last-completes b c t e (derived-completes 1 c e d) (close ∙ ap what.Sign is)
  all-completes b _ _ _ is (and_more s c t d e es dc comma ds) =
      more-completes b c t d e es (derived-completes 1 c e dc) comma (all-completes b s d es is ds)
