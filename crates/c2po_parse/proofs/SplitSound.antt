use Rattle.std.proofs.Common.{◌≡◌, ℕ, zero, suc, ◌<◌, ◌≤◌, Bool, true, false, List, [], ◌∷◌, ◌++◌, refl, ap, sym, ◌∙◌, subst, arith, Option, Some, None, nat_eq, nat_le, if◌then◌else◌, inl, inr}
use Rattle.std.proofs.lemmas.Bool.{eqb-true, leb-true, leb-false}
use Rattle.std.proofs.lemmas.List.{append-nil}
use Rattle.std.proofs.lemmas.Option.{same_Some}
use Rattle.c2po_lexer.specs.declared.token.Sign.{Sign}
use Rattle.c2po_lexer.specs.declared.token.Sign.TheVariants as sign
use Rattle.c2po_lexer.specs.declared.token.What.TheVariants as what
use Rattle.c2po_lexer.specs.declared.token.Token.{Token}
use Rattle.c2po_parse.specs.declared.operator.Operator.{Operator}
use Rattle.c2po_parse.specs.declared.operator.Operator.TheVariants.{Binary, Field}
use Rattle.c2po_parse.specs.declared.operator.Start.{Start}
use Rattle.c2po_parse.specs.declared.operator.Start.TheVariants.{Leaf, Before, Round, Open, Bind}
use Rattle.c2po_ast.specs.Shape.{Shape, pick}
use Rattle.c2po_parse.specs.Tokens.{is_sign, token_level, level_after, left_level, right_level, is_prefix_level, is_right_level}
use Rattle.c2po_ast.specs.Parts.{joined, prefixed, enclosed, quantified, leaf}
use Rattle.c2po_parse.specs.Fronts.{◌>>=◌, past, operator_at, start_at, middle_at, infix_level, level_of, prefix_level, closing}
use Rattle.c2po_parse.specs.Splitting.{Cut, has_level, ends_expression, cut_first, cut_last, split_at, cut_inside, ReadsLevel, ReadsAll, at_end, sides, at_operators, at_prefixes, block, primary, split_step, more_or_end, elements_step, tree_within, trees_within}
use Rattle.c2po_parse.proofs.Walks.{bind-some, if-cases, Rejoins, cut_first-rejoins, cut_last-rejoins}
use Rattle.c2po_parse.proofs.Heads.{past-begins}
use Rattle.c2po_parse.proofs.Operators.{IsOperator, operator_at-front}
use Rattle.c2po_parse.proofs.Starts.{start_at-front, middle_at-front}
use Rattle.c2po_parse.proofs.Rules.{Derives, DerivesAll, down, joins, picks, behind, alone, inside, encloses, binds, last, and_more, infix_is_level}

-- What splitting finds follows the rules.

-- where nothing is left
pub at_end-is : {A : Type 0} (a r : A) (ts : List Token) → at_end a ts ≡ Some r → (a ≡ r) × (ts ≡ [])
at_end-is a r [] h = (same_Some a r h, refl)
at_end-is a r (t ∷ ts) h = absurd (cc)

-- what is known of a reader of levels
pub record Sound (read : ReadsLevel) : Type 0 where
  pub derives : (k : ℕ) (ts : List Token) (e : Shape) → 1 ≤ k → k ≤ 12 → read k ts ≡ Some e → Derives k ts e

pub record SoundAll (read_all : ReadsAll) : Type 0 where
  pub derives : (s : Sign) (ts : List Token) (es : List Shape) → read_all s ts ≡ Some es → DerivesAll s ts es

minus-or : (b : Bool) (n k : ℕ) → 1 ≤ k → (if b then 0 else n) ≡ k → n ≡ k
minus-or true n k low h = absurd (omega arith)
minus-or false n k low h = h

-- a token that is an operator of a level after some token is one after an operand
level-operator : (k : ℕ) (a : Bool) (t : Token) (us : List Token) (o : Operator) → 1 ≤ k → has_level k a t ≡ true → IsOperator t us o → level_of o ≡ k
level-operator k true t us o low h is = sym is.level ∙ eqb-true (token_level t.what) k h
level-operator k false t us o low h is =
    sym is.level ∙ minus-or (is_sign sign.Minus t.what) (token_level t.what) k low (eqb-true (level_after false t.what) k h)

-- the two sides of an operator
sides-sound : (read : ReadsLevel) (k : ℕ) (left : List Token) (t : Token) (us right : List Token) (o : Operator) (e : Shape) → Sound read →
    level_of o ≡ k → IsOperator t us o → sides read k left (o, right) ≡ Some e → Derives k (left ++ t ∷ (us ++ right)) e
sides-sound read k left t us right (Binary line op) e ih level is h =
    let l = infix_is_level op in
    let h' : sides read (infix_level op) left (Binary line op, right) ≡ Some e = subst (λ n. sides read n left (Binary line op, right) ≡ Some e) (sym level) h in
    let p = bind-some (read (left_level (infix_level op)) left) (λ x. read (right_level (infix_level op)) right >>= λ y. Some (joined line op x y)) e h' in
    let q = bind-some (read (right_level (infix_level op)) right) (λ y. Some (joined line op p.0 y)) e p.2 in
    let whole : Derives (infix_level op) (left ++ t ∷ (us ++ right)) (joined line op p.0 q.0) =
    joins line op left t us right p.0 q.0
    (ih.derives (left_level (infix_level op)) left p.0 (omega (arith, l.low, l.left)) l.left_high p.1) is
    (ih.derives (right_level (infix_level op)) right q.0 (omega (arith, l.low, l.right)) l.right_high q.1) in
    subst (λ n. Derives n (left ++ t ∷ (us ++ right)) e) level
    (subst (Derives (infix_level op) (left ++ t ∷ (us ++ right))) (same_Some (joined line op p.0 q.0) e q.2) whole)
sides-sound read k left t us right (Field line x) e ih level is h =
    let h' : sides read 11 left (Field line x, right) ≡ Some e = subst (λ n. sides read n left (Field line x, right) ≡ Some e) (sym level) h in
    let p = bind-some (read 11 left) (λ y. at_end (pick line y x) right) e h' in
    let q = at_end-is (pick line p.0 x) e right p.2 in
    let whole : Derives 11 (left ++ t ∷ us) (pick line p.0 x) =
    picks line x left t us p.0 (ih.derives 11 left p.0 (omega arith) (omega arith) p.1) is in
    subst (λ n. Derives n (left ++ t ∷ (us ++ right)) e) level
    (subst (λ r. Derives 11 (left ++ t ∷ (us ++ r)) e) (sym q.1)
    (subst (λ r. Derives 11 (left ++ t ∷ r) e) (sym (append-nil us))
    (subst (Derives 11 (left ++ t ∷ us)) q.0 whole)))

split_at-rejoins : (k : ℕ) (ts : List Token) (c : Cut) → split_at k ts ≡ Some c → Rejoins (has_level k) ts c
split_at-rejoins k ts c h = elim (if-cases (is_right_level k) (cut_first (has_level k) false 0 ts) (cut_last (has_level k) false 0 ts) (Some c) h) [
  | inl p ↦ cut_first-rejoins (has_level k) false 0 ts c p.1
  | inr p ↦ cut_last-rejoins (has_level k) false 0 ts c p.1
]

operators-sound : (read : ReadsLevel) (k : ℕ) (ts : List Token) (v : Option Cut) (e : Shape) → Sound read → 1 ≤ k → k < 12 → split_at k ts ≡ v →
    at_operators read k ts v ≡ Some e → Derives k ts e
operators-sound read k ts None e ih low high is h = down k ts e high (ih.derives (suc k) ts e (omega arith) (omega arith) h)
operators-sound read k ts (Some c) e ih low high is h =
    let p = bind-some (operator_at c.1) (λ o. sides read k c.0 o) e h in
    let front = operator_at-front c.1 p.0.0 p.0.1 p.1 in
    let cut = split_at-rejoins k ts c is in
    let same : ◌≡◌ {A = List Token} (cut.at ∷ cut.rest) (front.at ∷ (front.front ++ p.0.1)) = sym cut.begins ∙ front.joined in
    let at : cut.at ≡ front.at = cc in
    let level = level-operator k cut.after front.at front.front p.0.0 low (subst (λ t. has_level k cut.after t ≡ true) at cut.passes) front.is in
    subst (λ us. Derives k us e) (sym (cut.joined ∙ ap (λ us. c.0 ++ us) front.joined))
    (sides-sound read k c.0 front.at front.front p.0.1 p.0.0 e ih level front.is p.2)

-- a prefix is taken off, or the next level is read
next-sound : (read : ReadsLevel) (k : ℕ) (ts : List Token) (e : Shape) → Sound read → 1 ≤ k → k < 12 → read (suc k) ts ≡ Some e → Derives k ts e
next-sound read k ts e ih low high h = down k ts e high (ih.derives (suc k) ts e (omega arith) (omega arith) h)

some-prefix-sound : (read : ReadsLevel) (k : ℕ) (ts : List Token) (s : Start) (rest : List Token) (e : Shape) → Sound read → 1 ≤ k → k < 12 →
    start_at ts ≡ Some (s, rest) → at_prefixes read k ts (Some (s, rest)) ≡ Some e → Derives k ts e
some-prefix-sound read k ts (Before p) rest e ih low high is h =
    elim (if-cases (nat_eq (prefix_level p) k) (read k rest >>= λ x. Some (prefixed p x)) (read (suc k) ts) (Some e) h) [
      | inl c ↦
          let level : prefix_level p ≡ k = eqb-true (prefix_level p) k c.0 in
          let q = bind-some (read k rest) (λ x. Some (prefixed p x)) e c.1 in
          let front = start_at-front ts (Before p) rest is in
          let inner : Derives (prefix_level p) rest q.0 = subst (λ n. Derives n rest q.0) (sym level) (ih.derives k rest q.0 low (omega arith) q.1) in
          let whole : Derives (prefix_level p) (front.front ++ rest) (prefixed p q.0) = behind p front.front rest q.0 front.is inner in
          subst (λ us. Derives k us e) (sym front.joined)
          (subst (λ n. Derives n (front.front ++ rest) e) level
          (subst (Derives (prefix_level p) (front.front ++ rest)) (same_Some (prefixed p q.0) e q.2) whole))
      | inr c ↦ next-sound read k ts e ih low high c.1
    ]
some-prefix-sound read k ts _ rest e ih low high is h = next-sound read k ts e ih low high h

prefixes-sound : (read : ReadsLevel) (k : ℕ) (ts : List Token) (v : Option (Start × List Token)) (e : Shape) → Sound read → 1 ≤ k → k < 12 →
    start_at ts ≡ v → at_prefixes read k ts v ≡ Some e → Derives k ts e
prefixes-sound read k ts None e ih low high is h = next-sound read k ts e ih low high h
prefixes-sound read k ts (Some s) e ih low high is h = some-prefix-sound read k ts s.0 s.1 e ih low high is h

-- an expression and its `)`
record IsBlock (ts : List Token) (e : Shape) : Type 0 where
  inner : List Token
  close : Token
  is : close.what ≡ what.Sign sign.RightRound
  joined : ts ≡ inner ++ close ∷ []
  derives : Derives 1 inner e

block-sound : (read : ReadsLevel) (ts : List Token) (e : Shape) → Sound read → block read ts ≡ Some e → IsBlock ts e
block-sound read ts e ih h =
    let c = bind-some (cut_inside ts) (λ c. past sign.RightRound c.1 >>= λ rest. read 1 c.0 >>= λ x. at_end x rest) e h in
    let r = bind-some (past sign.RightRound c.0.1) (λ rest. read 1 c.0.0 >>= λ x. at_end x rest) e c.2 in
    let x = bind-some (read 1 c.0.0) (λ x. at_end x r.0) e r.2 in
    let close = past-begins sign.RightRound c.0.1 r.0 r.1 in
    let cut = cut_first-rejoins ends_expression false 0 ts c.0 c.1 in
    let end = at_end-is x.0 e r.0 x.2 in
    record {
      inner = c.0.0;
      close = close.at;
      is = close.is;
      joined = cut.joined ∙ ap (λ us. c.0.0 ++ us) (close.joined ∙ ap (λ us. close.at ∷ us) end.1);
      derives = subst (Derives 1 c.0.0) end.0 (ih.derives 1 c.0.0 x.0 (omega arith) (omega arith) x.1);
    }

primary-sound : (read : ReadsLevel) (read_all : ReadsAll) (ts : List Token) (s : Start) (rest : List Token) (e : Shape) → Sound read → SoundAll read_all →
    start_at ts ≡ Some (s, rest) → primary read read_all (s, rest) ≡ Some e → Derives 12 ts e
primary-sound read read_all ts (Leaf line a) rest e ih ihs is h =
    let front = start_at-front ts (Leaf line a) rest is in
    let end = at_end-is (leaf line a) e rest h in
    subst (λ us. Derives 12 us e) (sym (front.joined ∙ ap (λ us. front.front ++ us) end.1 ∙ append-nil front.front))
    (subst (Derives 12 front.front) end.0 (alone line a front.front front.is))
primary-sound read read_all ts (Before p) rest e ih ihs is h = absurd (cc)
primary-sound read read_all ts Round rest e ih ihs is h =
    let front = start_at-front ts Round rest is in
    let b = block-sound read rest e ih h in
    subst (λ us. Derives 12 us e) (sym (front.joined ∙ ap (λ us. front.front ++ us) b.joined))
    (inside front.front b.inner b.close e front.is b.derives b.is)
primary-sound read read_all ts (Open b) rest e ih ihs is h =
    let front = start_at-front ts (Open b) rest is in
    let p = bind-some (read_all (closing b) rest) (λ es. Some (enclosed b es)) e h in
    subst (λ us. Derives 12 us e) (sym front.joined)
    (subst (Derives 12 (front.front ++ rest)) (same_Some (enclosed b p.0) e p.2)
    (encloses b front.front rest p.0 front.is (ihs.derives (closing b) rest p.0 p.1)))
primary-sound read read_all ts (Bind line q x) rest e ih ihs is h =
    let front = start_at-front ts (Bind line q x) rest is in
    let c = bind-some (cut_inside rest) (λ c. middle_at q c.1 >>= λ m. read 1 c.0 >>= λ s. block read m.1 >>= λ y. Some (quantified line q x s m.0 y)) e h in
    let m = bind-some (middle_at q c.0.1) (λ m. read 1 c.0.0 >>= λ s. block read m.1 >>= λ y. Some (quantified line q x s m.0 y)) e c.2 in
    let s = bind-some (read 1 c.0.0) (λ s. block read m.0.1 >>= λ y. Some (quantified line q x s m.0.0 y)) e m.2 in
    let y = bind-some (block read m.0.1) (λ y. Some (quantified line q x s.0 m.0.0 y)) e s.2 in
    let cut = cut_first-rejoins ends_expression false 0 rest c.0 c.1 in
    let middle = middle_at-front q m.0.0 c.0.1 m.0.1 m.1 in
    let b = block-sound read m.0.1 y.0 ih y.1 in
    subst (λ us. Derives 12 us e)
    (sym (front.joined ∙ ap (λ us. front.front ++ us)
    (cut.joined ∙ ap (λ us. c.0.0 ++ us) (middle.joined ∙ ap (λ us. middle.at ∷ (middle.front ++ us)) b.joined))))
    (subst (Derives 12 (front.front ++ (c.0.0 ++ middle.at ∷ (middle.front ++ (b.inner ++ b.close ∷ [])))))
    (same_Some (quantified line q x s.0 m.0.0 y.0) e y.2)
    (binds line q x m.0.0 front.front c.0.0 middle.at middle.front b.inner b.close s.0 y.0 front.is
    (ih.derives 1 c.0.0 s.0 (omega arith) (omega arith) s.1) middle.is b.derives b.is))

step-sound : (read : ReadsLevel) (read_all : ReadsAll) (k : ℕ) (ts : List Token) (e : Shape) → Sound read → SoundAll read_all → 1 ≤ k → k ≤ 12 →
    split_step read read_all k ts ≡ Some e → Derives k ts e
step-sound read read_all k ts e ih ihs low high h =
    elim (if-cases (nat_le 12 k) (start_at ts >>= λ s. primary read read_all s)
    (if is_prefix_level k then at_prefixes read k ts (start_at ts) else at_operators read k ts (split_at k ts)) (Some e) h) [
      | inl p ↦
          let s = bind-some (start_at ts) (λ s. primary read read_all s) e p.1 in
          let level : 12 ≤ k = leb-true 12 k p.0 in
          let is_12 : 12 ≡ k = omega arith in
          subst (λ n. Derives n ts e) is_12 (primary-sound read read_all ts s.0.0 s.0.1 e ih ihs s.1 s.2)
      | inr p ↦
          let lower : k < 12 = leb-false 12 k p.0 in
          elim (if-cases (is_prefix_level k) (at_prefixes read k ts (start_at ts)) (at_operators read k ts (split_at k ts)) (Some e) p.1) [
            | inl q ↦ prefixes-sound read k ts (start_at ts) e ih low lower refl q.1
            | inr q ↦ operators-sound read k ts (split_at k ts) e ih low lower refl q.1
          ]
    ]

elements-sound : (read : ReadsLevel) (read_all : ReadsAll) (s : Sign) (e : Shape) (a ts : List Token) (es : List Shape) (v : Option (List Token)) →
    SoundAll read_all → Derives 1 a e → past sign.Comma ts ≡ v → more_or_end read_all s e ts v ≡ Some es → DerivesAll s (a ++ ts) es
elements-sound read read_all s e a ts es (Some rest) ihs d is h =
    let p = bind-some (read_all s rest) (λ fs. Some (e ∷ fs)) es h in
    let comma = past-begins sign.Comma ts rest is in
    subst (λ us. DerivesAll s (a ++ us) es) (sym comma.joined)
    (subst (DerivesAll s (a ++ comma.at ∷ rest)) (same_Some (e ∷ p.0) es p.2)
    (and_more s a comma.at rest e p.0 d comma.is (ihs.derives s rest p.0 p.1)))
elements-sound read read_all s e a ts es None ihs d is h =
    let p = bind-some (past s ts) (λ rest. at_end (e ∷ []) rest) es h in
    let close = past-begins s ts p.0 p.1 in
    let end = at_end-is (e ∷ []) es p.0 p.2 in
    subst (λ us. DerivesAll s (a ++ us) es) (sym (close.joined ∙ ap (λ us. close.at ∷ us) end.1))
    (subst (DerivesAll s (a ++ close.at ∷ [])) end.0 (last s a close.at e d close.is))

steps-sound : (read : ReadsLevel) (read_all : ReadsAll) (s : Sign) (ts : List Token) (es : List Shape) → Sound read → SoundAll read_all →
    elements_step read read_all s ts ≡ Some es → DerivesAll s ts es
steps-sound read read_all s ts es ih ihs h =
    let c = bind-some (cut_inside ts) (λ c. read 1 c.0 >>= λ e. more_or_end read_all s e c.1 (past sign.Comma c.1)) es h in
    let e = bind-some (read 1 c.0.0) (λ e. more_or_end read_all s e c.0.1 (past sign.Comma c.0.1)) es c.2 in
    let cut = cut_first-rejoins ends_expression false 0 ts c.0 c.1 in
    subst (λ us. DerivesAll s us es) (sym cut.joined)
    (elements-sound read read_all s e.0 c.0.0 c.0.1 es (past sign.Comma c.0.1) ihs
    (ih.derives 1 c.0.0 e.0 (omega arith) (omega arith) e.1) refl e.2)

mutual
  unfolding tree_within trees_within

  pub tree-sound : (n : ℕ) → Sound (tree_within n)
  tree-sound zero = record { derives = λ k ts e low high h. absurd (cc) }
  tree-sound (suc n) = record { derives = λ k ts e low high h. step-sound (tree_within n) (trees_within n) k ts e (tree-sound n) (trees-sound n) low high h }

  pub trees-sound : (n : ℕ) → SoundAll (trees_within n)
  trees-sound zero = record { derives = λ s ts es h. absurd (cc) }
  trees-sound (suc n) = record { derives = λ s ts es h. steps-sound (tree_within n) (trees_within n) s ts es (tree-sound n) (trees-sound n) h }
