use Rattle.std.proofs.Common.{◌≡◌, ℕ, zero, suc, ◌+◌, ◌<◌, ◌≤◌, Bool, true, false, List, [], ◌∷◌, ◌++◌, refl, ap, sym, ◌∙◌, subst, arith, Option, Some, None, nat_le, ◌-◌, ◌||◌, if◌then◌else◌, inl, inr, append_assoc}
use Rattle.std.proofs.lemmas.Bool.{leb-true, leb-false}
use Rattle.std.proofs.lemmas.Option.{some_pair_parts}
use Rattle.std.proofs.lemmas.List.{append-nil}
use Rattle.c2po_lexer.specs.declared.token.Sign.TheVariants as sign
use Rattle.c2po_lexer.specs.declared.token.What.TheVariants as what
use Rattle.c2po_lexer.specs.declared.token.Token.{Token}
use Rattle.mltl_base.specs.declared.operators.ArithOp.TheVariants as arith_op
use Rattle.mltl_base.specs.declared.operators.LogicOp.TheVariants as logic_op
use Rattle.c2po_ast.specs.declared.operator.Infix.{Infix}
use Rattle.c2po_ast.specs.declared.operator.Infix.TheVariants.{Logic, Between, Compare, Arith}
use Rattle.c2po_parse.specs.declared.operator.Operator.{Operator}
use Rattle.c2po_parse.specs.declared.operator.Operator.TheVariants.{Binary, Field}
use Rattle.c2po_ast.specs.declared.operator.Bracket.{Bracket}
use Rattle.c2po_parse.specs.declared.operator.Start.{Start}
use Rattle.c2po_parse.specs.declared.operator.Start.TheVariants.{Leaf, Before, Round, Open, Bind}
use Rattle.c2po_ast.specs.Shape.{Shape, pick}
use Rattle.c2po_parse.specs.Tokens.{left_level, right_level, is_prefix_level, is_right_level}
use Rattle.c2po_ast.specs.Parts.{joined, prefixed, enclosed, quantified, leaf}
use Rattle.c2po_parse.specs.Fronts.{◌>>=◌, past, operator_at, start_at, middle_at, infix_level, level_of, prefix_level, closing}
use Rattle.c2po_parse.specs.Climbing.{Whole, Operand, Rest, Elements, Climbs, closed, operand, joins, climbed, elements_of, climb_step, climb}
use Rattle.c2po_parse.proofs.Walks.{bind-some, if-cases}
use Rattle.c2po_parse.proofs.Heads.{past-begins}
use Rattle.c2po_parse.proofs.Operators.{IsOperator, operator_at-front}
use Rattle.c2po_parse.proofs.Starts.{start_at-front, middle_at-front}
use Rattle.c2po_parse.proofs.Rules as rules
use Rattle.c2po_parse.proofs.Rules.{Derives, DerivesAll, down, picks, behind, alone, inside, encloses, binds, last, and_more, infix_is_level, prefix_low}

-- What climbing reads follows the rules.

-- no operator of the level or above stands at the front
pub record Stops (level : ℕ) (ts : List Token) : Type 0 where
  pub stops : (o : Operator) (rest : List Token) → operator_at ts ≡ Some (o, rest) → level_of o < level

pub operator-high : (o : Operator) → level_of o < 12
operator-high (Binary line op) = let l = infix_is_level op in omega (arith, l.high)
operator-high (Field line x) = omega arith

pub stops-high : (level : ℕ) (ts : List Token) → 12 ≤ level → Stops level ts
stops-high level ts high = record { stops = λ o rest h. omega (arith, operator-high o) }

-- a tree of a tighter level is one of a looser level
pub lower : (j l : ℕ) (c : List Token) (e : Shape) → l + j ≤ 12 → Derives (l + j) c e → Derives l c e
lower zero l c e high d = subst (λ k. Derives k c e) (let same : l + zero ≡ l = omega arith in same) d
lower (suc j) l c e high d =
    let same : l + suc j ≡ suc l + j = omega arith in
    down l c e (omega arith) (lower j (suc l) c e (omega arith) (subst (λ k. Derives k c e) same d))

pub to_level : (l k : ℕ) (c : List Token) (e : Shape) → l ≤ k → k ≤ 12 → Derives k c e → Derives l c e
to_level l k c e low high d =
    let same : k ≡ l + (k - l) = omega arith in
    lower (k - l) l c e (omega arith) (subst (λ n. Derives n c e) same d)

if-low : (b : Bool) (k : ℕ) → (if b then k else suc k) ≤ suc k
if-low true k = omega arith
if-low false k = omega arith

pub right_level-low : (k : ℕ) → right_level k ≤ suc k
right_level-low k = if-low (is_right_level k || is_prefix_level k) k

implies-fits : (k : ℕ) → 2 < right_level k → 3 ≤ k
implies-fits (suc (suc (suc k))) h = omega arith
implies-fits _ h = absurd (omega arith)

-- an operator that may follow a tree of level k takes it as its left operand
left-fits : (op : Infix) (k : ℕ) → infix_level op < right_level k → left_level (infix_level op) ≤ k
left-fits (Logic logic_op.Implies) k h = implies-fits k h
left-fits (Arith arith_op.Add) k h = let r = right_level-low k in omega arith
left-fits _ k h = let r = right_level-low k in omega arith

-- what each goal has read
pub record WholeRead (l : ℕ) (ts : List Token) (e : Shape) (z : List Token) : Type 0 where
  pub tokens : List Token
  pub joined : ts ≡ tokens ++ z
  pub derives : Derives l tokens e
  pub stops : Stops l z

pub record OperandRead (l : ℕ) (ts : List Token) (e : Shape) (z : List Token) : Type 0 where
  pub level : ℕ
  pub low : l ≤ level
  pub high : level ≤ 12
  pub tokens : List Token
  pub joined : ts ≡ tokens ++ z
  pub derives : Derives level tokens e
  pub stops : Stops (right_level level) z

pub record RestRead (l : ℕ) (b ts : List Token) (e : Shape) (z : List Token) : Type 0 where
  pub tokens : List Token
  pub joined : ts ≡ tokens ++ z
  pub derives : Derives l (b ++ tokens) e
  pub stops : Stops l z

pub record ElementsRead (b : Bracket) (fs : List Shape) (ts : List Token) (e : Shape) (z : List Token) : Type 0 where
  pub tokens : List Token
  pub shapes : List Shape
  pub joined : ts ≡ tokens ++ z
  pub derives : DerivesAll (closing b) tokens shapes
  pub is : e ≡ enclosed b (fs ++ shapes)

pub record ClimbSound (read : Climbs) : Type 0 where
  pub whole : (l : ℕ) (ts : List Token) (e : Shape) (z : List Token) → 1 ≤ l → l ≤ 12 → read (Whole l) ts ≡ Some (e, z) → WholeRead l ts e z
  pub operand : (l : ℕ) (ts : List Token) (e : Shape) (z : List Token) → 1 ≤ l → l ≤ 12 → read (Operand l) ts ≡ Some (e, z) → OperandRead l ts e z
  pub rest : (l k : ℕ) (b ts : List Token) (left e : Shape) (z : List Token) → 1 ≤ l → l ≤ k → k ≤ 12 → Derives k b left →
      Stops (right_level k) ts → read (Rest l left) ts ≡ Some (e, z) → RestRead l b ts e z
  pub elements : (b : Bracket) (fs : List Shape) (ts : List Token) (e : Shape) (z : List Token) →
      read (Elements b fs) ts ≡ Some (e, z) → ElementsRead b fs ts e z

-- lists in another grouping
regroup : (a b c z : List Token) → a ++ (b ++ (c ++ z)) ≡ (a ++ (b ++ c)) ++ z
regroup a b c z = ap (λ us. a ++ us) (sym (append_assoc b c z)) ∙ sym (append_assoc a (b ++ c) z)

pub regroup_front : (b : List Token) (t : Token) (us c d : List Token) → (b ++ t ∷ (us ++ c)) ++ d ≡ b ++ t ∷ (us ++ (c ++ d))
regroup_front b t us c d = append_assoc b (t ∷ (us ++ c)) d ∙ ap (λ xs. b ++ t ∷ xs) (append_assoc us c d)

pub regroup_bound : (us c : List Token) (m : Token) (vs d : List Token) (t : Token) (z : List Token) →
    us ++ (c ++ m ∷ (vs ++ (d ++ t ∷ z))) ≡ (us ++ (c ++ m ∷ (vs ++ (d ++ t ∷ [])))) ++ z
regroup_bound us c m vs d t z = simp append_assoc

-- nothing more is read
rest-ends : (l k : ℕ) (b ts : List Token) (left e : Shape) (z : List Token) → l ≤ k → k ≤ 12 → Derives k b left → Stops l ts →
    ◌≡◌ {A = Option (Shape × List Token)} (Some (left, ts)) (Some (e, z)) → RestRead l b ts e z
rest-ends l k b ts left e z low high d stops h =
    let same = some_pair_parts left e ts z h in
    record {
      tokens = [];
      joined = same.1;
      derives = subst (Derives l (b ++ [])) same.0 (subst (λ us. Derives l us left) (sym (append-nil b)) (to_level l k b left low high d));
      stops = subst (Stops l) same.1 stops;
    }

-- an operator and its right operand are read
binary-joins : (read : Climbs) (l k : ℕ) (b : List Token) (t : Token) (us r : List Token) (line : ℕ) (op : Infix) (left e : Shape) (z : List Token) →
    ClimbSound read → 1 ≤ l → l ≤ infix_level op → k ≤ 12 → infix_level op < right_level k → Derives k b left → IsOperator t us (Binary line op) →
    joins read l left (Binary line op, r) ≡ Some (e, z) → RestRead l b (t ∷ (us ++ r)) e z
binary-joins read l k b t us r line op left e z ih one low high follows d is h =
    let level = infix_is_level op in
    let lv : ℕ = infix_level op in
    let p = bind-some (read (Whole (right_level lv)) r) (λ x. read (Rest l (joined line op left x.0)) x.1) (e, z) h in
    let right = ih.whole (right_level lv) r p.0.0 p.0.1 (omega (arith, level.low, level.right)) level.right_high p.1 in
    let left_d : Derives (left_level lv) b left = to_level (left_level lv) k b left (left-fits op k follows) high d in
    let whole : Derives lv (b ++ t ∷ (us ++ right.tokens)) (joined line op left p.0.0) =
    rules.joins line op b t us right.tokens left p.0.0 left_d is right.derives in
    let tail = ih.rest l lv (b ++ t ∷ (us ++ right.tokens)) p.0.1 (joined line op left p.0.0) e z one low (omega (arith, level.high)) whole right.stops p.2 in
    record {
      tokens = t ∷ (us ++ (right.tokens ++ tail.tokens));
      joined = ap (λ xs. t ∷ xs) (ap (λ xs. us ++ xs) (right.joined ∙ ap (λ xs. right.tokens ++ xs) tail.joined)
          ∙ regroup us right.tokens tail.tokens z);
      derives = subst (λ xs. Derives l xs e) (regroup_front b t us right.tokens tail.tokens) tail.derives;
      stops = tail.stops;
    }

field-joins : (read : Climbs) (l k : ℕ) (b : List Token) (t : Token) (us r : List Token) (line : ℕ) (x : List ℕ) (left e : Shape) (z : List Token) →
    ClimbSound read → 1 ≤ l → l ≤ 11 → k ≤ 12 → 11 < right_level k → Derives k b left → IsOperator t us (Field line x) →
    joins read l left (Field line x, r) ≡ Some (e, z) → RestRead l b (t ∷ (us ++ r)) e z
field-joins read l k b t us r line x left e z ih one low high follows d is h =
    let left_d : Derives 11 b left = to_level 11 k b left (let low_k = right_level-low k in omega arith) high d in
    let whole : Derives 11 (b ++ t ∷ us) (pick line left x) = picks line x b t us left left_d is in
    let tail = ih.rest l 11 (b ++ t ∷ us) r (pick line left x) e z one low (omega arith) whole (stops-high 12 r (omega arith)) h in
    record {
      tokens = t ∷ (us ++ tail.tokens);
      joined = ap (λ xs. t ∷ xs) (ap (λ xs. us ++ xs) tail.joined ∙ sym (append_assoc us tail.tokens z));
      derives = subst (λ xs. Derives l xs e) (append_assoc b (t ∷ us) tail.tokens) tail.derives;
      stops = tail.stops;
    }

operator-joins : (read : Climbs) (l k : ℕ) (b : List Token) (t : Token) (us r : List Token) (o : Operator) (left e : Shape) (z : List Token) →
    ClimbSound read → 1 ≤ l → l ≤ level_of o → k ≤ 12 → level_of o < right_level k → Derives k b left → IsOperator t us o →
    joins read l left (o, r) ≡ Some (e, z) → RestRead l b (t ∷ (us ++ r)) e z
operator-joins read l k b t us r (Binary line op) left e z ih one low high follows d is h =
    binary-joins read l k b t us r line op left e z ih one low high follows d is h
operator-joins read l k b t us r (Field line x) left e z ih one low high follows d is h =
    field-joins read l k b t us r line x left e z ih one low high follows d is h

stops-at : (l : ℕ) (ts : List Token) (o q : Operator) (r rest : List Token) → level_of o < l → operator_at ts ≡ Some (o, r) →
    operator_at ts ≡ Some (q, rest) → level_of q < l
stops-at l ts o q r rest low is found =
    let same = some_pair_parts o q r rest (sym is ∙ found) in subst (λ p. level_of p < l) same.0 low

rest-sound : (read : Climbs) (l k : ℕ) (b ts : List Token) (left e : Shape) (z : List Token) (v : Option (Operator × List Token)) →
    ClimbSound read → 1 ≤ l → l ≤ k → k ≤ 12 → Derives k b left → Stops (right_level k) ts → operator_at ts ≡ v →
    climbed read l left ts v ≡ Some (e, z) → RestRead l b ts e z
rest-sound read l k b ts left e z None ih one low high d stops is h =
    rest-ends l k b ts left e z low high d (record { stops = λ o rest found. absurd (let not_found = is in cc) }) h
rest-sound read l k b ts left e z (Some o) ih one low high d stops is h =
    elim (if-cases (nat_le l (level_of o.0)) (joins read l left o) (Some (left, ts)) (Some (e, z)) h) [
      | inl p ↦
          let front = operator_at-front ts o.0 o.1 is in
          subst (λ us. RestRead l b us e z) (sym front.joined)
          (operator-joins read l k b front.at front.front o.1 o.0 left e z ih one (leb-true l (level_of o.0) p.0) high (stops.stops o.0 o.1 is) d front.is p.1)
      | inr p ↦
          rest-ends l k b ts left e z low high d
          (record { stops = λ q rest found. stops-at l ts o.0 q o.1 rest (leb-false l (level_of o.0) p.0) is found }) p.1
    ]

-- an expression and its `)`
record BlockRead (ts : List Token) (e : Shape) (z : List Token) : Type 0 where
  inner : List Token
  close : Token
  is : close.what ≡ what.Sign sign.RightRound
  joined : ts ≡ inner ++ close ∷ z
  derives : Derives 1 inner e

closed-sound : (read : Climbs) (ts : List Token) (e : Shape) (z : List Token) → ClimbSound read → closed read ts ≡ Some (e, z) → BlockRead ts e z
closed-sound read ts e z ih h =
    let x = bind-some (read (Whole 1) ts) (λ x. past sign.RightRound x.1 >>= λ rest. Some (x.0, rest)) (e, z) h in
    let r = bind-some (past sign.RightRound x.0.1) (λ rest. Some (x.0.0, rest)) (e, z) x.2 in
    let same = some_pair_parts x.0.0 e r.0 z r.2 in
    let inner = ih.whole 1 ts x.0.0 x.0.1 (omega arith) (omega arith) x.1 in
    let close = past-begins sign.RightRound x.0.1 r.0 r.1 in
    record {
      inner = inner.tokens;
      close = close.at;
      is = close.is;
      joined = inner.joined ∙ ap (λ us. inner.tokens ++ us) (close.joined ∙ ap (λ us. close.at ∷ us) same.1);
      derives = subst (Derives 1 inner.tokens) same.0 inner.derives;
    }

-- an operand of level 12
primary-read : (l : ℕ) (ts c : List Token) (e : Shape) (z : List Token) → l ≤ 12 → ts ≡ c ++ z → Derives 12 c e → OperandRead l ts e z
primary-read l ts c e z high joined d =
    record { level = 12; low = high; high = omega arith; tokens = c; joined = joined; derives = d; stops = stops-high 13 z (omega arith) }

operand-sound : (read : Climbs) (l : ℕ) (ts : List Token) (s : Start) (rest : List Token) (e : Shape) (z : List Token) → ClimbSound read → 1 ≤ l → l ≤ 12 →
    start_at ts ≡ Some (s, rest) → operand read l (s, rest) ≡ Some (e, z) → OperandRead l ts e z
operand-sound read l ts (Leaf line a) rest e z ih one high is h =
    let front = start_at-front ts (Leaf line a) rest is in
    let same = some_pair_parts (leaf line a) e rest z h in
    primary-read l ts front.front e z high (front.joined ∙ ap (λ us. front.front ++ us) same.1)
    (subst (Derives 12 front.front) same.0 (alone line a front.front front.is))
operand-sound read l ts (Before p) rest e z ih one high is h =
    elim (if-cases (nat_le l (prefix_level p)) (read (Whole (prefix_level p)) rest >>= λ x. Some (prefixed p x.0, x.1)) None (Some (e, z)) h) [
      | inl c ↦
          let x = bind-some (read (Whole (prefix_level p)) rest) (λ x. Some (prefixed p x.0, x.1)) (e, z) c.1 in
          let low = prefix_low p in
          let inner = ih.whole (prefix_level p) rest x.0.0 x.0.1 low.0 low.1 x.1 in
          let same = some_pair_parts (prefixed p x.0.0) e x.0.1 z x.2 in
          let front = start_at-front ts (Before p) rest is in
          record {
            level = prefix_level p;
            low = leb-true l (prefix_level p) c.0;
            high = low.1;
            tokens = front.front ++ inner.tokens;
            joined = front.joined ∙ ap (λ us. front.front ++ us) (inner.joined ∙ ap (λ us. inner.tokens ++ us) same.1)
                ∙ sym (append_assoc front.front inner.tokens z);
            derives = subst (Derives (prefix_level p) (front.front ++ inner.tokens)) same.0 (behind p front.front inner.tokens x.0.0 front.is inner.derives);
            stops = subst (λ k. Stops k z) (sym low.3) (subst (Stops (prefix_level p)) same.1 inner.stops);
          }
      | inr c ↦ absurd (let no = c.1 in cc)
    ]
operand-sound read l ts Round rest e z ih one high is h =
    let front = start_at-front ts Round rest is in
    let b = closed-sound read rest e z ih h in
    primary-read l ts (front.front ++ (b.inner ++ b.close ∷ [])) e z high
    (front.joined ∙ ap (λ us. front.front ++ us) (b.joined ∙ sym (append_assoc b.inner (b.close ∷ []) z))
    ∙ sym (append_assoc front.front (b.inner ++ b.close ∷ []) z))
    (inside front.front b.inner b.close e front.is b.derives b.is)
operand-sound read l ts (Open b) rest e z ih one high is h =
    let front = start_at-front ts (Open b) rest is in
    let inner = ih.elements b [] rest e z h in
    primary-read l ts (front.front ++ inner.tokens) e z high
    (front.joined ∙ ap (λ us. front.front ++ us) inner.joined ∙ sym (append_assoc front.front inner.tokens z))
    (subst (Derives 12 (front.front ++ inner.tokens)) (sym inner.is) (encloses b front.front inner.tokens inner.shapes front.is inner.derives))
operand-sound read l ts (Bind line q x) rest e z ih one high is h =
    let front = start_at-front ts (Bind line q x) rest is in
    let s = bind-some (read (Whole 1) rest) (λ s. middle_at q s.1 >>= λ m. closed read m.1 >>= λ y. Some (quantified line q x s.0 m.0 y.0, y.1)) (e, z) h in
    let m = bind-some (middle_at q s.0.1) (λ m. closed read m.1 >>= λ y. Some (quantified line q x s.0.0 m.0 y.0, y.1)) (e, z) s.2 in
    let y = bind-some (closed read m.0.1) (λ y. Some (quantified line q x s.0.0 m.0.0 y.0, y.1)) (e, z) m.2 in
    let same = some_pair_parts (quantified line q x s.0.0 m.0.0 y.0.0) e y.0.1 z y.2 in
    let set = ih.whole 1 rest s.0.0 s.0.1 (omega arith) (omega arith) s.1 in
    let middle = middle_at-front q m.0.0 s.0.1 m.0.1 m.1 in
    let b = closed-sound read m.0.1 y.0.0 y.0.1 ih y.1 in
    let body : List Token = b.inner ++ b.close ∷ [] in
    let c : List Token = front.front ++ (set.tokens ++ middle.at ∷ (middle.front ++ body)) in
    primary-read l ts c e z high
    (front.joined ∙ ap (λ us. front.front ++ us)
    (set.joined ∙ ap (λ us. set.tokens ++ us) (middle.joined ∙ ap (λ us. middle.at ∷ (middle.front ++ us))
    (b.joined ∙ ap (λ us. b.inner ++ b.close ∷ us) same.1)))
    ∙ regroup_bound front.front set.tokens middle.at middle.front b.inner b.close z)
    (subst (Derives 12 c) same.0
    (binds line q x m.0.0 front.front set.tokens middle.at middle.front b.inner b.close s.0.0 y.0.0 front.is set.derives middle.is b.derives b.is))

elements-sound : (read : Climbs) (b : Bracket) (fs : List Shape) (x : Shape) (c ts : List Token) (e : Shape) (z : List Token) (v : Option (List Token)) →
    ClimbSound read → Derives 1 c x → past sign.Comma ts ≡ v → elements_of read b (fs ++ x ∷ []) ts v ≡ Some (e, z) → ElementsRead b fs (c ++ ts) e z
elements-sound read b fs x c ts e z (Some rest) ih d is h =
    let comma = past-begins sign.Comma ts rest is in
    let tail = ih.elements b (fs ++ x ∷ []) rest e z h in
    record {
      tokens = c ++ comma.at ∷ tail.tokens;
      shapes = x ∷ tail.shapes;
      joined = ap (λ us. c ++ us) (comma.joined ∙ ap (λ us. comma.at ∷ us) tail.joined) ∙ sym (append_assoc c (comma.at ∷ tail.tokens) z);
      derives = and_more (closing b) c comma.at tail.tokens x tail.shapes d comma.is tail.derives;
      is = tail.is ∙ ap (enclosed b) (append_assoc fs (x ∷ []) tail.shapes);
    }
elements-sound read b fs x c ts e z None ih d is h =
    let p = bind-some (past (closing b) ts) (λ rest. Some (enclosed b (fs ++ x ∷ []), rest)) (e, z) h in
    let close = past-begins (closing b) ts p.0 p.1 in
    let same = some_pair_parts (enclosed b (fs ++ x ∷ [])) e p.0 z p.2 in
    record {
      tokens = c ++ close.at ∷ [];
      shapes = x ∷ [];
      joined = ap (λ us. c ++ us) (close.joined ∙ ap (λ us. close.at ∷ us) same.1) ∙ sym (append_assoc c (close.at ∷ []) z);
      derives = last (closing b) c close.at x d close.is;
      is = sym same.0;
    }

step-sound : (read : Climbs) → ClimbSound read → ClimbSound (climb_step read)
step-sound read ih = record {
  whole = λ l ts e z one high h.
      let x = bind-some (read (Operand l) ts) (λ x. read (Rest l x.0) x.1) (e, z) h in
      let first = ih.operand l ts x.0.0 x.0.1 one high x.1 in
      let tail = ih.rest l first.level first.tokens x.0.1 x.0.0 e z one first.low first.high first.derives first.stops x.2 in
      record {
        tokens = first.tokens ++ tail.tokens;
        joined = first.joined ∙ ap (λ us. first.tokens ++ us) tail.joined ∙ sym (append_assoc first.tokens tail.tokens z);
        derives = tail.derives;
        stops = tail.stops;
      };
  operand = λ l ts e z one high h.
      let s = bind-some (start_at ts) (λ s. operand read l s) (e, z) h in
      operand-sound read l ts s.0.0 s.0.1 e z ih one high s.1 s.2;
  rest = λ l k b ts left e z one low high d stops h. rest-sound read l k b ts left e z (operator_at ts) ih one low high d stops refl h;
  elements = λ b fs ts e z h.
      let x = bind-some (read (Whole 1) ts) (λ x. elements_of read b (fs ++ x.0 ∷ []) x.1 (past sign.Comma x.1)) (e, z) h in
      let first = ih.whole 1 ts x.0.0 x.0.1 (omega arith) (omega arith) x.1 in
      subst (λ us. ElementsRead b fs us e z) (sym first.joined)
      (elements-sound read b fs x.0.0 first.tokens x.0.1 e z (past sign.Comma x.0.1) ih first.derives refl x.2);
}

pub climb-sound : (n : ℕ) → ClimbSound (climb n)
unfolding climb
climb-sound zero = record {
  whole = λ l ts e z one high h. absurd (cc);
  operand = λ l ts e z one high h. absurd (cc);
  rest = λ l k b ts left e z one low high d stops h. absurd (cc);
  elements = λ b fs ts e z h. absurd (cc);
}
climb-sound (suc n) = step-sound (climb n) (climb-sound n)
