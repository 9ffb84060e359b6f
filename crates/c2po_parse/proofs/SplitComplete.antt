use Rattle.std.proofs.Common.{◌≡◌, ℕ, suc, ◌+◌, ◌*◌, ◌<◌, ◌≤◌, Bool, true, false, List, [], ◌∷◌, ◌++◌, length, length-append, refl, ap, sym, ◌∙◌, subst, arith, Option, Some, None, nat_eq, nat_le, if◌then◌else◌}
use Rattle.std.proofs.lemmas.Bool.{eqb-true, eq-eqb}
use Rattle.std.proofs.lemmas.Bool.Decides.{nat_tests}
use Rattle.std.proofs.lemmas.Option.{some_pair_parts}
use Rattle.std.proofs.lemmas.List.{append-nil}
use Rattle.c2po_lexer.specs.declared.token.Sign.{Sign}
use Rattle.c2po_lexer.specs.declared.token.Sign.TheVariants as sign
use Rattle.c2po_lexer.specs.declared.token.Keyword.{Keyword}
use Rattle.c2po_lexer.specs.declared.token.Keyword.TheVariants as keyword
use Rattle.c2po_lexer.specs.declared.token.What.{What}
use Rattle.c2po_lexer.specs.declared.token.What.TheVariants as what
use Rattle.c2po_lexer.specs.declared.token.Token.{Token}
use Rattle.mltl_base.specs.declared.operators.CountOp.TheVariants as count_op
use Rattle.c2po_ast.specs.declared.operator.Infix.{Infix}
use Rattle.c2po_parse.specs.declared.operator.Operator.{Operator}
use Rattle.c2po_parse.specs.declared.operator.Operator.TheVariants.{Binary, Field}
use Rattle.c2po_ast.specs.declared.operator.Prefix.{Prefix}
use Rattle.c2po_ast.specs.declared.operator.Prefix.TheVariants.{Not, Minus, Window}
use Rattle.c2po_ast.specs.declared.operator.Quantifier.{Quantifier}
use Rattle.c2po_ast.specs.declared.operator.Quantifier.TheVariants.{Each, Exists, Count}
use Rattle.c2po_ast.specs.declared.operator.Bracket.{Bracket}
use Rattle.c2po_ast.specs.declared.operator.Bracket.TheVariants.{Curly, Call}
use Rattle.c2po_ast.specs.declared.operator.Atom.{Atom}
use Rattle.c2po_ast.specs.declared.operator.Atom.TheVariants.{Number, Truth, Ref}
use Rattle.c2po_parse.specs.declared.operator.Start.{Start}
use Rattle.c2po_parse.specs.declared.operator.Start.TheVariants.{Leaf, Before, Round, Open, Bind}
use Rattle.c2po_ast.specs.Shape.{Shape, pick}
use Rattle.c2po_parse.specs.Tokens.{is_sign, level_after, ends_operand, depth_after, is_separator, left_level, right_level, is_right_level, is_prefix_level}
use Rattle.c2po_ast.specs.Parts.{joined, prefixed, enclosed, quantified, leaf}
use Rattle.c2po_parse.specs.Fronts.{◌>>=◌, past, name_at, interval_at, word_window, word_quantifier, operator_at, named_or_called, bound_start, window_start, word_start, sign_start, start_in, start_at, middle_at, infix_level, level_of, prefix_level, closing}
use Rattle.c2po_parse.specs.Splitting.{Cut, has_level, ends_expression, cut_first, cut_last, split_at, cut_inside, ReadsLevel, ReadsAll, at_end, sides, at_operators, at_prefixes, block, primary, split_step, more_or_end, elements_step, tree_within, trees_within}
use Rattle.c2po_parse.proofs.Walks.{bind-some, ends_of, Quiet, Skips, cut_first-at, cut_first-none, cut_last-at, cut_last-none}
use Rattle.c2po_parse.proofs.Heads.{past-at}
use Rattle.c2po_parse.proofs.Operators.{IsOperator}
use Rattle.c2po_parse.proofs.Starts.{IsStart, IsMiddle}
use Rattle.c2po_parse.proofs.Rules as rules
use Rattle.c2po_parse.proofs.Rules.{Derives, DerivesAll, down, picks, behind, alone, inside, encloses, binds, last, and_more, IsLevel, infix_is_level, prefix_low, QuietTo, row, operator-inner, whole, IsClosing, closing_closes}
use Rattle.c2po_parse.proofs.ClimbComplete.{bind-with, if-true, if-false, some-suc, no-leaf, not-past}

-- What the rules derive is found by splitting.

-- The level of the prefix that a token begins; 12 where it begins none.
head_level : What → ℕ
head_level (what.Sign sign.Bang) = 6
head_level (what.Sign sign.Minus) = 10
head_level (what.Reserved keyword.F) = 6
head_level (what.Reserved keyword.G) = 6
head_level (what.Reserved keyword.O) = 6
head_level (what.Reserved keyword.H) = 6
head_level _ = 12

start_level : Start → ℕ
start_level (Before p) = prefix_level p
start_level _ = 12

starts-at : (n : ℕ) (s r : Start) (ts rest : List Token) → n ≡ start_level s → ◌≡◌ {A = Option (Start × List Token)} (Some (s, ts)) (Some (r, rest)) →
    n ≡ start_level r
starts-at n s r ts rest is h = is ∙ ap start_level (some_pair_parts s r ts rest h).0

named-level : (line : ℕ) (x : List ℕ) (ts : List Token) (v : Option (List Token)) (r : Start) (rest : List Token) →
    ◌≡◌ {A = Option (Start × List Token)} (Some (named_or_called line x ts v)) (Some (r, rest)) → 12 ≡ start_level r
unfolding start_level
named-level line x ts None r rest h = starts-at 12 (Leaf line (Ref x)) r ts rest refl h
named-level line x ts (Some us) r rest h = starts-at 12 (Open (Call line x)) r us rest refl h

bound-level : (line : ℕ) (q : Quantifier) (ts : List Token) (r : Start) (rest : List Token) → bound_start line q ts ≡ Some (r, rest) → 12 ≡ start_level r
unfolding start_level
bound-level line q ts r rest h =
    let p = bind-some (past sign.LeftRound ts) (λ us. name_at us >>= λ x. past sign.Colon x.1 >>= λ vs. Some (Bind line q x.0, vs)) (r, rest) h in
    let n = bind-some (name_at p.0) (λ x. past sign.Colon x.1 >>= λ vs. Some (Bind line q x.0, vs)) (r, rest) p.2 in
    let c = bind-some (past sign.Colon n.0.1) (λ vs. Some (Bind line q n.0.0, vs)) (r, rest) n.2 in
    starts-at 12 (Bind line q n.0.0) r c.0 rest refl c.2

window-level : (line : ℕ) (k : Keyword) (ts : List Token) (r : Start) (rest : List Token) → window_start line k ts ≡ Some (r, rest) → 6 ≡ start_level r
unfolding start_level
window-level line k ts r rest h =
    let p = bind-some (word_window k) (λ op. interval_at ts >>= λ i. Some (Before (Window line op i.0 i.1), i.2)) (r, rest) h in
    let q = bind-some (interval_at ts) (λ i. Some (Before (Window line p.0 i.0 i.1), i.2)) (r, rest) p.2 in
    starts-at 6 (Before (Window line p.0 q.0.0 q.0.1)) r q.0.2 rest refl q.2

word-level : (line : ℕ) (k : Keyword) (ts : List Token) (r : Start) (rest : List Token) → word_start line k ts (word_quantifier k) ≡ Some (r, rest) →
    head_level (what.Reserved k) ≡ start_level r
unfolding head_level start_level
word-level line keyword.True ts r rest h = starts-at 12 (Leaf line (Truth true)) r ts rest refl h
word-level line keyword.False ts r rest h = starts-at 12 (Leaf line (Truth false)) r ts rest refl h
word-level line keyword.ForEach ts r rest h = bound-level line Each ts r rest h
word-level line keyword.ForSome ts r rest h = bound-level line Exists ts r rest h
word-level line keyword.ForExactly ts r rest h = bound-level line (Count count_op.Exactly) ts r rest h
word-level line keyword.ForAtLeast ts r rest h = bound-level line (Count count_op.AtLeast) ts r rest h
word-level line keyword.ForAtMost ts r rest h = bound-level line (Count count_op.AtMost) ts r rest h
word-level line keyword.F ts r rest h = window-level line keyword.F ts r rest h
word-level line keyword.G ts r rest h = window-level line keyword.G ts r rest h
word-level line keyword.O ts r rest h = window-level line keyword.O ts r rest h
word-level line keyword.H ts r rest h = window-level line keyword.H ts r rest h
word-level line _ ts r rest h = absurd (cc)

sign-level : (line : ℕ) (s : Sign) (ts : List Token) (r : Start) (rest : List Token) → sign_start line s ts ≡ Some (r, rest) →
    head_level (what.Sign s) ≡ start_level r
unfolding head_level start_level
sign-level line sign.Bang ts r rest h = starts-at 6 (Before (Not line)) r ts rest refl h
sign-level line sign.Minus ts r rest h = starts-at 10 (Before (Minus line)) r ts rest refl h
sign-level line sign.LeftRound ts r rest h = starts-at 12 Round r ts rest refl h
sign-level line sign.LeftCurly ts r rest h = starts-at 12 (Open (Curly line)) r ts rest refl h
sign-level line _ ts r rest h = absurd (cc)

start_in-level : (line : ℕ) (w : What) (ts : List Token) (r : Start) (rest : List Token) → start_in line w ts ≡ Some (r, rest) → head_level w ≡ start_level r
unfolding head_level start_level
start_in-level line (what.Number n) ts r rest h = starts-at 12 (Leaf line (Number n)) r ts rest refl h
start_in-level line (what.Word x) ts r rest h = named-level line x ts (past sign.LeftRound ts) r rest h
start_in-level line (what.Reserved k) ts r rest h = word-level line k ts r rest h
start_in-level line (what.Sign s) ts r rest h = sign-level line s ts r rest h

start_at-level : (t : Token) (ts : List Token) (r : Start) (rest : List Token) → start_at (t ∷ ts) ≡ Some (r, rest) → head_level t.what ≡ start_level r
unfolding start_at
start_at-level t ts r rest h = start_in-level t.line t.what ts r rest h

-- a list that begins with no looser prefix than a level's
record Begins (k : ℕ) (c : List Token) : Type 0 where
  at : Token
  tail : List Token
  joined : c ≡ at ∷ tail
  tight : k ≤ head_level at.what

begins-append : (j k : ℕ) (x y : List Token) → j ≤ k → Begins k x → Begins j (x ++ y)
begins-append j k x y le b = record { at = b.at; tail = b.tail ++ y; joined = ap (λ us. us ++ y) b.joined; tight = let high = b.tight in omega arith }

start-begins : (us : List Token) (s : Start) → IsStart us s → Begins (start_level s) us
start-begins [] s is = let some : 1 ≤ length {A = Token} [] = is.some in absurd (omega arith)
start-begins (t ∷ us) s is =
    let level : head_level t.what ≡ start_level s = start_at-level t (us ++ []) s [] (is.reads [] (λ leaf. refl)) in
    record { at = t; tail = us; joined = refl; tight = omega arith }

derived-begins : (k : ℕ) (c : List Token) (e : Shape) → Derives k c e → Begins k c
unfolding start_level
derived-begins _ _ _ (down k c e high d) = let b = derived-begins (suc k) c e d in record { at = b.at; tail = b.tail; joined = b.joined; tight = let tight = b.tight in omega arith }
derived-begins _ _ _ (rules.joins line op a t us b e f da o db) =
    begins-append (infix_level op) (left_level (infix_level op)) a (t ∷ (us ++ b)) (let l = infix_is_level op in l.left)
    (derived-begins (left_level (infix_level op)) a e da)
derived-begins _ _ _ (picks line x a t us e d o) = begins-append 11 11 a (t ∷ us) (omega arith) (derived-begins 11 a e d)
derived-begins _ _ _ (behind p us c e is d) = begins-append (prefix_level p) (prefix_level p) us c (omega arith) (start-begins us (Before p) is)
derived-begins _ _ _ (alone line a us is) = start-begins us (Leaf line a) is
derived-begins _ _ _ (inside us c t e is d close) = begins-append 12 12 us (c ++ t ∷ []) (omega arith) (start-begins us Round is)
derived-begins _ _ _ (encloses b us c es is ds) = begins-append 12 12 us c (omega arith) (start-begins us (Open b) is)
derived-begins _ _ _ (binds line q x n us c m vs d t s e is ds middle de close) =
    begins-append 12 12 us (c ++ m ∷ (vs ++ (d ++ t ∷ []))) (omega arith) (start-begins us (Bind line q x) is)

by-test : (n j : ℕ) (b : Bool) → nat_eq n j ≡ b → (n ≡ j → ⊥) → b ≡ false
by-test n j false is different = refl
by-test n j true is different = absurd (different (eqb-true n j is))

not-equal : (n j : ℕ) → (n ≡ j → ⊥) → nat_eq n j ≡ false
not-equal n j different = by-test n j (nat_eq n j) refl different

apart : (n j k : ℕ) → 1 ≤ j → j < k → (0 < n → k ≤ n) → n ≡ j → ⊥
apart n j k low lt high same = let above : k ≤ n = high (omega arith) in omega arith

not-at : (n j k : ℕ) → 1 ≤ j → j < k → (0 < n → k ≤ n) → nat_eq n j ≡ false
not-at n j k low lt high = not-equal n j (apart n j k low lt high)

-- no operator of a level stands outside brackets in what is plain for a tighter level
level_skips : (j k : ℕ) → 1 ≤ j → j < k → Skips (has_level j) k
level_skips j k low lt = record { skips = λ a t plain. not-at (level_after a t.what) j k low lt plain.level }

pub separator_skips : (k : ℕ) → Skips ends_expression k
separator_skips k = record { skips = λ a t plain. plain.apart }

both-cuts : (b : Bool) (k : ℕ) (c : List Token) → 1 ≤ k → Quiet (suc k) false 0 c →
    (if b then cut_first (has_level k) false 0 c else cut_last (has_level k) false 0 c) ≡ None
both-cuts true k c low quiet = cut_first-none (has_level k) (suc k) false 0 c (level_skips k (suc k) low (omega arith)) quiet
both-cuts false k c low quiet = cut_last-none (has_level k) (suc k) false 0 c (level_skips k (suc k) low (omega arith)) quiet

no-split : (k : ℕ) (c : List Token) → 1 ≤ k → Quiet (suc k) false 0 c → split_at k c ≡ None
no-split k c low quiet = both-cuts (is_right_level k) k c low quiet

-- the expression within brackets
pub inside-cut : (k : ℕ) (c : List Token) (t : Token) (z : List Token) → QuietTo k false 0 true 0 c → is_separator t.what ≡ true →
    cut_inside (c ++ t ∷ z) ≡ Some (c, t ∷ z)
inside-cut k c t z stands is = cut_first-at ends_expression k c t z (separator_skips k) stands.quiet stands.depth is

-- Trees of derived tokens are found where there are steps enough.
pub record Found (k : ℕ) (c : List Token) (e : Shape) : Type 0 where
  pub found : (n : ℕ) → 1 ≤ k → 13 * length c + 13 ≤ n + k → tree_within n k c ≡ Some e

pub AllFound : Sign → List Token → List Shape → Type 0
AllFound s c es = (n : ℕ) → 13 * length c ≤ n → trees_within n s c ≡ Some es

tree-by : (n p k : ℕ) (c : List Token) (e : Shape) → n ≡ suc p → split_step (tree_within p) (trees_within p) k c ≡ Some e → tree_within n k c ≡ Some e
unfolding tree_within trees_within
tree-by n p k c e is h = subst (λ m. tree_within m k c ≡ Some e) (sym is) h

trees-by : (n p : ℕ) (s : Sign) (c : List Token) (es : List Shape) → n ≡ suc p → elements_step (tree_within p) (trees_within p) s c ≡ Some es →
    trees_within n s c ≡ Some es
unfolding tree_within trees_within
trees-by n p s c es is h = subst (λ m. trees_within m s c ≡ Some es) (sym is) h

above : (a b : ℕ) → b < a → nat_le a b ≡ false
above a b h = grind (arith, nat_tests)

-- the step at a level of operators, of prefixes, and at the primaries
at-operators : (read : ReadsLevel) (read_all : ReadsAll) (k : ℕ) (c : List Token) (e : Shape) (v : Option Cut) → k < 12 → is_prefix_level k ≡ false →
    split_at k c ≡ v → at_operators read k c v ≡ Some e → split_step read read_all k c ≡ Some e
at-operators read read_all k c e v high flat is h =
    if-false (nat_le 12 k) (start_at c >>= λ s. primary read read_all s)
    (if is_prefix_level k then at_prefixes read k c (start_at c) else at_operators read k c (split_at k c)) (Some e) (above 12 k high)
    (if-false (is_prefix_level k) (at_prefixes read k c (start_at c)) (at_operators read k c (split_at k c)) (Some e) flat
    (ap (at_operators read k c) is ∙ h))

at-prefixes : (read : ReadsLevel) (read_all : ReadsAll) (k : ℕ) (c : List Token) (e : Shape) (v : Option (Start × List Token)) → k < 12 →
    is_prefix_level k ≡ true → start_at c ≡ v → at_prefixes read k c v ≡ Some e → split_step read read_all k c ≡ Some e
at-prefixes read read_all k c e v high prefix is h =
    if-false (nat_le 12 k) (start_at c >>= λ s. primary read read_all s)
    (if is_prefix_level k then at_prefixes read k c (start_at c) else at_operators read k c (split_at k c)) (Some e) (above 12 k high)
    (if-true (is_prefix_level k) (at_prefixes read k c (start_at c)) (at_operators read k c (split_at k c)) (Some e) prefix
    (ap (at_prefixes read k c) is ∙ h))

at-primary : (read : ReadsLevel) (read_all : ReadsAll) (c : List Token) (e : Shape) (s : Start) (rest : List Token) → start_at c ≡ Some (s, rest) →
    primary read read_all (s, rest) ≡ Some e → split_step read read_all 12 c ≡ Some e
at-primary read read_all c e s rest is h = bind-with (start_at c) (λ x. primary read read_all x) (s, rest) e is h

some-passes-on : (read : ReadsLevel) (k : ℕ) (c : List Token) (e : Shape) (s : Start) (rest : List Token) → Begins (suc k) c → start_at c ≡ Some (s, rest) →
    read (suc k) c ≡ Some e → at_prefixes read k c (Some (s, rest)) ≡ Some e
unfolding start_level
some-passes-on read k c e (Before p) rest b is h =
    let level : head_level b.at.what ≡ prefix_level p =
    start_at-level b.at b.tail (Before p) rest (ap start_at (sym b.joined) ∙ is) in
    let tight = b.tight in
    if-false (nat_eq (prefix_level p) k) (read k rest >>= λ x. Some (prefixed p x)) (read (suc k) c) (Some e)
    (not-equal (prefix_level p) k (λ same. omega arith)) h
some-passes-on read k c e _ rest b is h = h

-- no prefix of this level is taken off
passes-on : (read : ReadsLevel) (k : ℕ) (c : List Token) (e : Shape) (v : Option (Start × List Token)) → Begins (suc k) c → start_at c ≡ v →
    read (suc k) c ≡ Some e → at_prefixes read k c v ≡ Some e
passes-on read k c e None b is h = h
passes-on read k c e (Some s) b is h = some-passes-on read k c e s.0 s.1 b is h

down-step : (b : Bool) (p k : ℕ) (c : List Token) (e : Shape) → is_prefix_level k ≡ b → 1 ≤ k → k < 12 → Quiet (suc k) false 0 c → Begins (suc k) c →
    tree_within p (suc k) c ≡ Some e → split_step (tree_within p) (trees_within p) k c ≡ Some e
down-step true p k c e is low high quiet begins next =
    at-prefixes (tree_within p) (trees_within p) k c e (start_at c) high is refl (passes-on (tree_within p) k c e (start_at c) begins refl next)
down-step false p k c e is low high quiet begins next =
    at-operators (tree_within p) (trees_within p) k c e None high is (no-split k c low quiet) next

down-found : (k : ℕ) (c : List Token) (e : Shape) → k < 12 → Derives (suc k) c e → Found (suc k) c e → Found k c e
down-found k c e high d ih = record {
  found = λ n low enough.
      let p = some-suc n (omega arith) in
      let next : tree_within p.0 (suc k) c ≡ Some e = ih.found p.0 (omega arith) (omega arith) in
      let stands = whole (suc k) c e d in
      tree-by n p.0 k c e p.1 (down-step (is_prefix_level k) p.0 k c e refl low high stands.quiet (derived-begins (suc k) c e d) next);
}

is_equal : (k : ℕ) → nat_eq k k ≡ true
is_equal k = eq-eqb k k refl

has-level : (k : ℕ) (a : List Token) (t : Token) (us : List Token) (o : Operator) → IsOperator t us o → level_of o ≡ k → ends_of false a ≡ true →
    has_level k (ends_of false a) t ≡ true
has-level k a t us o is level ends =
    ap (λ b. nat_eq (level_after b t.what) k) ends ∙ ap (λ n. nat_eq n k) (is.level ∙ level) ∙ is_equal k

left-of : (k : ℕ) (b : Bool) → is_right_level k ≡ b → left_level k ≡ (if b then suc k else k)
left-of k b is = ap (λ c. if c then suc k else k) is

right-of : (k : ℕ) → is_right_level k ≡ false → is_prefix_level k ≡ false → right_level k ≡ suc k
right-of k right prefix = rw (right, prefix) refl

last-none : (k : ℕ) (t : Token) (z : List Token) → ends_operand t.what ≡ false → depth_after t.what 0 ≡ 0 → cut_last (has_level k) false 0 z ≡ None →
    cut_last (has_level k) (ends_operand t.what) (depth_after t.what 0) z ≡ None
last-none k t z ends depth none = rw (ends, depth) none

operator-splits : (right : Bool) (k line : ℕ) (op : Infix) (a : List Token) (t : Token) (us b : List Token) → is_right_level k ≡ right → IsLevel k →
    QuietTo (left_level k) false 0 true 0 a → IsOperator t us (Binary line op) → infix_level op ≡ k → QuietTo (right_level k) false 0 true 0 b →
    split_at k (a ++ t ∷ (us ++ b)) ≡ Some (a, t ∷ (us ++ b))
operator-splits true k line op a t us b right level left is is_level right_stands =
    let quiet : Quiet (suc k) false 0 a = subst (λ n. Quiet n false 0 a) (left-of k true right) left.quiet in
    if-true (is_right_level k) (cut_first (has_level k) false 0 (a ++ t ∷ (us ++ b))) (cut_last (has_level k) false 0 (a ++ t ∷ (us ++ b)))
    (Some (a, t ∷ (us ++ b))) right
    (cut_first-at (has_level k) (suc k) a t (us ++ b) (level_skips k (suc k) level.low (omega arith)) quiet left.depth
    (has-level k a t us (Binary line op) is is_level left.ends))
operator-splits false k line op a t us b right level left is is_level right_stands =
    let high = level.high in
    let right_is : right_level k ≡ suc k = right-of k right level.split in
    let b_stands : QuietTo (suc k) false 0 true 0 b = subst (λ n. QuietTo n false 0 true 0 b) right_is right_stands in
    let after_t : QuietTo (suc k) false 0 true 0 (us ++ b) =
    row (suc k) false false true 0 0 0 us b (operator-inner (suc k) t us (Binary line op) (omega arith) is) b_stands in
    let none : cut_last (has_level k) (ends_operand t.what) (depth_after t.what 0) (us ++ b) ≡ None =
    last-none k t (us ++ b) is.operand (is.flat 0) (cut_last-none (has_level k) (suc k) false 0 (us ++ b) (level_skips k (suc k) level.low (omega arith)) after_t.quiet) in
    if-false (is_right_level k) (cut_first (has_level k) false 0 (a ++ t ∷ (us ++ b))) (cut_last (has_level k) false 0 (a ++ t ∷ (us ++ b)))
    (Some (a, t ∷ (us ++ b))) right
    (cut_last-at (has_level k) false 0 a t (us ++ b) left.depth (has-level k a t us (Binary line op) is is_level left.ends) none)

joins-found : (line : ℕ) (op : Infix) (a : List Token) (t : Token) (us b : List Token) (e f : Shape) → Derives (left_level (infix_level op)) a e →
    IsOperator t us (Binary line op) → Derives (right_level (infix_level op)) b f → Found (left_level (infix_level op)) a e →
    Found (right_level (infix_level op)) b f → Found (infix_level op) (a ++ t ∷ (us ++ b)) (joined line op e f)
joins-found line op a t us b e f da is db ihs ihf = record {
  found = λ n low enough.
      let level = infix_is_level op in
      let lv : ℕ = infix_level op in
      let size = length-append a (t ∷ (us ++ b)) in
      let size_b = length-append us b in
      let p = some-suc n (omega (arith, level.high)) in
      let left : tree_within p.0 (left_level lv) a ≡ Some e =
      ihs.found p.0 (omega (arith, level.low, level.left)) (omega (arith, level.high, level.left)) in
      let right : tree_within p.0 (right_level lv) b ≡ Some f =
      ihf.found p.0 (omega (arith, level.low, level.right)) (omega (arith, level.high, level.right)) in
      tree-by n p.0 lv (a ++ t ∷ (us ++ b)) (joined line op e f) p.1
      (at-operators (tree_within p.0) (trees_within p.0) lv (a ++ t ∷ (us ++ b)) (joined line op e f) (Some (a, t ∷ (us ++ b)))
      (omega (arith, level.high)) level.split
      (operator-splits (is_right_level lv) lv line op a t us b refl level (whole (left_level lv) a e da) is refl (whole (right_level lv) b f db))
      (bind-with (operator_at (t ∷ (us ++ b))) (λ o. sides (tree_within p.0) lv a o) (Binary line op, b) (joined line op e f) (is.reads b)
      (bind-with (tree_within p.0 (left_level lv) a) (λ x. tree_within p.0 (right_level lv) b >>= λ y. Some (joined line op x y)) e (joined line op e f) left
      (bind-with (tree_within p.0 (right_level lv) b) (λ y. Some (joined line op e y)) f (joined line op e f) right refl))));
}

picks-found : (line : ℕ) (x : List ℕ) (a : List Token) (t : Token) (us : List Token) (e : Shape) → Derives 11 a e → IsOperator t us (Field line x) →
    Found 11 a e → Found 11 (a ++ t ∷ us) (pick line e x)
picks-found line x a t us e d is ih = record {
  found = λ n low enough.
      let size = length-append a (t ∷ us) in
      let p = some-suc n (omega arith) in
      let stands = whole 11 a e d in
      let left : tree_within p.0 11 a ≡ Some e = ih.found p.0 (omega arith) (omega arith) in
      let none : cut_last (has_level 11) (ends_operand t.what) (depth_after t.what 0) us ≡ None =
      last-none 11 t us is.operand (is.flat 0) (cut_last-none (has_level 11) 12 false 0 us (level_skips 11 12 (omega arith) (omega arith)) is.quiet) in
      let split : split_at 11 (a ++ t ∷ us) ≡ Some (a, t ∷ us) =
      cut_last-at (has_level 11) false 0 a t us stands.depth (has-level 11 a t us (Field line x) is refl stands.ends) none in
      let reads : operator_at (t ∷ us) ≡ Some (Field line x, []) = ap (λ vs. operator_at (t ∷ vs)) (sym (append-nil us)) ∙ is.reads [] in
      tree-by n p.0 11 (a ++ t ∷ us) (pick line e x) p.1
      (at-operators (tree_within p.0) (trees_within p.0) 11 (a ++ t ∷ us) (pick line e x) (Some (a, t ∷ us)) (omega arith) refl split
      (bind-with (operator_at (t ∷ us)) (λ o. sides (tree_within p.0) 11 a o) (Field line x, []) (pick line e x) reads
      (bind-with (tree_within p.0 11 a) (λ y. at_end (pick line y x) []) e (pick line e x) left refl)));
}

prefix-below : (p : Prefix) → prefix_level p < 12
prefix-below (Not line) = omega arith
prefix-below _ = omega arith

behind-found : (p : Prefix) (us c : List Token) (e : Shape) → IsStart us (Before p) → Found (prefix_level p) c e → Found (prefix_level p) (us ++ c) (prefixed p e)
behind-found p us c e is ih = record {
  found = λ n low enough.
      let size = length-append us c in
      let some : 1 ≤ length us = is.some in
      let high = (prefix_low p).1 in
      let lower = prefix-below p in
      let q = some-suc n (omega arith) in
      let inner : tree_within q.0 (prefix_level p) c ≡ Some e = ih.found q.0 low (omega arith) in
      tree-by n q.0 (prefix_level p) (us ++ c) (prefixed p e) q.1
      (at-prefixes (tree_within q.0) (trees_within q.0) (prefix_level p) (us ++ c) (prefixed p e) (Some (Before p, c)) lower (prefix_low p).2
      (is.reads c (no-leaf (Before p) c refl))
      (if-true (nat_eq (prefix_level p) (prefix_level p)) (tree_within q.0 (prefix_level p) c >>= λ x. Some (prefixed p x))
      (tree_within q.0 (suc (prefix_level p)) (us ++ c)) (Some (prefixed p e)) (is_equal (prefix_level p))
      (bind-with (tree_within q.0 (prefix_level p) c) (λ x. Some (prefixed p x)) e (prefixed p e) inner refl)));
}

alone-found : (line : ℕ) (a : Atom) (us : List Token) → IsStart us (Leaf line a) → Found 12 us (leaf line a)
alone-found line a us is = record {
  found = λ n low enough.
      let p = some-suc n (omega arith) in
      let start : start_at us ≡ Some (Leaf line a, []) = ap start_at (sym (append-nil us)) ∙ is.reads [] (λ leaf. refl) in
      tree-by n p.0 12 us (leaf line a) p.1 (at-primary (tree_within p.0) (trees_within p.0) us (leaf line a) (Leaf line a) [] start refl);
}

-- an expression and its `)`
block-found : (p : ℕ) (c : List Token) (t : Token) (e : Shape) → QuietTo 1 false 0 true 0 c → tree_within p 1 c ≡ Some e →
    t.what ≡ what.Sign sign.RightRound → block (tree_within p) (c ++ t ∷ []) ≡ Some e
block-found p c t e stands inner close =
    bind-with (cut_inside (c ++ t ∷ [])) (λ x. past sign.RightRound x.1 >>= λ rest. tree_within p 1 x.0 >>= λ y. at_end y rest) (c, t ∷ []) e
    (inside-cut 1 c t [] stands (ap is_separator close))
    (bind-with (past sign.RightRound (t ∷ [])) (λ rest. tree_within p 1 c >>= λ y. at_end y rest) [] e (past-at sign.RightRound t [] close)
    (bind-with (tree_within p 1 c) (λ y. at_end y []) e e inner refl))

inside-found : (us c : List Token) (t : Token) (e : Shape) → IsStart us Round → Derives 1 c e → Found 1 c e → t.what ≡ what.Sign sign.RightRound →
    Found 12 (us ++ (c ++ t ∷ [])) e
inside-found us c t e is d ih close = record {
  found = λ n low enough.
      let size = length-append us (c ++ t ∷ []) in
      let inner_size = length-append c (t ∷ []) in
      let some : 1 ≤ length us = is.some in
      let p = some-suc n (omega arith) in
      tree-by n p.0 12 (us ++ (c ++ t ∷ [])) e p.1
      (at-primary (tree_within p.0) (trees_within p.0) (us ++ (c ++ t ∷ [])) e Round (c ++ t ∷ [])
      (is.reads (c ++ t ∷ []) (no-leaf Round (c ++ t ∷ []) refl))
      (block-found p.0 c t e (whole 1 c e d) (ih.found p.0 (omega arith) (omega arith)) close));
}

encloses-found : (b : Bracket) (us c : List Token) (es : List Shape) → IsStart us (Open b) → AllFound (closing b) c es → Found 12 (us ++ c) (enclosed b es)
unfolding AllFound
encloses-found b us c es is ih = record {
  found = λ n low enough.
      let size = length-append us c in
      let some : 1 ≤ length us = is.some in
      let p = some-suc n (omega arith) in
      let all : trees_within p.0 (closing b) c ≡ Some es = ih p.0 (omega arith) in
      tree-by n p.0 12 (us ++ c) (enclosed b es) p.1
      (at-primary (tree_within p.0) (trees_within p.0) (us ++ c) (enclosed b es) (Open b) c (is.reads c (no-leaf (Open b) c refl))
      (bind-with (trees_within p.0 (closing b) c) (λ fs. Some (enclosed b fs)) es (enclosed b es) all refl));
}

binds-found : (line : ℕ) (q : Quantifier) (x : List ℕ) (k : ℕ) (us c : List Token) (m : Token) (vs d : List Token) (t : Token) (s e : Shape) →
    IsStart us (Bind line q x) → Derives 1 c s → IsMiddle q k m vs → Derives 1 d e → Found 1 c s → Found 1 d e → t.what ≡ what.Sign sign.RightRound →
    Found 12 (us ++ (c ++ m ∷ (vs ++ (d ++ t ∷ [])))) (quantified line q x s k e)
binds-found line q x k us c m vs d t s e is ds middle de set body close = record {
  found = λ n low enough.
      let after : List Token = m ∷ (vs ++ (d ++ t ∷ [])) in
      let rest : List Token = c ++ after in
      let result : Shape = quantified line q x s k e in
      let size = length-append us (c ++ m ∷ (vs ++ (d ++ t ∷ []))) in
      let size_c = length-append c (m ∷ (vs ++ (d ++ t ∷ []))) in
      let size_v = length-append vs (d ++ t ∷ []) in
      let size_d = length-append d (t ∷ []) in
      let some : 1 ≤ length us = is.some in
      let p = some-suc n (omega arith) in
      let set_found : tree_within p.0 1 c ≡ Some s = set.found p.0 (omega arith) (omega arith) in
      let body_found : tree_within p.0 1 d ≡ Some e = body.found p.0 (omega arith) (omega arith) in
      tree-by n p.0 12 (us ++ rest) result p.1
      (at-primary (tree_within p.0) (trees_within p.0) (us ++ rest) result (Bind line q x) rest (is.reads rest (no-leaf (Bind line q x) rest refl))
      (bind-with (cut_inside rest) (λ y. middle_at q y.1 >>= λ j. tree_within p.0 1 y.0 >>= λ v. block (tree_within p.0) j.1 >>= λ w. Some (quantified line q x v j.0 w))
      (c, after) result (inside-cut 1 c m (vs ++ (d ++ t ∷ [])) (whole 1 c s ds) middle.apart)
      (bind-with (middle_at q after) (λ j. tree_within p.0 1 c >>= λ v. block (tree_within p.0) j.1 >>= λ w. Some (quantified line q x v j.0 w))
      (k, d ++ t ∷ []) result (middle.reads (d ++ t ∷ []))
      (bind-with (tree_within p.0 1 c) (λ v. block (tree_within p.0) (d ++ t ∷ []) >>= λ w. Some (quantified line q x v k w)) s result set_found
      (bind-with (block (tree_within p.0) (d ++ t ∷ [])) (λ w. Some (quantified line q x s k w)) e result
      (block-found p.0 d t e (whole 1 d e de) body_found close) refl)))));
}

last-found : (s : Sign) (c : List Token) (t : Token) (e : Shape) → IsClosing s → Derives 1 c e → Found 1 c e → t.what ≡ what.Sign s → AllFound s (c ++ t ∷ []) (e ∷ [])
unfolding AllFound
last-found s c t e closes d ih close n enough =
    let size = length-append c (t ∷ []) in
    let p = some-suc n (omega arith) in
    let no_comma : past sign.Comma (t ∷ []) ≡ None = not-past sign.Comma t [] (ap (is_sign sign.Comma) close ∙ closes.no_comma) in
    trees-by n p.0 s (c ++ t ∷ []) (e ∷ []) p.1
    (bind-with (cut_inside (c ++ t ∷ [])) (λ x. tree_within p.0 1 x.0 >>= λ y. more_or_end (trees_within p.0) s y x.1 (past sign.Comma x.1)) (c, t ∷ []) (e ∷ [])
    (inside-cut 1 c t [] (whole 1 c e d) (ap is_separator close ∙ closes.apart))
    (bind-with (tree_within p.0 1 c) (λ y. more_or_end (trees_within p.0) s y (t ∷ []) (past sign.Comma (t ∷ []))) e (e ∷ [])
    (ih.found p.0 (omega arith) (omega arith))
    (ap (more_or_end (trees_within p.0) s e (t ∷ [])) no_comma
    ∙ bind-with (past s (t ∷ [])) (λ rest. at_end (e ∷ []) rest) [] (e ∷ []) (past-at s t [] close) refl)))

more-found : (s : Sign) (c : List Token) (t : Token) (d : List Token) (e : Shape) (es : List Shape) → Derives 1 c e → Found 1 c e →
    t.what ≡ what.Sign sign.Comma → AllFound s d es → AllFound s (c ++ t ∷ d) (e ∷ es)
unfolding AllFound
more-found s c t d e es dc ih comma ihs n enough =
    let size = length-append c (t ∷ d) in
    let p = some-suc n (omega arith) in
    trees-by n p.0 s (c ++ t ∷ d) (e ∷ es) p.1
    (bind-with (cut_inside (c ++ t ∷ d)) (λ x. tree_within p.0 1 x.0 >>= λ y. more_or_end (trees_within p.0) s y x.1 (past sign.Comma x.1)) (c, t ∷ d) (e ∷ es)
    (inside-cut 1 c t d (whole 1 c e dc) (ap is_separator comma))
    (bind-with (tree_within p.0 1 c) (λ y. more_or_end (trees_within p.0) s y (t ∷ d) (past sign.Comma (t ∷ d))) e (e ∷ es)
    (ih.found p.0 (omega arith) (omega arith))
    (ap (more_or_end (trees_within p.0) s e (t ∷ d)) (past-at sign.Comma t d comma)
    ∙ bind-with (trees_within p.0 s d) (λ fs. Some (e ∷ fs)) es (e ∷ es) (ihs p.0 (omega arith)) refl)))

mutual
  unfolding AllFound

  pub derived-found : (k : ℕ) (c : List Token) (e : Shape) → Derives k c e → Found k c e
  derived-found _ _ _ (down k c e high d) = down-found k c e high d (derived-found (suc k) c e d)
  derived-found _ _ _ (rules.joins line op a t us b e f da o db) =
      joins-found line op a t us b e f da o db (derived-found (left_level (infix_level op)) a e da) (derived-found (right_level (infix_level op)) b f db)
  derived-found _ _ _ (picks line x a t us e d o) = picks-found line x a t us e d o (derived-found 11 a e d)
  derived-found _ _ _ (behind p us c e is d) = behind-found p us c e is (derived-found (prefix_level p) c e d)
  derived-found _ _ _ (alone line a us is) = alone-found line a us is
  derived-found _ _ _ (inside us c t e is d close) = inside-found us c t e is d (derived-found 1 c e d) close
  derived-found _ _ _ (encloses b us c es is ds) = encloses-found b us c es is (all-found (closing b) c es (closing_closes b) ds)
  derived-found _ _ _ (binds line q x n us c m vs d t s e is ds middle de close) =
      binds-found line q x n us c m vs d t s e is ds middle de (derived-found 1 c s ds) (derived-found 1 d e de) close

  pub all-found : (s : Sign) (c : List Token) (es : List Shape) → IsClosing s → DerivesAll s c es → AllFound s c es
  all-found _ _ _ closes (last s c t e d close) = last-found s c t e closes d (derived-found 1 c e d) close
  all-found _ _ _ closes (and_more s c t d e es dc comma ds) = more-found s c t d e es dc (derived-found 1 c e dc) comma (all-found s d es closes ds)
