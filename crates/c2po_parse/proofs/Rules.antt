use Rattle.std.proofs.Common.{◌≡◌, ℕ, suc, ◌<◌, ◌≤◌, Bool, true, false, List, [], ◌∷◌, ◌++◌, refl, ap, sym, ◌∙◌, subst, arith}
use Rattle.c2po_lexer.specs.declared.token.Sign.{Sign}
use Rattle.c2po_lexer.specs.declared.token.Sign.TheVariants as sign
use Rattle.c2po_lexer.specs.declared.token.What.TheVariants as what
use Rattle.c2po_lexer.specs.declared.token.Token.{Token}
use Rattle.mltl_base.specs.declared.operators.ArithOp.TheVariants as arith_op
use Rattle.mltl_base.specs.declared.operators.LogicOp.TheVariants as logic_op
use Rattle.c2po_ast.specs.declared.operator.Infix.{Infix}
use Rattle.c2po_ast.specs.declared.operator.Infix.TheVariants.{Logic, Between, Compare, Arith}
use Rattle.c2po_parse.specs.declared.operator.Operator.{Operator}
use Rattle.c2po_parse.specs.declared.operator.Operator.TheVariants.{Binary, Field}
use Rattle.c2po_ast.specs.declared.operator.Prefix.{Prefix}
use Rattle.c2po_ast.specs.declared.operator.Prefix.TheVariants.{Not, Minus, Window}
use Rattle.c2po_ast.specs.declared.operator.Quantifier.{Quantifier}
use Rattle.c2po_ast.specs.declared.operator.Bracket.{Bracket}
use Rattle.c2po_ast.specs.declared.operator.Bracket.TheVariants.{Curly, Call}
use Rattle.c2po_ast.specs.declared.operator.Atom.{Atom}
use Rattle.c2po_parse.specs.declared.operator.Start.{Start}
use Rattle.c2po_parse.specs.declared.operator.Start.TheVariants.{Leaf, Before, Round, Open, Bind}
use Rattle.c2po_ast.specs.Shape.{Shape, pick}
use Rattle.c2po_parse.specs.Tokens.{is_sign, ends_operand, depth_after, is_separator, left_level, right_level, is_prefix_level}
use Rattle.c2po_ast.specs.Parts.{joined, prefixed, enclosed, quantified, leaf}
use Rattle.c2po_parse.specs.Fronts.{infix_level, level_of, prefix_level, closing}
use Rattle.c2po_parse.proofs.Walks.{ends_of, depth_of, IsPlain, IsQuiet, Quiet, ends_of-append, depth_of-append, Quiet-append, Quiet-weaker, Quiet-deeper, depth_of-deeper}
use Rattle.c2po_parse.proofs.Operators.{IsOperator, is_field}
use Rattle.c2po_parse.proofs.Starts.{IsStart, opened, is_leaf, IsMiddle}

-- The rules by which tokens derive a tree at a level. Both the splitting and the climbing follow them.
mutual
  pub data Derives : ℕ → List Token → Shape → Type 0 where
    down : (k : ℕ) (c : List Token) (e : Shape) → k < 12 → Derives (suc k) c e → Derives k c e
    joins : (line : ℕ) (op : Infix) (a : List Token) (t : Token) (us b : List Token) (e f : Shape) →
        Derives (left_level (infix_level op)) a e → IsOperator t us (Binary line op) → Derives (right_level (infix_level op)) b f →
        Derives (infix_level op) (a ++ t ∷ (us ++ b)) (joined line op e f)
    picks : (line : ℕ) (x : List ℕ) (a : List Token) (t : Token) (us : List Token) (e : Shape) →
        Derives 11 a e → IsOperator t us (Field line x) → Derives 11 (a ++ t ∷ us) (pick line e x)
    behind : (p : Prefix) (us c : List Token) (e : Shape) →
        IsStart us (Before p) → Derives (prefix_level p) c e → Derives (prefix_level p) (us ++ c) (prefixed p e)
    alone : (line : ℕ) (a : Atom) (us : List Token) → IsStart us (Leaf line a) → Derives 12 us (leaf line a)
    inside : (us c : List Token) (t : Token) (e : Shape) →
        IsStart us Round → Derives 1 c e → t.what ≡ what.Sign sign.RightRound → Derives 12 (us ++ (c ++ t ∷ [])) e
    encloses : (b : Bracket) (us c : List Token) (es : List Shape) →
        IsStart us (Open b) → DerivesAll (closing b) c es → Derives 12 (us ++ c) (enclosed b es)
    binds : (line : ℕ) (q : Quantifier) (x : List ℕ) (n : ℕ) (us c : List Token) (m : Token) (vs d : List Token) (t : Token) (s e : Shape) →
        IsStart us (Bind line q x) → Derives 1 c s → IsMiddle q n m vs → Derives 1 d e → t.what ≡ what.Sign sign.RightRound →
        Derives 12 (us ++ (c ++ m ∷ (vs ++ (d ++ t ∷ [])))) (quantified line q x s n e)

  -- elements with commas between them, and the sign that closes them
  pub data DerivesAll : Sign → List Token → List Shape → Type 0 where
    last : (s : Sign) (c : List Token) (t : Token) (e : Shape) → Derives 1 c e → t.what ≡ what.Sign s → DerivesAll s (c ++ t ∷ []) (e ∷ [])
    and_more : (s : Sign) (c : List Token) (t : Token) (d : List Token) (e : Shape) (es : List Shape) →
        Derives 1 c e → t.what ≡ what.Sign sign.Comma → DerivesAll s d es → DerivesAll s (c ++ t ∷ d) (e ∷ es)

-- levels of operators
pub record IsLevel (k : ℕ) : Type 0 where
  pub low : 1 ≤ k
  pub high : k ≤ 11
  pub split : is_prefix_level k ≡ false
  pub left : k ≤ left_level k
  pub right : k ≤ right_level k
  pub left_high : left_level k ≤ 12
  pub right_high : right_level k ≤ 12
  pub stops : k < right_level (left_level k)
  pub again : right_level k ≤ right_level (right_level k)

level1 : IsLevel 1
level1 = record { low = omega arith; high = omega arith; split = refl; left = omega arith; right = omega arith; left_high = omega arith; right_high = omega arith; stops = omega arith; again = omega arith }

level2 : IsLevel 2
level2 = record { low = omega arith; high = omega arith; split = refl; left = omega arith; right = omega arith; left_high = omega arith; right_high = omega arith; stops = omega arith; again = omega arith }

level3 : IsLevel 3
level3 = record { low = omega arith; high = omega arith; split = refl; left = omega arith; right = omega arith; left_high = omega arith; right_high = omega arith; stops = omega arith; again = omega arith }

level4 : IsLevel 4
level4 = record { low = omega arith; high = omega arith; split = refl; left = omega arith; right = omega arith; left_high = omega arith; right_high = omega arith; stops = omega arith; again = omega arith }

level5 : IsLevel 5
level5 = record { low = omega arith; high = omega arith; split = refl; left = omega arith; right = omega arith; left_high = omega arith; right_high = omega arith; stops = omega arith; again = omega arith }

level7 : IsLevel 7
level7 = record { low = omega arith; high = omega arith; split = refl; left = omega arith; right = omega arith; left_high = omega arith; right_high = omega arith; stops = omega arith; again = omega arith }

level8 : IsLevel 8
level8 = record { low = omega arith; high = omega arith; split = refl; left = omega arith; right = omega arith; left_high = omega arith; right_high = omega arith; stops = omega arith; again = omega arith }

level9 : IsLevel 9
level9 = record { low = omega arith; high = omega arith; split = refl; left = omega arith; right = omega arith; left_high = omega arith; right_high = omega arith; stops = omega arith; again = omega arith }

pub infix_is_level : (op : Infix) → IsLevel (infix_level op)
infix_is_level (Logic logic_op.Iff) = level1
infix_is_level (Logic logic_op.Implies) = level2
infix_is_level (Logic logic_op.Or) = level3
infix_is_level (Logic logic_op.And) = level4
infix_is_level (Between o a b) = level5
infix_is_level (Compare o) = level7
infix_is_level (Arith arith_op.Add) = level8
infix_is_level (Arith arith_op.Sub) = level8
infix_is_level _ = level9

pub prefix_low : (p : Prefix) → (1 ≤ prefix_level p) × (prefix_level p ≤ 12) × (is_prefix_level (prefix_level p) ≡ true) × (right_level (prefix_level p) ≡ prefix_level p)
prefix_low (Not line) = (omega arith, omega arith, refl, refl)
prefix_low _ = (omega arith, omega arith, refl, refl)

-- A list after another, told how that one ends: outside brackets all is plain for level k, and so it ends.
pub record QuietTo (k : ℕ) (a : Bool) (d : ℕ) (b : Bool) (n : ℕ) (c : List Token) : Type 0 where
  pub quiet : Quiet k a d c
  pub ends : ends_of a c ≡ b
  pub depth : depth_of d c ≡ n

pub row : (k : ℕ) (a b e : Bool) (d n m : ℕ) (x y : List Token) → QuietTo k a d b n x → QuietTo k b n e m y → QuietTo k a d e m (x ++ y)
row k a b e d n m x y sx sy = record {
  quiet = Quiet-append k a d x y sx.quiet
      (subst (λ v. Quiet k v (depth_of d x) y) (sym sx.ends) (subst (λ v. Quiet k b v y) (sym sx.depth) sy.quiet));
  ends = ends_of-append a x y ∙ ap (λ v. ends_of v y) sx.ends ∙ sy.ends;
  depth = depth_of-append d x y ∙ ap (λ v. depth_of v y) sx.depth ∙ sy.depth;
}

weaker : (j k : ℕ) (a b : Bool) (d n : ℕ) (c : List Token) → j ≤ k → QuietTo k a d b n c → QuietTo j a d b n c
weaker j k a b d n c le s = record { quiet = Quiet-weaker j k a d c le s.quiet; ends = s.ends; depth = s.depth }

deeper : (k : ℕ) (a b : Bool) (c : List Token) → QuietTo k a 0 b 0 c → QuietTo 12 a 1 b 1 c
deeper k a b c s = record {
  quiet = Quiet-deeper 12 k a 0 c s.quiet;
  ends = s.ends;
  depth = depth_of-deeper k a 0 c s.quiet ∙ ap suc s.depth;
}

-- a first token whose effect is known, and what stands after it
first : (k : ℕ) (a b e : Bool) (d n m : ℕ) (t : Token) (us : List Token) → IsQuiet k a d t → ends_operand t.what ≡ b → depth_after t.what d ≡ n →
    Quiet k b n us → ends_of b us ≡ e → depth_of n us ≡ m → QuietTo k a d e m (t ∷ us)
unfolding Quiet ends_of depth_of
first k a b e d n m t us plain is_b is_n quiet ends depth = record {
  quiet = (plain, rw (is_b, is_n) quiet);
  ends = rw is_b ends;
  depth = rw is_n depth;
}

pub operator-stands : (k : ℕ) (t : Token) (us : List Token) (o : Operator) → k ≤ level_of o → k ≤ 12 → IsOperator t us o →
    QuietTo k true 0 (is_field o) 0 (t ∷ us)
operator-stands k t us o le high is =
    let plain : IsPlain k true t = record { apart = is.apart; level = λ positive. omega (arith, is.level) } in
    first k true false (is_field o) 0 0 0 t us plain is.operand (is.flat 0) (Quiet-weaker k 12 false 0 us high is.quiet) is.ends is.depth

pub operator-inner : (k : ℕ) (t : Token) (us : List Token) (o : Operator) → k ≤ 12 → IsOperator t us o → QuietTo k false 0 (is_field o) 0 us
operator-inner k t us o high is = record { quiet = Quiet-weaker k 12 false 0 us high is.quiet; ends = is.ends; depth = is.depth }

start-stands : (k : ℕ) (us : List Token) (s : Start) → k ≤ 12 → IsStart us s → QuietTo k false 0 (is_leaf s) (opened s) us
start-stands k us s high is = record { quiet = Quiet-weaker k 12 false 0 us high is.quiet; ends = is.ends; depth = is.depth }

middle-stands : (q : Quantifier) (n : ℕ) (m : Token) (vs : List Token) → IsMiddle q n m vs → QuietTo 12 true 1 false 1 (m ∷ vs)
middle-stands q n m vs is = record { quiet = is.quiet; ends = is.ends; depth = is.depth }

-- signs that close brackets around an operand
pub record IsClosing (s : Sign) : Type 0 where
  pub apart : is_separator (what.Sign s) ≡ true
  pub operand : ends_operand (what.Sign s) ≡ true
  pub closes : depth_after (what.Sign s) 1 ≡ 0
  pub no_comma : is_sign sign.Comma (what.Sign s) ≡ false

pub round_closes : IsClosing sign.RightRound
round_closes = record { apart = refl; operand = refl; closes = refl; no_comma = refl }

pub closing_closes : (b : Bracket) → IsClosing (closing b)
closing_closes (Curly line) = record { apart = refl; operand = refl; closes = refl; no_comma = refl }
closing_closes (Call line x) = record { apart = refl; operand = refl; closes = refl; no_comma = refl }

close-stands : (s : Sign) (t : Token) → IsClosing s → t.what ≡ what.Sign s → QuietTo 12 true 1 true 0 (t ∷ [])
unfolding Quiet ends_of depth_of
close-stands s t closes is = record {
  quiet = (tt, tt);
  ends = ap ends_operand is ∙ closes.operand;
  depth = ap (λ w. depth_after w 1) is ∙ closes.closes;
}

comma-stands : (t : Token) → t.what ≡ what.Sign sign.Comma → QuietTo 12 true 1 false 1 (t ∷ [])
unfolding Quiet ends_of depth_of
comma-stands t is = record { quiet = (tt, tt); ends = ap ends_operand is; depth = ap (λ w. depth_after w 1) is }

-- What is derived at a level has no looser operator outside brackets, ends an operand and leaves no bracket open.
mutual
  pub whole : (k : ℕ) (c : List Token) (e : Shape) → Derives k c e → QuietTo k false 0 true 0 c
  whole _ _ _ (down k c e high d) = weaker k (suc k) false true 0 0 c (omega arith) (whole (suc k) c e d)
  whole _ _ _ (joins line op a t us b e f da o db) =
      let l = infix_is_level op in
      let k : ℕ = infix_level op in
      row k false true true 0 0 0 a (t ∷ (us ++ b)) (weaker k (left_level k) false true 0 0 a l.left (whole (left_level k) a e da))
      (row k true false true 0 0 0 (t ∷ us) b (operator-stands k t us (Binary line op) (omega arith) (omega (arith, l.high)) o)
      (weaker k (right_level k) false true 0 0 b l.right (whole (right_level k) b f db)))
  whole _ _ _ (picks line x a t us e d o) =
      row 11 false true true 0 0 0 a (t ∷ us) (whole 11 a e d) (operator-stands 11 t us (Field line x) (omega arith) (omega arith) o)
  whole _ _ _ (behind p us c e is d) =
      row (prefix_level p) false false true 0 0 0 us c (start-stands (prefix_level p) us (Before p) (prefix_low p).1 is) (whole (prefix_level p) c e d)
  whole _ _ _ (alone line a us is) = start-stands 12 us (Leaf line a) (omega arith) is
  whole _ _ _ (inside us c t e is d close) =
      row 12 false false true 0 1 0 us (c ++ t ∷ []) (start-stands 12 us Round (omega arith) is)
      (row 12 false true true 1 1 0 c (t ∷ []) (deeper 1 false true c (whole 1 c e d)) (close-stands sign.RightRound t round_closes close))
  whole _ _ _ (encloses b us c es is ds) =
      row 12 false false true 0 1 0 us c (start-stands 12 us (Open b) (omega arith) is) (wholes (closing b) c es (closing_closes b) ds)
  whole _ _ _ (binds line q x n us c m vs d t s e is ds middle de close) =
      row 12 false false true 0 1 0 us (c ++ m ∷ (vs ++ (d ++ t ∷ []))) (start-stands 12 us (Bind line q x) (omega arith) is)
      (row 12 false true true 1 1 0 c (m ∷ (vs ++ (d ++ t ∷ []))) (deeper 1 false true c (whole 1 c s ds))
      (row 12 true false true 1 1 0 (m ∷ vs) (d ++ t ∷ []) (middle-stands q n m vs middle)
      (row 12 false true true 1 1 0 d (t ∷ []) (deeper 1 false true d (whole 1 d e de)) (close-stands sign.RightRound t round_closes close))))

  pub wholes : (s : Sign) (c : List Token) (es : List Shape) → IsClosing s → DerivesAll s c es → QuietTo 12 false 1 true 0 c
  wholes _ _ _ closes (last s c t e d close) =
      row 12 false true true 1 1 0 c (t ∷ []) (deeper 1 false true c (whole 1 c e d)) (close-stands s t closes close)
  wholes _ _ _ closes (and_more s c t d e es dc comma ds) =
      row 12 false true true 1 1 0 c (t ∷ d) (deeper 1 false true c (whole 1 c e dc))
      (row 12 true false true 1 1 0 (t ∷ []) d (comma-stands t comma) (wholes s d es closes ds))
