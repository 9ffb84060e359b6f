use Rattle.std.specs.Prelude.{⊤}
use Rattle.std.proofs.Common.{◌≡◌, ℕ, ◌≤◌, Bool, true, false, List, [], ◌∷◌, ◌++◌, length, refl, ap, ◌∙◌, subst, arith, Option, Some, None}
use Rattle.std.proofs.lemmas.Option.{same_Some, some_pair_parts}
use Rattle.c2po_lexer.specs.declared.token.Sign.{Sign}
use Rattle.c2po_lexer.specs.declared.token.Sign.TheVariants as sign
use Rattle.c2po_lexer.specs.declared.token.Keyword.{Keyword}
use Rattle.c2po_lexer.specs.declared.token.Keyword.TheVariants as keyword
use Rattle.c2po_lexer.specs.declared.token.What.{What}
use Rattle.c2po_lexer.specs.declared.token.What.TheVariants as what
use Rattle.c2po_lexer.specs.declared.token.Token.{Token}
use Rattle.mltl_base.specs.declared.operators.WindowOp.{WindowOp}
use Rattle.c2po_ast.specs.declared.operator.Prefix.TheVariants.{Not, Minus, Window}
use Rattle.c2po_ast.specs.declared.operator.Quantifier.{Quantifier}
use Rattle.c2po_ast.specs.declared.operator.Quantifier.TheVariants.{Each, Exists, Count}
use Rattle.c2po_ast.specs.declared.operator.Bracket.{Bracket}
use Rattle.c2po_ast.specs.declared.operator.Bracket.TheVariants.{Curly, Call}
use Rattle.c2po_ast.specs.declared.operator.Atom.{Atom}
use Rattle.c2po_ast.specs.declared.operator.Atom.TheVariants.{Number, Truth, Ref}
use Rattle.c2po_parse.specs.declared.operator.Start.{Start}
use Rattle.c2po_parse.specs.declared.operator.Start.TheVariants.{Leaf, Before, Round, Open, Bind}
use Rattle.c2po_parse.specs.Tokens.{word_level, level_after, ends_operand, depth_after, is_separator}
use Rattle.c2po_parse.specs.Fronts.{◌>>=◌, past, name_at, natural_in, natural_at, interval_at, word_window, word_quantifier, named_or_called, bound_start, window_start, word_start, sign_start, start_in, start_at, threshold_at, middle_at}
use Rattle.c2po_lexer.specs.Tokens.{HasPlainLetters}
use Rattle.c2po_ast.specs.Names.{IsPlainName}
use Rattle.c2po_parse.proofs.Words.{PlainWords, words-head, words-tail, word-plain}
use Rattle.c2po_parse.proofs.Walks.{bind-some, ends_of, depth_of, Quiet}
use Rattle.c2po_parse.proofs.Heads.{past-begins, past-at, natural_at-counts, natural_at-at, natural-flat, IsInterval, interval_at-front, plain-of}
use Rattle.c2po_parse.proofs.Operators.{name_at-names, name_at-at}
use Rattle.mltl_base.specs.declared.operators.CountOp.{CountOp}
use Rattle.mltl_base.specs.declared.operators.CountOp.TheVariants as count_op

-- The beginning of an operand at the front of a token list, apart from what follows it.

-- whether a beginning is a whole operand
abbrev pub is_leaf : Start → Bool
is_leaf (Leaf line a) = true
is_leaf _ = false

-- how many brackets it opens
abbrev pub opened : Start → ℕ
opened (Leaf line a) = 0
opened (Before p) = 0
opened _ = 1

-- the names in a beginning are plain
abbrev pub AtomNames : Atom → Type 0
AtomNames (Number n) = ⊤
AtomNames (Truth b) = ⊤
AtomNames (Ref x) = IsPlainName x

abbrev pub BracketNames : Bracket → Type 0
BracketNames (Curly line) = ⊤
BracketNames (Call line x) = IsPlainName x

abbrev pub StartNames : Start → Type 0
StartNames (Leaf line a) = AtomNames a
StartNames (Before p) = ⊤
StartNames Round = ⊤
StartNames (Open b) = BracketNames b
StartNames (Bind line q x) = IsPlainName x

-- The beginning of an operand: its tokens. A name alone is one only where no `(` follows.
pub record IsStart (us : List Token) (s : Start) : Type 0 where
  pub reads : (z : List Token) → (is_leaf s ≡ true → past sign.LeftRound z ≡ None) → start_at (us ++ z) ≡ Some (s, z)
  pub quiet : Quiet 12 false 0 us
  pub ends : ends_of false us ≡ is_leaf s
  pub depth : depth_of 0 us ≡ opened s
  pub some : 1 ≤ length us
  pub names : PlainWords us → StartNames s

pub record StartFront (s : Start) (ts rest : List Token) : Type 0 where
  pub front : List Token
  pub joined : ts ≡ front ++ rest
  pub is : IsStart front s

-- a beginning of one token
one-start : (t : Token) (w : What) (s : Start) → t.what ≡ w → ((z : List Token) → (is_leaf s ≡ true → past sign.LeftRound z ≡ None) → start_in t.line w z ≡ Some (s, z)) →
    is_separator w ≡ false → level_after false w ≡ 0 → ends_operand w ≡ is_leaf s → depth_after w 0 ≡ opened s →
    (HasPlainLetters w → StartNames s) → IsStart (t ∷ []) s
unfolding start_at Quiet ends_of depth_of
one-start t w s is reads apart level ends depth names = record {
  reads = λ z none. ap (λ v. start_in t.line v z) is ∙ reads z none;
  quiet = (plain-of 12 false t w is apart level, tt);
  ends = ap ends_operand is ∙ ends;
  depth = ap (λ v. depth_after v 0) is ∙ depth;
  some = omega arith;
  names = λ words. names (subst HasPlainLetters is (words-head HasPlainLetters t [] words));
}

one-front : (t : Token) (ts : List Token) (w : What) (s r : Start) (rest : List Token) → t.what ≡ w →
    ((z : List Token) → (is_leaf s ≡ true → past sign.LeftRound z ≡ None) → start_in t.line w z ≡ Some (s, z)) →
    is_separator w ≡ false → level_after false w ≡ 0 → ends_operand w ≡ is_leaf s → depth_after w 0 ≡ opened s →
    (HasPlainLetters w → StartNames s) → ◌≡◌ {A = Option (Start × List Token)} (Some (s, ts)) (Some (r, rest)) → StartFront r (t ∷ ts) rest
one-front t ts w s r rest is reads apart level ends depth names h =
    let same = some_pair_parts s r ts rest h in
    record {
      front = t ∷ [];
      joined = ap (λ us. t ∷ us) same.1;
      is = subst (IsStart (t ∷ [])) same.0 (one-start t w s is reads apart level ends depth names);
    }

-- a call
call-start : (t o : Token) (x : List ℕ) → t.what ≡ what.Word x → o.what ≡ what.Sign sign.LeftRound → IsStart (t ∷ o ∷ []) (Open (Call t.line x))
unfolding start_at Quiet ends_of depth_of
call-start t o x is opens = record {
  reads = λ z none. ap (λ w. start_in t.line w (o ∷ z)) is ∙ ap (λ v. Some (named_or_called t.line x (o ∷ z) v)) (past-at sign.LeftRound o z opens);
  quiet = (plain-of 12 false t (what.Word x) is refl refl, rw is (plain-of 12 true o (what.Sign sign.LeftRound) opens refl refl, tt));
  ends = ap ends_operand opens;
  depth = rw (is, opens) refl;
  some = omega arith;
  names = λ words. word-plain t.what x is (words-head HasPlainLetters t (o ∷ []) words);
}

-- a name alone, or a call
named-front : (t : Token) (x : List ℕ) (ts : List Token) (s : Start) (rest : List Token) (v : Option (List Token)) → t.what ≡ what.Word x →
    past sign.LeftRound ts ≡ v → ◌≡◌ {A = Option (Start × List Token)} (Some (named_or_called t.line x ts v)) (Some (s, rest)) →
    StartFront s (t ∷ ts) rest
named-front t x ts s rest None is none h =
    one-front t ts (what.Word x) (Leaf t.line (Ref x)) s rest is
    (λ z follows. ap (λ v. Some (named_or_called t.line x z v)) (follows refl)) refl refl refl refl (λ plain. plain) h
named-front t x ts s rest (Some us) is opens h =
    let begins = past-begins sign.LeftRound ts us opens in
    let same = some_pair_parts (Open (Call t.line x)) s us rest h in
    record {
      front = t ∷ begins.at ∷ [];
      joined = ap (λ vs. t ∷ vs) (begins.joined ∙ ap (λ vs. begins.at ∷ vs) same.1);
      is = subst (IsStart (t ∷ begins.at ∷ [])) same.0 (call-start t begins.at x is begins.is);
    }

-- what is known of the words that begin operands
record IsPlainWord (k : Keyword) : Type 0 where
  level : word_level k ≡ 0
  operand : ends_operand (what.Reserved k) ≡ false

window_word : (k : Keyword) (op : WindowOp) → word_window k ≡ Some op → IsPlainWord k
window_word keyword.F op h = record { level = refl; operand = refl }
window_word keyword.G op h = record { level = refl; operand = refl }
window_word keyword.O op h = record { level = refl; operand = refl }
window_word keyword.H op h = record { level = refl; operand = refl }
window_word _ op h = absurd (cc)

quantifier_word : (k : Keyword) (q : Quantifier) → word_quantifier k ≡ Some q → IsPlainWord k
quantifier_word keyword.ForEach q h = record { level = refl; operand = refl }
quantifier_word keyword.ForSome q h = record { level = refl; operand = refl }
quantifier_word keyword.ForExactly q h = record { level = refl; operand = refl }
quantifier_word keyword.ForAtLeast q h = record { level = refl; operand = refl }
quantifier_word keyword.ForAtMost q h = record { level = refl; operand = refl }
quantifier_word _ q h = absurd (cc)

word_start-window : (line : ℕ) (k : Keyword) (op : WindowOp) (ts : List Token) → word_window k ≡ Some op →
    word_start line k ts (word_quantifier k) ≡ window_start line k ts
word_start-window line keyword.F op ts h = refl
word_start-window line keyword.G op ts h = refl
word_start-window line keyword.O op ts h = refl
word_start-window line keyword.H op ts h = refl
word_start-window line _ op ts h = absurd (cc)

word_start-bound : (line : ℕ) (k : Keyword) (q : Quantifier) (ts : List Token) → word_quantifier k ≡ Some q →
    word_start line k ts (word_quantifier k) ≡ bound_start line q ts
word_start-bound line keyword.ForEach q ts h = ap (λ r. bound_start line r ts) (same_Some Each q h)
word_start-bound line keyword.ForSome q ts h = ap (λ r. bound_start line r ts) (same_Some Exists q h)
word_start-bound line keyword.ForExactly q ts h = ap (λ r. bound_start line r ts) (same_Some (Count count_op.Exactly) q h)
word_start-bound line keyword.ForAtLeast q ts h = ap (λ r. bound_start line r ts) (same_Some (Count count_op.AtLeast) q h)
word_start-bound line keyword.ForAtMost q ts h = ap (λ r. bound_start line r ts) (same_Some (Count count_op.AtMost) q h)
word_start-bound line _ q ts h = absurd (cc)

window-reads : (line : ℕ) (k : Keyword) (op : WindowOp) (a b : ℕ) (us z : List Token) → word_window k ≡ Some op → IsInterval a b us →
    window_start line k (us ++ z) ≡ Some (Before (Window line op a b), z)
window-reads line k op a b us z word interval = rw (word, interval.reads z) refl

-- a temporal prefix
window-start : (t : Token) (k : Keyword) (op : WindowOp) (a b : ℕ) (us : List Token) → t.what ≡ what.Reserved k → word_window k ≡ Some op →
    IsInterval a b us → IsStart (t ∷ us) (Before (Window t.line op a b))
unfolding start_at Quiet ends_of depth_of
window-start t k op a b us is word interval =
    let f = window_word k op word in
    record {
      reads = λ z none. ap (λ w. start_in t.line w (us ++ z)) is ∙ word_start-window t.line k op (us ++ z) word ∙ window-reads t.line k op a b us z word interval;
      quiet = (plain-of 12 false t (what.Reserved k) is refl f.level, rw (is, f.operand) interval.quiet);
      ends = rw (is, f.operand) interval.ends;
      depth = rw is interval.depth;
      some = omega arith;
      names = λ words. tt;
    }

window-front : (t : Token) (k : Keyword) (ts : List Token) (s : Start) (rest : List Token) → t.what ≡ what.Reserved k →
    window_start t.line k ts ≡ Some (s, rest) → StartFront s (t ∷ ts) rest
window-front t k ts s rest is h =
    let p = bind-some (word_window k) (λ op. interval_at ts >>= λ i. Some (Before (Window t.line op i.0 i.1), i.2)) (s, rest) h in
    let q = bind-some (interval_at ts) (λ i. Some (Before (Window t.line p.0 i.0 i.1), i.2)) (s, rest) p.2 in
    let interval = interval_at-front q.0.0 q.0.1 ts q.0.2 q.1 in
    let same = some_pair_parts (Before (Window t.line p.0 q.0.0 q.0.1)) s q.0.2 rest q.2 in
    record {
      front = t ∷ interval.front;
      joined = ap (λ us. t ∷ us) (interval.joined ∙ ap (λ us. interval.front ++ us) same.1);
      is = subst (IsStart (t ∷ interval.front)) same.0 (window-start t k p.0 q.0.0 q.0.1 interval.front is p.1 interval.is);
    }

bind-reads : (line : ℕ) (q : Quantifier) (o n c : Token) (x : List ℕ) (z : List Token) → o.what ≡ what.Sign sign.LeftRound → n.what ≡ what.Word x →
    c.what ≡ what.Sign sign.Colon → bound_start line q (o ∷ n ∷ c ∷ z) ≡ Some (Bind line q x, z)
bind-reads line q o n c x z opens named colon =
    rw (past-at sign.LeftRound o (n ∷ c ∷ z) opens, name_at-at n x (c ∷ z) named, past-at sign.Colon c z colon) refl

-- a quantifier's word with its variable
bind-start : (t o n c : Token) (k : Keyword) (q : Quantifier) (x : List ℕ) → t.what ≡ what.Reserved k → word_quantifier k ≡ Some q →
    o.what ≡ what.Sign sign.LeftRound → n.what ≡ what.Word x → c.what ≡ what.Sign sign.Colon → IsStart (t ∷ o ∷ n ∷ c ∷ []) (Bind t.line q x)
unfolding start_at Quiet ends_of depth_of
bind-start t o n c k q x is word opens named colon =
    let f = quantifier_word k q word in
    record {
      reads = λ z none. ap (λ w. start_in t.line w (o ∷ n ∷ c ∷ z)) is ∙ word_start-bound t.line k q (o ∷ n ∷ c ∷ z) word
          ∙ bind-reads t.line q o n c x z opens named colon;
      quiet = (
        plain-of 12 false t (what.Reserved k) is refl f.level,
        rw (is, f.operand) (plain-of 12 false o (what.Sign sign.LeftRound) opens refl refl, rw (opens, named) (tt, (tt, tt))),
      );
      ends = ap ends_operand colon;
      depth = rw (is, opens, named, colon) refl;
      some = omega arith;
      names = λ words. word-plain n.what x named (words-head HasPlainLetters n (c ∷ []) (words-tail HasPlainLetters o (n ∷ c ∷ []) (words-tail HasPlainLetters t (o ∷ n ∷ c ∷ []) words)));
    }

bind-front : (t : Token) (k : Keyword) (q : Quantifier) (ts : List Token) (s : Start) (rest : List Token) → t.what ≡ what.Reserved k →
    word_quantifier k ≡ Some q → bound_start t.line q ts ≡ Some (s, rest) → StartFront s (t ∷ ts) rest
bind-front t k q ts s rest is word h =
    let p = bind-some (past sign.LeftRound ts) (λ us. name_at us >>= λ x. past sign.Colon x.1 >>= λ vs. Some (Bind t.line q x.0, vs)) (s, rest) h in
    let n = bind-some (name_at p.0) (λ x. past sign.Colon x.1 >>= λ vs. Some (Bind t.line q x.0, vs)) (s, rest) p.2 in
    let c = bind-some (past sign.Colon n.0.1) (λ vs. Some (Bind t.line q n.0.0, vs)) (s, rest) n.2 in
    let opens = past-begins sign.LeftRound ts p.0 p.1 in
    let named = name_at-names p.0 n.0.0 n.0.1 n.1 in
    let colon = past-begins sign.Colon n.0.1 c.0 c.1 in
    let same = some_pair_parts (Bind t.line q n.0.0) s c.0 rest c.2 in
    record {
      front = t ∷ opens.at ∷ named.at ∷ colon.at ∷ [];
      joined = ap (λ us. t ∷ us) (opens.joined ∙ ap (λ us. opens.at ∷ us) (named.joined ∙ ap (λ us. named.at ∷ us)
          (colon.joined ∙ ap (λ us. colon.at ∷ us) same.1)));
      is = subst (IsStart (t ∷ opens.at ∷ named.at ∷ colon.at ∷ [])) same.0
          (bind-start t opens.at named.at colon.at k q n.0.0 is word opens.is named.is colon.is);
    }

-- a word begins a truth, a quantifier or a temporal prefix
word-front : (t : Token) (k : Keyword) (ts : List Token) (s : Start) (rest : List Token) → t.what ≡ what.Reserved k →
    word_start t.line k ts (word_quantifier k) ≡ Some (s, rest) → StartFront s (t ∷ ts) rest
word-front t keyword.True ts s rest is h =
    one-front t ts (what.Reserved keyword.True) (Leaf t.line (Truth true)) s rest is (λ z none. refl) refl refl refl refl (λ plain. tt) h
word-front t keyword.False ts s rest is h =
    one-front t ts (what.Reserved keyword.False) (Leaf t.line (Truth false)) s rest is (λ z none. refl) refl refl refl refl (λ plain. tt) h
word-front t keyword.ForEach ts s rest is h = bind-front t keyword.ForEach Each ts s rest is refl h
word-front t keyword.ForSome ts s rest is h = bind-front t keyword.ForSome Exists ts s rest is refl h
word-front t keyword.ForExactly ts s rest is h = bind-front t keyword.ForExactly (Count count_op.Exactly) ts s rest is refl h
word-front t keyword.ForAtLeast ts s rest is h = bind-front t keyword.ForAtLeast (Count count_op.AtLeast) ts s rest is refl h
word-front t keyword.ForAtMost ts s rest is h = bind-front t keyword.ForAtMost (Count count_op.AtMost) ts s rest is refl h
word-front t keyword.F ts s rest is h = window-front t keyword.F ts s rest is h
word-front t keyword.G ts s rest is h = window-front t keyword.G ts s rest is h
word-front t keyword.O ts s rest is h = window-front t keyword.O ts s rest is h
word-front t keyword.H ts s rest is h = window-front t keyword.H ts s rest is h
word-front t _ ts s rest is h = absurd (cc)

sign-front : (t : Token) (r : Sign) (ts : List Token) (s : Start) (rest : List Token) → t.what ≡ what.Sign r →
    sign_start t.line r ts ≡ Some (s, rest) → StartFront s (t ∷ ts) rest
sign-front t sign.Bang ts s rest is h = one-front t ts (what.Sign sign.Bang) (Before (Not t.line)) s rest is (λ z none. refl) refl refl refl refl (λ plain. tt) h
sign-front t sign.Minus ts s rest is h = one-front t ts (what.Sign sign.Minus) (Before (Minus t.line)) s rest is (λ z none. refl) refl refl refl refl (λ plain. tt) h
sign-front t sign.LeftRound ts s rest is h = one-front t ts (what.Sign sign.LeftRound) Round s rest is (λ z none. refl) refl refl refl refl (λ plain. tt) h
sign-front t sign.LeftCurly ts s rest is h =
    one-front t ts (what.Sign sign.LeftCurly) (Open (Curly t.line)) s rest is (λ z none. refl) refl refl refl refl (λ plain. tt) h
sign-front t _ ts s rest is h = absurd (cc)

start_in-front : (t : Token) (w : What) (ts : List Token) (s : Start) (rest : List Token) → t.what ≡ w →
    start_in t.line w ts ≡ Some (s, rest) → StartFront s (t ∷ ts) rest
start_in-front t (what.Number n) ts s rest is h =
    one-front t ts (what.Number n) (Leaf t.line (Number n)) s rest is (λ z none. refl) refl refl refl refl (λ plain. tt) h
start_in-front t (what.Word x) ts s rest is h = named-front t x ts s rest (past sign.LeftRound ts) is refl h
start_in-front t (what.Reserved k) ts s rest is h = word-front t k ts s rest is h
start_in-front t (what.Sign r) ts s rest is h = sign-front t r ts s rest is h

pub start_at-front : (ts : List Token) (s : Start) (rest : List Token) → start_at ts ≡ Some (s, rest) → StartFront s ts rest
unfolding start_at
start_at-front [] s rest h = absurd (cc)
start_at-front (t ∷ ts) s rest h = start_in-front t t.what ts s rest refl h

-- What stands between a quantifier's set and its body. It begins with a sign that ends the set.
pub record IsMiddle (q : Quantifier) (n : ℕ) (t : Token) (us : List Token) : Type 0 where
  pub reads : (z : List Token) → middle_at q (t ∷ us ++ z) ≡ Some (n, z)
  pub apart : is_separator t.what ≡ true
  pub quiet : Quiet 12 true 1 (t ∷ us)
  pub ends : ends_of true (t ∷ us) ≡ false
  pub depth : depth_of 1 (t ∷ us) ≡ 1

pub record MiddleFront (q : Quantifier) (n : ℕ) (ts rest : List Token) : Type 0 where
  pub at : Token
  pub front : List Token
  pub joined : ts ≡ at ∷ (front ++ rest)
  pub is : IsMiddle q n at front

plain-middle : (q : Quantifier) (r o : Token) → ((z : List Token) → threshold_at q z ≡ Some (0, z)) → r.what ≡ what.Sign sign.RightRound →
    o.what ≡ what.Sign sign.LeftRound → IsMiddle q 0 r (o ∷ [])
unfolding middle_at Quiet ends_of depth_of
plain-middle q r o number close opens = record {
  reads = λ z. rw (number (r ∷ o ∷ z), past-at sign.RightRound r (o ∷ z) close, past-at sign.LeftRound o z opens) refl;
  apart = ap is_separator close;
  quiet = (tt, rw close (plain-of 12 true o (what.Sign sign.LeftRound) opens refl refl, tt));
  ends = ap ends_operand opens;
  depth = rw (close, opens) refl;
}

counted-middle : (op : CountOp) (m : ℕ) (c n r o : Token) → c.what ≡ what.Sign sign.Comma → natural_in n.what ≡ Some m →
    r.what ≡ what.Sign sign.RightRound → o.what ≡ what.Sign sign.LeftRound → IsMiddle (Count op) m c (n ∷ r ∷ o ∷ [])
unfolding middle_at Quiet ends_of depth_of
counted-middle op m c n r o comma number close opens = record {
  reads = λ z. rw (
    past-at sign.Comma c (n ∷ r ∷ o ∷ z) comma,
    natural_at-at n m (r ∷ o ∷ z) number,
    past-at sign.RightRound r (o ∷ z) close,
    past-at sign.LeftRound o z opens,
  ) refl;
  apart = ap is_separator comma;
  quiet = (
    tt,
    rw (comma, natural-flat n.what m 1 number, close)
        (tt, (tt, (plain-of 12 true o (what.Sign sign.LeftRound) opens refl refl, tt))),
  );
  ends = ap ends_operand opens;
  depth = rw (comma, natural-flat n.what m 1 number, close, opens) refl;
}

-- `)` and `(` after the number
abbrev turn : ℕ → List Token → Option (ℕ × List Token)
turn m us = past sign.RightRound us >>= λ vs. past sign.LeftRound vs >>= λ ws. Some (m, ws)

closing-front : (q : Quantifier) (m n : ℕ) (ts us rest : List Token) → ((z : List Token) → threshold_at q z ≡ Some (0, z)) →
    ◌≡◌ {A = Option (ℕ × List Token)} (Some (0, ts)) (Some (m, us)) →
    turn m us ≡ Some (n, rest) → MiddleFront q n ts rest
closing-front q m n ts us rest number same h =
    let p = bind-some (past sign.RightRound us) (λ vs. past sign.LeftRound vs >>= λ ws. Some (m, ws)) (n, rest) h in
    let o = bind-some (past sign.LeftRound p.0) (λ ws. Some (m, ws)) (n, rest) p.2 in
    let parts = some_pair_parts 0 m ts us same in
    let close = past-begins sign.RightRound us p.0 p.1 in
    let opens = past-begins sign.LeftRound p.0 o.0 o.1 in
    let last = some_pair_parts m n o.0 rest o.2 in
    record {
      at = close.at;
      front = opens.at ∷ [];
      joined = parts.1 ∙ close.joined ∙ ap (λ xs. close.at ∷ xs) (opens.joined ∙ ap (λ xs. opens.at ∷ xs) last.1);
      is = subst (λ k. IsMiddle q k close.at (opens.at ∷ [])) (parts.0 ∙ last.0) (plain-middle q close.at opens.at number close.is opens.is);
    }

pub middle_at-front : (q : Quantifier) (n : ℕ) (ts rest : List Token) → middle_at q ts ≡ Some (n, rest) → MiddleFront q n ts rest
unfolding middle_at
middle_at-front (Count op) n ts rest h =
    let m = bind-some (past sign.Comma ts >>= λ us. natural_at us) (λ x. past sign.RightRound x.1 >>= λ vs. past sign.LeftRound vs >>= λ ws. Some (x.0, ws)) (n, rest) h in
    let c = bind-some (past sign.Comma ts) (λ us. natural_at us) m.0 m.1 in
    let p = bind-some (past sign.RightRound m.0.1) (λ vs. past sign.LeftRound vs >>= λ ws. Some (m.0.0, ws)) (n, rest) m.2 in
    let o = bind-some (past sign.LeftRound p.0) (λ ws. Some (m.0.0, ws)) (n, rest) p.2 in
    let comma = past-begins sign.Comma ts c.0 c.1 in
    let number = natural_at-counts c.0 m.0.0 m.0.1 c.2 in
    let close = past-begins sign.RightRound m.0.1 p.0 p.1 in
    let opens = past-begins sign.LeftRound p.0 o.0 o.1 in
    let last = some_pair_parts m.0.0 n o.0 rest o.2 in
    record {
      at = comma.at;
      front = number.at ∷ close.at ∷ opens.at ∷ [];
      joined = comma.joined ∙ ap (λ xs. comma.at ∷ xs) (number.joined ∙ ap (λ xs. number.at ∷ xs) (close.joined ∙ ap (λ xs. close.at ∷ xs)
          (opens.joined ∙ ap (λ xs. opens.at ∷ xs) last.1)));
      is = subst (λ k. IsMiddle (Count op) k comma.at (number.at ∷ close.at ∷ opens.at ∷ [])) last.0
          (counted-middle op m.0.0 comma.at number.at close.at opens.at comma.is number.is close.is opens.is);
    }
middle_at-front x n ts rest h = closing-front x 0 n ts ts rest (λ z. refl) refl h
