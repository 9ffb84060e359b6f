use Rattle.std.specs.Prelude.{⊤}
use Rattle.std.proofs.Common.{rules, ◌≡◌, ℕ, Bool, true, false, List, [], ◌∷◌, ◌++◌, refl, ap, ◌∙◌, subst, Option, Some, None, inl, inr, ◌⊎◌}
use Rattle.std.proofs.lemmas.Option.{same_Some, some_pair_parts}
use Rattle.c2po_lexer.specs.declared.token.Sign.{Sign}
use Rattle.c2po_lexer.specs.declared.token.Sign.TheVariants as sign
use Rattle.c2po_lexer.specs.declared.token.Keyword.{Keyword}
use Rattle.c2po_lexer.specs.declared.token.Keyword.TheVariants as keyword
use Rattle.c2po_lexer.specs.declared.token.What.{What}
use Rattle.c2po_lexer.specs.declared.token.What.TheVariants as what
use Rattle.c2po_lexer.specs.declared.token.Token.{Token}
use Rattle.c2po_lexer.specs.Tokens.{HasPlainLetters}
use Rattle.mltl_base.specs.declared.operators.BetweenOp.{BetweenOp}
use Rattle.c2po_ast.specs.declared.operator.Infix.{Infix}
use Rattle.c2po_ast.specs.declared.operator.Infix.TheVariants.{Logic, Between, Compare, Arith}
use Rattle.mltl_base.specs.declared.operators.ArithOp.TheVariants as arith_op
use Rattle.mltl_base.specs.declared.operators.CompareOp.TheVariants as compare_op
use Rattle.mltl_base.specs.declared.operators.LogicOp.TheVariants as logic_op
use Rattle.c2po_parse.specs.declared.operator.Operator.{Operator}
use Rattle.c2po_parse.specs.declared.operator.Operator.TheVariants.{Binary, Field}
use Rattle.c2po_parse.specs.Tokens.{is_sign, sign_level, word_level, token_level, ends_operand, depth_after, is_separator}
use Rattle.c2po_parse.specs.Fronts.{◌>>=◌, word_in, name_at, interval_at, sign_infix, word_between, field_pick, sign_operator, operator_in, operator_at, infix_level, level_of}
use Rattle.c2po_ast.specs.Names.{IsPlainName}
use Rattle.c2po_parse.proofs.Words.{PlainWords, words-head, word-plain}
use Rattle.c2po_parse.proofs.Walks.{bind-some, ends_of, depth_of, Quiet}
use Rattle.c2po_parse.proofs.Heads.{IsInterval, interval_at-front, plain-of}

-- The operator at the front of a token list, apart from what follows it.

-- what is known of a sign that is an operator
record IsInfixSign (s : Sign) (op : Infix) : Type 0 where
  level : sign_level s ≡ infix_level op
  apart : is_separator (what.Sign s) ≡ false
  operand : ends_operand (what.Sign s) ≡ false
  flat : (d : ℕ) → depth_after (what.Sign s) d ≡ d
  reads : (line : ℕ) (ts : List Token) → sign_operator line s ts ≡ Some (Binary line op, ts)

InfixSign : Sign → Option Infix → Type 0
InfixSign s None = ⊤
InfixSign s (Some op) = IsInfixSign s op

infix_sign : (s : Sign) → InfixSign s (sign_infix s)
unfolding InfixSign
infix_sign sign.Iff = record { level = refl; apart = refl; operand = refl; flat = λ d. refl; reads = λ line ts. refl }
infix_sign _ = search rules

infix-is : (s : Sign) (op : Infix) → sign_infix s ≡ Some op → IsInfixSign s op
unfolding InfixSign
infix-is s op h = subst (InfixSign s) h (infix_sign s)

-- a sign begins a picked field or is an operator by itself
sign_operator-cases : (line : ℕ) (s : Sign) (ts : List Token) (r : Operator × List Token) → sign_operator line s ts ≡ Some r →
    ((s ≡ sign.Dot) × (field_pick ts ≡ Some r)) ⊎ ((op : Infix) × (sign_infix s ≡ Some op) × ((Binary line op, ts) ≡ r))
sign_operator-cases line sign.Dot ts r h = inl (refl, h)
sign_operator-cases line sign.Iff ts r h = inr (Logic logic_op.Iff, refl, same_Some (Binary line (Logic logic_op.Iff), ts) r h)
sign_operator-cases line sign.Implies ts r h = inr (Logic logic_op.Implies, refl, same_Some (Binary line (Logic logic_op.Implies), ts) r h)
sign_operator-cases line sign.OrOr ts r h = inr (Logic logic_op.Or, refl, same_Some (Binary line (Logic logic_op.Or), ts) r h)
sign_operator-cases line sign.AndAnd ts r h = inr (Logic logic_op.And, refl, same_Some (Binary line (Logic logic_op.And), ts) r h)
sign_operator-cases line sign.EqualEqual ts r h = inr (Compare compare_op.Eq, refl, same_Some (Binary line (Compare compare_op.Eq), ts) r h)
sign_operator-cases line sign.NotEqual ts r h = inr (Compare compare_op.Ne, refl, same_Some (Binary line (Compare compare_op.Ne), ts) r h)
sign_operator-cases line sign.Less ts r h = inr (Compare compare_op.Lt, refl, same_Some (Binary line (Compare compare_op.Lt), ts) r h)
sign_operator-cases line sign.LessEqual ts r h = inr (Compare compare_op.Le, refl, same_Some (Binary line (Compare compare_op.Le), ts) r h)
sign_operator-cases line sign.Greater ts r h = inr (Compare compare_op.Gt, refl, same_Some (Binary line (Compare compare_op.Gt), ts) r h)
sign_operator-cases line sign.GreaterEqual ts r h = inr (Compare compare_op.Ge, refl, same_Some (Binary line (Compare compare_op.Ge), ts) r h)
sign_operator-cases line sign.Plus ts r h = inr (Arith arith_op.Add, refl, same_Some (Binary line (Arith arith_op.Add), ts) r h)
sign_operator-cases line sign.Minus ts r h = inr (Arith arith_op.Sub, refl, same_Some (Binary line (Arith arith_op.Sub), ts) r h)
sign_operator-cases line sign.Star ts r h = inr (Arith arith_op.Mul, refl, same_Some (Binary line (Arith arith_op.Mul), ts) r h)
sign_operator-cases line sign.Slash ts r h = inr (Arith arith_op.Div, refl, same_Some (Binary line (Arith arith_op.Div), ts) r h)
sign_operator-cases line sign.Percent ts r h = inr (Arith arith_op.Rem, refl, same_Some (Binary line (Arith arith_op.Rem), ts) r h)
sign_operator-cases line _ ts r h = absurd (cc)

-- what is known of a word that is an operator
record IsBetweenWord (k : Keyword) : Type 0 where
  level : word_level k ≡ 5
  operand : ends_operand (what.Reserved k) ≡ false

between_word : (k : Keyword) (op : BetweenOp) → word_between k ≡ Some op → IsBetweenWord k
between_word keyword.U op h = record { level = refl; operand = refl }
between_word keyword.R op h = record { level = refl; operand = refl }
between_word keyword.S op h = record { level = refl; operand = refl }
between_word _ op h = absurd (cc)

-- whether an operator ends an operand: a picked field does
abbrev pub is_field : Operator → Bool
is_field (Binary line op) = false
is_field (Field line x) = true

-- the name of a picked field is plain
abbrev pub OperatorNames : Operator → Type 0
OperatorNames (Binary line op) = ⊤
OperatorNames (Field line x) = IsPlainName x

-- An operator: its first token, and its interval or the field's name.
pub record IsOperator (t : Token) (us : List Token) (o : Operator) : Type 0 where
  pub reads : (z : List Token) → operator_at (t ∷ us ++ z) ≡ Some (o, z)
  pub level : token_level t.what ≡ level_of o
  pub apart : is_separator t.what ≡ false
  pub operand : ends_operand t.what ≡ false
  pub flat : (d : ℕ) → depth_after t.what d ≡ d
  pub quiet : Quiet 12 false 0 us
  pub ends : ends_of false us ≡ is_field o
  pub depth : depth_of 0 us ≡ 0
  pub names : PlainWords us → OperatorNames o

pub record OperatorFront (o : Operator) (ts rest : List Token) : Type 0 where
  pub at : Token
  pub front : List Token
  pub joined : ts ≡ at ∷ (front ++ rest)
  pub is : IsOperator at front o

infix-operator : (t : Token) (s : Sign) (op : Infix) → t.what ≡ what.Sign s → IsInfixSign s op → IsOperator t [] (Binary t.line op)
unfolding operator_at Quiet ends_of depth_of
infix-operator t s op is f = record {
  reads = λ z. ap (λ w. operator_in t.line w z) is ∙ f.reads t.line z;
  level = ap token_level is ∙ f.level;
  apart = ap is_separator is ∙ f.apart;
  operand = ap ends_operand is ∙ f.operand;
  flat = λ d. ap (λ w. depth_after w d) is ∙ f.flat d;
  quiet = tt;
  ends = refl;
  depth = refl;
  names = λ words. tt;
}

word_in-is : (w : What) (ts : List Token) (x : List ℕ) (rest : List Token) → word_in w ts ≡ Some (x, rest) → (w ≡ what.Word x) × (ts ≡ rest)
word_in-is (what.Word y) ts x rest h = let p = some_pair_parts y x ts rest h in (ap what.Word p.0, p.1)
word_in-is _ ts x rest h = absurd (cc)

-- a name at the front
pub record Names (x : List ℕ) (ts rest : List Token) : Type 0 where
  pub at : Token
  pub is : at.what ≡ what.Word x
  pub joined : ts ≡ at ∷ rest

pub name_at-names : (ts : List Token) (x : List ℕ) (rest : List Token) → name_at ts ≡ Some (x, rest) → Names x ts rest
name_at-names [] x rest h = absurd (cc)
name_at-names (t ∷ ts) x rest h =
    let p = word_in-is t.what ts x rest h in record { at = t; is = p.0; joined = ap (λ us. t ∷ us) p.1 }

pub name_at-at : (t : Token) (x : List ℕ) (rest : List Token) → t.what ≡ what.Word x → name_at (t ∷ rest) ≡ Some (x, rest)
name_at-at t x rest is = ap (λ w. word_in w rest) is

field-reads : (n : Token) (x : List ℕ) (z : List Token) → n.what ≡ what.Word x → field_pick (n ∷ z) ≡ Some (Field n.line x, z)
field-reads n x z is = rw is refl

field-operator : (t n : Token) (x : List ℕ) → t.what ≡ what.Sign sign.Dot → n.what ≡ what.Word x → IsOperator t (n ∷ []) (Field n.line x)
unfolding operator_at Quiet ends_of depth_of
field-operator t n x is named = record {
  reads = λ z. ap (λ w. operator_in t.line w (n ∷ z)) is ∙ field-reads n x z named;
  level = ap token_level is;
  apart = ap is_separator is;
  operand = ap ends_operand is;
  flat = λ d. ap (λ w. depth_after w d) is;
  quiet = (plain-of 12 false n (what.Word x) named refl refl, tt);
  ends = ap ends_operand named;
  depth = ap (λ w. depth_after w 0) named;
  names = λ words. word-plain n.what x named (words-head HasPlainLetters n [] words);
}

field_of-front : (t : Token) (ts : List Token) (o : Operator) (rest : List Token) → t.what ≡ what.Sign sign.Dot →
    field_pick ts ≡ Some (o, rest) → OperatorFront o (t ∷ ts) rest
field_of-front t [] o rest is h = absurd (cc)
field_of-front t (n ∷ ts) o rest is h =
    let p = bind-some (word_in n.what ts) (λ x. Some (Field n.line x.0, x.1)) (o, rest) h in
    let q = word_in-is n.what ts p.0.0 p.0.1 p.1 in
    let same = some_pair_parts (Field n.line p.0.0) o p.0.1 rest p.2 in
    record {
      at = t;
      front = n ∷ [];
      joined = ap (λ us. t ∷ n ∷ us) (q.1 ∙ same.1);
      is = subst (IsOperator t (n ∷ [])) same.0 (field-operator t n p.0.0 is q.0);
    }

between-reads : (line : ℕ) (k : Keyword) (op : BetweenOp) (a b : ℕ) (us z : List Token) → word_between k ≡ Some op → IsInterval a b us →
    operator_in line (what.Reserved k) (us ++ z) ≡ Some (Binary line (Between op a b), z)
between-reads line k op a b us z word interval = rw (word, interval.reads z) refl

between-operator : (t : Token) (k : Keyword) (op : BetweenOp) (a b : ℕ) (us : List Token) → t.what ≡ what.Reserved k →
    word_between k ≡ Some op → IsInterval a b us → IsOperator t us (Binary t.line (Between op a b))
unfolding operator_at
between-operator t k op a b us is word interval =
    let f = between_word k op word in
    record {
      reads = λ z. ap (λ w. operator_in t.line w (us ++ z)) is ∙ between-reads t.line k op a b us z word interval;
      level = ap token_level is ∙ f.level;
      apart = ap is_separator is;
      operand = ap ends_operand is ∙ f.operand;
      flat = λ d. ap (λ w. depth_after w d) is;
      quiet = interval.quiet;
      ends = interval.ends;
      depth = interval.depth;
      names = λ words. tt;
    }

operator_in-front : (t : Token) (w : What) (ts : List Token) (o : Operator) (rest : List Token) → t.what ≡ w →
    operator_in t.line w ts ≡ Some (o, rest) → OperatorFront o (t ∷ ts) rest
operator_in-front t (what.Sign s) ts o rest is h = elim (sign_operator-cases t.line s ts (o, rest) h) [
  | inl p ↦ field_of-front t ts o rest (is ∙ ap what.Sign p.0) p.1
  | inr p ↦
      let same : ◌≡◌ {A = Operator × List Token} (Binary t.line p.0, ts) (o, rest) = p.2 in
      record {
        at = t;
        front = [];
        joined = ap (λ (x : Operator × List Token). t ∷ x.1) same;
        is = subst (IsOperator t []) (ap (λ (x : Operator × List Token). x.0) same) (infix-operator t s p.0 is (infix-is s p.0 p.1));
      }
]
operator_in-front t (what.Reserved k) ts o rest is h =
    let p = bind-some (word_between k) (λ op. interval_at ts >>= λ i. Some (Binary t.line (Between op i.0 i.1), i.2)) (o, rest) h in
    let q = bind-some (interval_at ts) (λ i. Some (Binary t.line (Between p.0 i.0 i.1), i.2)) (o, rest) p.2 in
    let interval = interval_at-front q.0.0 q.0.1 ts q.0.2 q.1 in
    let same = some_pair_parts (Binary t.line (Between p.0 q.0.0 q.0.1)) o q.0.2 rest q.2 in
    record {
      at = t;
      front = interval.front;
      joined = ap (λ us. t ∷ us) (interval.joined ∙ ap (λ us. interval.front ++ us) same.1);
      is = subst (IsOperator t interval.front) same.0 (between-operator t k p.0 q.0.0 q.0.1 interval.front is p.1 interval.is);
    }
operator_in-front t _ ts o rest is h = absurd (cc)

pub operator_at-front : (ts : List Token) (o : Operator) (rest : List Token) → operator_at ts ≡ Some (o, rest) → OperatorFront o ts rest
unfolding operator_at
operator_at-front [] o rest h = absurd (cc)
operator_at-front (t ∷ ts) o rest h = operator_in-front t t.what ts o rest refl h

-- no operator begins with a sign that ends expressions, and neither does a call
pub separator-none : (w : What) (line : ℕ) (ts : List Token) → is_separator w ≡ true → operator_in line w ts ≡ None
separator-none (what.Sign sign.RightRound) line ts h = refl
separator-none _ line ts h = cc

pub separator-closed : (w : What) → is_separator w ≡ true → is_sign sign.LeftRound w ≡ false
separator-closed (what.Sign sign.RightRound) h = refl
separator-closed _ h = cc
