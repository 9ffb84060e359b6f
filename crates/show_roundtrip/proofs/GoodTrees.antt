-- The numbers of a tree stand among its tokens.

use Rattle.std.specs.Prelude.{⊤}
use Rattle.std.proofs.Common.{◌≡◌, ◌∙◌, ℕ, ℤ, suc, List, [], ◌∷◌, ◌++◌, Option, Some, None, refl, ap, sym, subst, append-nil}
use Rattle.mltl_base.specs.declared.operators.WindowOp.{WindowOp}
use Rattle.c2po_lexer.specs.declared.token.Sign.{Sign}
use Rattle.c2po_lexer.specs.declared.token.Token.{Token}
use Rattle.c2po_ast.specs.declared.operator.Infix.{Infix}
use Rattle.c2po_ast.specs.declared.operator.Infix.TheVariants.{Logic, Between, Compare, Arith}
use Rattle.c2po_ast.specs.declared.operator.Prefix.{Prefix}
use Rattle.c2po_ast.specs.declared.operator.Prefix.TheVariants.{Not, Minus, Window}
use Rattle.c2po_ast.specs.declared.operator.Quantifier.{Quantifier}
use Rattle.c2po_ast.specs.declared.operator.Quantifier.TheVariants.{Each, Exists, Count}
use Rattle.c2po_ast.specs.declared.operator.Bracket.{Bracket}
use Rattle.c2po_ast.specs.declared.operator.Bracket.TheVariants.{Curly, Call}
use Rattle.c2po_parse.specs.declared.operator.Start.{Start}
use Rattle.c2po_parse.specs.declared.operator.Start.TheVariants.{Leaf, Before}
use Rattle.c2po_lexer.specs.declared.token.Sign.TheVariants as sign
use Rattle.c2po_lexer.specs.declared.token.Keyword.{Keyword}
use Rattle.c2po_lexer.specs.declared.token.Keyword.TheVariants as keyword
use Rattle.c2po_lexer.specs.declared.token.What.{What}
use Rattle.c2po_lexer.specs.declared.token.What.TheVariants as what
use Rattle.c2po_ast.specs.declared.operator.Atom.{Atom}
use Rattle.c2po_ast.specs.declared.operator.Atom.TheVariants.{Number, Truth, Ref}
use Rattle.c2po_ast.specs.Shape.{Shape, Shapes, of_list}
use Rattle.show_roundtrip.specs.Written.{IsNumeral, IsToken}
use Rattle.c2po_parse.specs.Tokens.{left_level, right_level}
use Rattle.c2po_ast.specs.Parts.{joined, prefixed, enclosed, quantified, leaf}
use Rattle.c2po_parse.specs.Fronts.{infix_level, prefix_level, closing, past, name_at, interval_at, named_or_called, bound_start, word_start, word_quantifier, sign_start, start_in, start_at, ◌>>=◌}
use Rattle.c2po_parse.specs.Splitting.{parsed_tree}
use Rattle.c2po_types.proofs.ValueWalk.{AllConstantsHave, ConstantsHave}
use Rattle.c2po_parse.proofs.Words.{words-head, words-tail, words-left, words-right}
use Rattle.show_roundtrip.proofs.GoodWords.{GoodWords}
use Rattle.c2po_parse.proofs.Starts.{IsStart}
use Rattle.std.proofs.lemmas.Option.{some_pair_parts}
use Rattle.c2po_parse.proofs.Rules as rules
use Rattle.c2po_parse.proofs.Rules.{Derives, DerivesAll, down, picks, behind, alone, inside, encloses, binds, last, and_more}
use Rattle.c2po_parse.proofs.Agree.{tree-derives}

-- the numbers of a tree are numbers of the language
abbrev pub HasNumbers : Shape → Type 0
HasNumbers e = ConstantsHave IsNumeral e

abbrev HaveNumbers : Shapes → Type 0
HaveNumbers es = AllConstantsHave IsNumeral es

-- a start that is no number
abbrev NotNumber : Option (Start × List Token) → Type 0
NotNumber None = ⊤
NotNumber (Some (Leaf line (Number n), ts)) = ⊥
NotNumber (Some (s, ts)) = ⊤

after_bind : {A : Type 0} (o : Option A) (f : A → Option (Start × List Token)) → ((a : A) → NotNumber (f a)) → NotNumber (o >>= f)
after_bind None f h = tt
after_bind (Some a) f h = h a

bound_no_number : (line : ℕ) (q : Quantifier) (ts : List Token) → NotNumber (bound_start line q ts)
bound_no_number line q ts =
    after_bind (past sign.LeftRound ts) _ (λ us. after_bind (name_at us) _ (λ x. after_bind (past sign.Colon x.1) _ (λ vs. tt)))

window_no_number : (line : ℕ) (ts : List Token) (op : WindowOp) → NotNumber (interval_at ts >>= λ i. Some (Before (Window line op i.0 i.1), i.2))
window_no_number line ts op = after_bind (interval_at ts) _ (λ i. tt)

word_no_number : (line : ℕ) (k : Keyword) (ts : List Token) → NotNumber (word_start line k ts (word_quantifier k))
word_no_number line keyword.ForEach ts = bound_no_number line _ ts
word_no_number line keyword.ForSome ts = bound_no_number line _ ts
word_no_number line keyword.ForExactly ts = bound_no_number line _ ts
word_no_number line keyword.ForAtLeast ts = bound_no_number line _ ts
word_no_number line keyword.ForAtMost ts = bound_no_number line _ ts
word_no_number line keyword.F ts = window_no_number line ts _
word_no_number line keyword.G ts = window_no_number line ts _
word_no_number line keyword.O ts = window_no_number line ts _
word_no_number line keyword.H ts = window_no_number line ts _
word_no_number line _ ts = tt

name_no_number : (line : ℕ) (x : List ℕ) (ts : List Token) (o : Option (List Token)) → NotNumber (Some (named_or_called line x ts o))
name_no_number line x ts None = tt
name_no_number line x ts (Some us) = tt

sign_no_number : (line : ℕ) (s : Sign) (ts : List Token) → NotNumber (sign_start line s ts)
sign_no_number line sign.Bang ts = tt
sign_no_number line sign.Minus ts = tt
sign_no_number line _ ts = tt

same_number : (l line : ℕ) (m n : ℤ) (ts rest : List Token) → ◌≡◌ {A = Option (Start × List Token)} (Some (Leaf l (Number m), ts)) (Some (Leaf line (Number n), rest)) → m ≡ n
same_number l line m n ts rest e =
    let same : ◌≡◌ {A = Start} (Leaf l (Number m)) (Leaf line (Number n)) = (some_pair_parts (Leaf l (Number m)) (Leaf line (Number n)) ts rest e).0 in
    cc

number_in : (w : What) (l line : ℕ) (n : ℤ) (ts rest : List Token) → start_in l w ts ≡ Some (Leaf line (Number n), rest) → IsToken w → IsNumeral n
number_in (what.Number m) l line n ts rest e h = subst IsNumeral (same_number l line m n ts rest e) h
number_in (what.Word x) l line n ts rest e h = absurd (subst NotNumber e (name_no_number l x ts (past sign.LeftRound ts)))
number_in (what.Reserved k) l line n ts rest e h = absurd (subst NotNumber e (word_no_number l k ts))
number_in (what.Sign s) l line n ts rest e h = absurd (subst NotNumber e (sign_no_number l s ts))

number_at_start : (ts : List Token) (line : ℕ) (n : ℤ) (rest : List Token) → start_at ts ≡ Some (Leaf line (Number n), rest) → GoodWords ts → IsNumeral n
unfolding start_at
number_at_start [] line n rest e words = absurd (cc)
number_at_start (t ∷ ts) line n rest e words = number_in t.what t.line line n ts rest e (words-head IsToken t ts words)

leaf-numbers : (line : ℕ) (a : Atom) (us : List Token) → IsStart us (Leaf line a) → GoodWords us → HasNumbers (leaf line a)
leaf-numbers line (Number n) us is words = number_at_start us line n [] (ap start_at (sym (append-nil us)) ∙ is.reads [] (λ e. refl)) words
leaf-numbers line _ us is words = tt

joined-numbers : (line : ℕ) (op : Infix) (e f : Shape) → HasNumbers e → HasNumbers f → HasNumbers (joined line op e f)
joined-numbers line (Logic op) e f he hf = (he, hf)
joined-numbers line _ e f he hf = (he, hf)

prefixed-numbers : (p : Prefix) (e : Shape) → HasNumbers e → HasNumbers (prefixed p e)
prefixed-numbers (Not line) e h = h
prefixed-numbers _ e h = h

quantified-numbers : (line : ℕ) (q : Quantifier) (x : List ℕ) (s : Shape) (n : ℕ) (e : Shape) → HasNumbers s → HasNumbers e → HasNumbers (quantified line q x s n e)
quantified-numbers line Each x s n e hs he = (hs, he)
quantified-numbers line _ x s n e hs he = (hs, he)

enclosed-numbers : (b : Bracket) (es : List Shape) → HaveNumbers (of_list es) → HasNumbers (enclosed b es)
enclosed-numbers (Curly line) es hs = hs
enclosed-numbers (Call line x) es hs = hs

mutual
  derived-numbers : (k : ℕ) (c : List Token) (e : Shape) → Derives k c e → GoodWords c → HasNumbers e
  derived-numbers _ _ _ (down k c e high d) words = derived-numbers (suc k) c e d words
  derived-numbers _ _ _ (rules.joins line op a t us b e f da o db) words =
      joined-numbers line op e f (derived-numbers (left_level (infix_level op)) a e da (words-left IsToken a (t ∷ (us ++ b)) words))
      (derived-numbers (right_level (infix_level op)) b f db (words-right IsToken us b (words-tail IsToken t (us ++ b) (words-right IsToken a (t ∷ (us ++ b)) words))))
  derived-numbers _ _ _ (picks line x a t us e d o) words = derived-numbers 11 a e d (words-left IsToken a (t ∷ us) words)
  derived-numbers _ _ _ (behind p us c e is d) words = prefixed-numbers p e (derived-numbers (prefix_level p) c e d (words-right IsToken us c words))
  derived-numbers _ _ _ (alone line a us is) words = leaf-numbers line a us is words
  derived-numbers _ _ _ (inside us c t e is d close) words = derived-numbers 1 c e d (words-left IsToken c (t ∷ []) (words-right IsToken us (c ++ t ∷ []) words))
  derived-numbers _ _ _ (encloses b us c es is ds) words = enclosed-numbers b es (all-numbers (closing b) c es ds (words-right IsToken us c words))
  derived-numbers _ _ _ (binds line q x n us c m vs d t s e is ds middle de close) words =
      let rest = words-right IsToken us (c ++ m ∷ (vs ++ (d ++ t ∷ []))) words in
      let body = words-right IsToken vs (d ++ t ∷ []) (words-tail IsToken m (vs ++ (d ++ t ∷ [])) (words-right IsToken c (m ∷ (vs ++ (d ++ t ∷ []))) rest)) in
      quantified-numbers line q x s n e (derived-numbers 1 c s ds (words-left IsToken c (m ∷ (vs ++ (d ++ t ∷ []))) rest)) (derived-numbers 1 d e de (words-left IsToken d (t ∷ []) body))

  all-numbers : (s : Sign) (c : List Token) (es : List Shape) → DerivesAll s c es → GoodWords c → HaveNumbers (of_list es)
  all-numbers _ _ _ (last s c t e d close) words = (derived-numbers 1 c e d (words-left IsToken c (t ∷ []) words), tt)
  all-numbers _ _ _ (and_more s c t d e es dc comma ds) words =
      (derived-numbers 1 c e dc (words-left IsToken c (t ∷ d) words), all-numbers s d es ds (words-tail IsToken t d (words-right IsToken c (t ∷ d) words)))

pub tree-numbers : (ts : List Token) (e : Shape) → parsed_tree ts ≡ Some e → GoodWords ts → HasNumbers e
tree-numbers ts e h words = derived-numbers 1 ts e (tree-derives ts e h) words
