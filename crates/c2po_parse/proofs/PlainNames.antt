use Rattle.std.proofs.Common.{◌≡◌, ℕ, suc, List, [], ◌∷◌, ◌++◌, Some}
use Rattle.c2po_lexer.specs.declared.token.Sign.{Sign}
use Rattle.c2po_lexer.specs.declared.token.Token.{Token}
use Rattle.c2po_lexer.specs.Tokens.{HasPlainLetters}
use Rattle.c2po_ast.specs.declared.operator.Infix.{Infix}
use Rattle.c2po_ast.specs.declared.operator.Infix.TheVariants.{Logic, Between, Compare, Arith}
use Rattle.c2po_ast.specs.declared.operator.Prefix.{Prefix}
use Rattle.c2po_ast.specs.declared.operator.Prefix.TheVariants.{Not, Minus, Window}
use Rattle.c2po_ast.specs.declared.operator.Quantifier.{Quantifier}
use Rattle.c2po_ast.specs.declared.operator.Quantifier.TheVariants.{Each, Exists, Count}
use Rattle.c2po_ast.specs.declared.operator.Bracket.{Bracket}
use Rattle.c2po_ast.specs.declared.operator.Bracket.TheVariants.{Curly, Call}
use Rattle.c2po_ast.specs.declared.operator.Atom.{Atom}
use Rattle.c2po_ast.specs.declared.operator.Atom.TheVariants.{Number, Truth, Ref}
use Rattle.c2po_ast.specs.Shape.{Shape, of_list}
use Rattle.c2po_parse.specs.Tokens.{left_level, right_level}
use Rattle.c2po_ast.specs.Parts.{joined, prefixed, enclosed, quantified, leaf}
use Rattle.c2po_parse.specs.Fronts.{infix_level, prefix_level, closing}
use Rattle.c2po_parse.specs.Splitting.{parsed_tree}
use Rattle.c2po_ast.specs.Names.{IsPlainName, HasPlainNames, HavePlainNames}
use Rattle.c2po_parse.proofs.Words.{PlainWords, words-tail, words-left, words-right}
use Rattle.c2po_parse.proofs.Starts.{AtomNames, BracketNames}
use Rattle.c2po_parse.proofs.Rules as rules
use Rattle.c2po_parse.proofs.Rules.{Derives, DerivesAll, down, picks, behind, alone, inside, encloses, binds, last, and_more}
use Rattle.c2po_parse.proofs.Agree.{tree-derives}

-- The names of a tree stand among its tokens.

leaf-names : (line : ℕ) (a : Atom) → AtomNames a → HasPlainNames (leaf line a)
leaf-names line (Number n) h = tt
leaf-names line (Truth b) h = tt
leaf-names line (Ref x) h = h

joined-names : (line : ℕ) (op : Infix) (e f : Shape) → HasPlainNames e → HasPlainNames f → HasPlainNames (joined line op e f)
joined-names line (Logic op) e f he hf = (he, hf)
joined-names line (Between op a b) e f he hf = (he, hf)
joined-names line (Compare op) e f he hf = (he, hf)
joined-names line (Arith op) e f he hf = (he, hf)

prefixed-names : (p : Prefix) (e : Shape) → HasPlainNames e → HasPlainNames (prefixed p e)
prefixed-names (Not line) e h = h
prefixed-names (Minus line) e h = h
prefixed-names (Window line op a b) e h = h

quantified-names : (line : ℕ) (q : Quantifier) (x : List ℕ) (s : Shape) (n : ℕ) (e : Shape) → IsPlainName x → HasPlainNames s → HasPlainNames e →
    HasPlainNames (quantified line q x s n e)
quantified-names line Each x s n e hx hs he = (hx, (hs, he))
quantified-names line Exists x s n e hx hs he = (hx, (hs, he))
quantified-names line (Count op) x s n e hx hs he = (hx, (hs, he))

enclosed-names : (b : Bracket) (es : List Shape) → BracketNames b → HavePlainNames (of_list es) → HasPlainNames (enclosed b es)
enclosed-names (Curly line) es hb hs = hs
enclosed-names (Call line x) es hb hs = (hb, hs)

mutual
  derived-names : (k : ℕ) (c : List Token) (e : Shape) → Derives k c e → PlainWords c → HasPlainNames e
  derived-names _ _ _ (down k c e high d) words = derived-names (suc k) c e d words
  derived-names _ _ _ (rules.joins line op a t us b e f da o db) words =
      joined-names line op e f (derived-names (left_level (infix_level op)) a e da (words-left HasPlainLetters a (t ∷ (us ++ b)) words))
      (derived-names (right_level (infix_level op)) b f db (words-right HasPlainLetters us b (words-tail HasPlainLetters t (us ++ b) (words-right HasPlainLetters a (t ∷ (us ++ b)) words))))
  derived-names _ _ _ (picks line x a t us e d o) words =
      (derived-names 11 a e d (words-left HasPlainLetters a (t ∷ us) words), o.names (words-tail HasPlainLetters t us (words-right HasPlainLetters a (t ∷ us) words)))
  derived-names _ _ _ (behind p us c e is d) words = prefixed-names p e (derived-names (prefix_level p) c e d (words-right HasPlainLetters us c words))
  derived-names _ _ _ (alone line a us is) words = leaf-names line a (is.names words)
  derived-names _ _ _ (inside us c t e is d close) words = derived-names 1 c e d (words-left HasPlainLetters c (t ∷ []) (words-right HasPlainLetters us (c ++ t ∷ []) words))
  derived-names _ _ _ (encloses b us c es is ds) words =
      enclosed-names b es (is.names (words-left HasPlainLetters us c words)) (all-names (closing b) c es ds (words-right HasPlainLetters us c words))
  derived-names _ _ _ (binds line q x n us c m vs d t s e is ds middle de close) words =
      let rest = words-right HasPlainLetters us (c ++ m ∷ (vs ++ (d ++ t ∷ []))) words in
      let body = words-right HasPlainLetters vs (d ++ t ∷ []) (words-tail HasPlainLetters m (vs ++ (d ++ t ∷ [])) (words-right HasPlainLetters c (m ∷ (vs ++ (d ++ t ∷ []))) rest)) in
      quantified-names line q x s n e (is.names (words-left HasPlainLetters us (c ++ m ∷ (vs ++ (d ++ t ∷ []))) words))
      (derived-names 1 c s ds (words-left HasPlainLetters c (m ∷ (vs ++ (d ++ t ∷ []))) rest)) (derived-names 1 d e de (words-left HasPlainLetters d (t ∷ []) body))

  all-names : (s : Sign) (c : List Token) (es : List Shape) → DerivesAll s c es → PlainWords c → HavePlainNames (of_list es)
  all-names _ _ _ (last s c t e d close) words = (derived-names 1 c e d (words-left HasPlainLetters c (t ∷ []) words), tt)
  all-names _ _ _ (and_more s c t d e es dc comma ds) words =
      (derived-names 1 c e dc (words-left HasPlainLetters c (t ∷ d) words), all-names s d es ds (words-tail HasPlainLetters t d (words-right HasPlainLetters c (t ∷ d) words)))

pub tree-names : (ts : List Token) (e : Shape) → parsed_tree ts ≡ Some e → PlainWords ts → HasPlainNames e
tree-names ts e h words = derived-names 1 ts e (tree-derives ts e h) words
