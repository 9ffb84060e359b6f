use Rattle.std.proofs.Common.{◌≡◌, ℕ, ◌+◌, ◌*◌, ◌≤◌, List, [], ◌++◌, length, refl, ap, sym, ◌∙◌, subst, arith, Option, Some, None}
use Rattle.std.proofs.lemmas.List.{append-nil}
use Rattle.c2po_lexer.specs.declared.token.Token.{Token}
use Rattle.c2po_ast.specs.Shape.{Shape}
use Rattle.c2po_parse.specs.Tokens.{right_level}
use Rattle.c2po_parse.specs.Splitting.{at_end, parsed_tree}
use Rattle.c2po_parse.specs.Climbing.{climb, climb_all, Whole}
use Rattle.c2po_parse.proofs.Walks.{bind-some}
use Rattle.c2po_parse.proofs.Rules.{Derives}
use Rattle.c2po_parse.proofs.SplitSound.{at_end-is, tree-sound}
use Rattle.c2po_parse.proofs.ClimbSound.{climb-sound}
use Rattle.c2po_parse.proofs.ClimbComplete.{bind-with, derived-completes, follows-end, rest-stops}
use Rattle.c2po_parse.proofs.SplitComplete.{derived-found}

-- Climbing reads the tree that splitting finds.

-- two options with the same values are one
same-option : {A : Type 0} (o p : Option A) → ((x : A) → o ≡ Some x → p ≡ Some x) → ((x : A) → p ≡ Some x → o ≡ Some x) → o ≡ p
same-option None None f g = refl
same-option None (Some x) f g = g x refl
same-option (Some x) p f g = sym (f x refl)

climbed-derives : (n : ℕ) (ts : List Token) (e : Shape) → climb_all n ts ≡ Some e → Derives 1 ts e
climbed-derives n ts e h =
    let x = bind-some (climb n (Whole 1) ts) (λ x. at_end x.0 x.1) e h in
    let end = at_end-is x.0.0 e x.0.1 x.2 in
    let found = (climb-sound n).whole 1 ts x.0.0 x.0.1 (omega arith) (omega arith) x.1 in
    let all : ts ≡ found.tokens = found.joined ∙ ap (λ us. found.tokens ++ us) end.1 ∙ append-nil found.tokens in
    subst (λ us. Derives 1 us e) (sym all) (subst (Derives 1 found.tokens) end.0 found.derives)

pub derived-climbs : (n : ℕ) (ts : List Token) (e : Shape) → 4 * length ts + 1 ≤ n → Derives 1 ts e → climb_all n ts ≡ Some e
derived-climbs n ts e enough d =
    let end = follows-end (right_level 1) in
    let rest = follows-end 1 in
    let whole : climb n (Whole 1) (ts ++ []) ≡ Some (e, []) =
    (derived-completes 1 ts e d).completes 1 1 n [] (e, []) (omega arith) end (rest-stops 1 1 e [] (omega arith) rest.stops) (omega arith) in
    bind-with (climb n (Whole 1) ts) (λ x. at_end x.0 x.1) (e, []) e (ap (climb n (Whole 1)) (sym (append-nil ts)) ∙ whole) refl

pub derived-tree : (ts : List Token) (e : Shape) → Derives 1 ts e → parsed_tree ts ≡ Some e
unfolding parsed_tree
derived-tree ts e d = (derived-found 1 ts e d).found (13 * length ts + 13) (omega arith) (omega arith)

pub tree-derives : (ts : List Token) (e : Shape) → parsed_tree ts ≡ Some e → Derives 1 ts e
unfolding parsed_tree
tree-derives ts e h = (tree-sound (13 * length ts + 13)).derives 1 ts e (omega arith) (omega arith) h

pub agree : (n : ℕ) (ts : List Token) → 4 * length ts + 1 ≤ n → climb_all n ts ≡ parsed_tree ts
agree n ts enough =
    same-option (climb_all n ts) (parsed_tree ts)
    (λ e h. derived-tree ts e (climbed-derives n ts e h))
    (λ e h. derived-climbs n ts e enough (tree-derives ts e h))
