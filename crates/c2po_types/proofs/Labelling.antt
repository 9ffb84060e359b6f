-- Names of outputs.

use Rattle.std.proofs.Common.{◌≡◌, ℕ, ◌+◌, ◌%◌, ◌<◌, ◌^◌, true, List, [], ◌∷◌, arith}
use Rattle.std.specs.Prelude.{length, decimal, All, Option, Some, None}
use Rattle.std.specs.List.{AllPass}
use Rattle.std.proofs.lemmas.Bool.Decides.{nat_tests}
use Rattle.std.proofs.lemmas.List.{length-append}
use Rattle.std.proofs.lemmas.Fmt.{decimal_by_steps}
use Rattle.std.proofs.lemmas.List.Elements.{All-nil, All-cons, All-push, All-append}
use Rattle.mltl_base.specs.Letters.{is_in_word}
use Rattle.c2po_ast.specs.Names.{IsPlainName, IsPlainLabel, IsPlainBody, ArePlainItems}
use Rattle.c2po_ast.specs.ItemShape.{BodyShape, ItemShape, structure, input, define, formula, contract}
use Rattle.c2po_types.specs.Outputs.{Place, before, name_of, asked_at, place_after, asked_from, outputs_of, HasPlainName}

digit_in_word : (d : ℕ) → d < 10 → is_in_word (48 + d) ≡ true
digit_in_word d h = grind (arith, nat_tests)

-- a decimal text is made of digits
plain_numeral : (n : ℕ) → n < 2 ^ 64 → IsPlainName (decimal n)
plain_numeral n h = decimal_by_steps (λ m ds. AllPass is_in_word ds)
    (λ m less. All-cons (λ x. is_in_word x ≡ true) (48 + m) [] (digit_in_word m less) (All-nil (λ x. is_in_word x ≡ true)))
    (λ m ds more plain. All-push (λ x. is_in_word x ≡ true) ds (48 + m % 10) plain (digit_in_word (m % 10) (omega arith))) n h

plain_name : (k : ℕ) (label : Option (List ℕ)) → k < 2 ^ 64 → IsPlainLabel label → IsPlainName (name_of k label)
plain_name k (Some x) h plain = plain
plain_name k None h plain = plain_numeral k h

plain_at : (body : BodyShape) (p : Place) → p.outputs < 2 ^ 64 → IsPlainBody body → All HasPlainName (asked_at body p)
plain_at (structure x fs) p h plain = All-nil HasPlainName
plain_at (input xs t) p h plain = All-nil HasPlainName
plain_at (define x e) p h plain = All-nil HasPlainName
plain_at (formula engine label e) p h plain =
    All-cons HasPlainName _ [] (plain_name p.outputs label h plain.0) (All-nil HasPlainName)
plain_at (contract engine label e f) p h plain =
    All-cons HasPlainName _ [] (plain_name p.outputs label h plain.0) (All-nil HasPlainName)

plain_from : (items : List ItemShape) (p : Place) → p.outputs + length (asked_from items p) < 2 ^ 64 → ArePlainItems items
    → All HasPlainName (asked_from items p)
unfolding asked_from
plain_from [] p h plain = All-nil HasPlainName
plain_from (i ∷ items) p h plain = All-append HasPlainName (asked_at i.body p) (asked_from items (place_after i.body p))
    (plain_at i.body p (omega arith) plain.0) (plain_from items (place_after i.body p) (omega (arith, length-append (asked_at i.body p) (asked_from items (place_after i.body p)))) plain.1)

-- the names of a specification's outputs are plain
pub plain_outputs : (items : List ItemShape) → length (outputs_of items) < 2 ^ 64 → ArePlainItems items → All HasPlainName (outputs_of items)
unfolding outputs_of
plain_outputs items h plain = plain_from items before (omega arith) plain
