use Rattle.std.proofs.Common.{◌≡◌, ℕ, List, [], ◌∷◌, refl, Ok}
use Rattle.std.specs.Prelude.{codes}
use Rattle.std.proofs.lemmas.List.Sums.{AllPass-from_list_all}
use Rattle.mltl_base.specs.Letters.{is_in_word}
use Rattle.c2po_lexer.specs.declared.token.Token.{Token}
use Rattle.c2po_lexer.specs.Tokens.{HasPlainLetters}
use Rattle.c2po_ast.specs.ItemShape.{FieldShape, BodyShape, ItemShape, structure, input, define, formula, contract}
use Rattle.c2po_ast.specs.Names.{IsPlainName, HasPlainNames, HasPlainType, ArePlainFields, ArePlain, IsPlainLabel, IsPlainBody, ArePlainItems}
use Rattle.c2po_parse.proofs.Words.{PlainWords, word-plain}
use Rattle.c2po_parse.proofs.PlainNames.{tree-names}
use Rattle.c2po_parse.specs.Specification.{spec_of}
use Rattle.c2po_parse.proofs.ItemWalk.{NamesHave, FieldsHave, BodyHas, ItemsHave, spec-have}

-- The names of items stand among their tokens.

bool_plain : IsPlainName (codes "bool")
bool_plain = AllPass-from_list_all is_in_word (codes "bool") refl

int_plain : IsPlainName (codes "int")
int_plain = AllPass-from_list_all is_in_word (codes "int") refl

-- what is said of items name by name is said of them as such
names-plain : (xs : List (List ℕ)) → NamesHave IsPlainName xs → ArePlain xs
names-plain [] h = tt
names-plain (x ∷ xs) h = (h.0, names-plain xs h.1)

fields-plain : (fs : List FieldShape) → FieldsHave IsPlainName HasPlainType fs → ArePlainFields fs
fields-plain [] h = tt
fields-plain (f ∷ fs) h = (h.0, fields-plain fs h.1)

body-plain : (b : BodyShape) → BodyHas IsPlainName HasPlainType IsPlainLabel HasPlainNames b → IsPlainBody b
body-plain (structure x fs) h = (h.0, fields-plain fs h.1)
body-plain (input xs k) h = (names-plain xs h.0, h.1)
body-plain (define x e) h = h
body-plain (formula engine label e) h = h
body-plain (contract engine label e f) h = h

items-plain : (is : List ItemShape) → ItemsHave IsPlainName HasPlainType IsPlainLabel HasPlainNames is → ArePlainItems is
items-plain [] h = tt
items-plain (i ∷ is) h = (body-plain i.body h.0, items-plain is h.1)

pub spec-names : (ts : List Token) (items : List ItemShape) → spec_of ts ≡ Ok items → PlainWords ts → ArePlainItems items
spec-names ts items h words =
    items-plain items
    (spec-have HasPlainLetters IsPlainName HasPlainType IsPlainLabel HasPlainNames word-plain (λ x h. h) bool_plain int_plain (λ k h. h) tt (λ x h. h) tree-names ts items h words)
