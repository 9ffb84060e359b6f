-- Words that are texts are told as they are.

use Rattle.std.proofs.Common.{◌≡◌, ◌∙◌, ap, ap₂, sym, refl, ℕ, true, false, List, [], ◌∷◌, map, Option, Result, Ok, Err}
use Rattle.std.specs.Prelude.{MatchResult, is_ok}
use Rattle.std.proofs.lemmas.Bool.{and_parts, cond-true, cond-false, false_from_ne_true}
use Rattle.std.proofs.lemmas.Str.{IsUtf8-from_is_utf8, is_utf8-from_IsUtf8}
use Rattle.std.specs.Str.{IsUtf8, is_utf8}
use Rattle.std.specs.Option.{option_map_or}
use Rattle.clap.specs.Words.{App, Row, Text}
use Rattle.tool_words.specs.Reading.{parsed_rows, is_help}
use Rattle.tool_words.specs.R2u2Words as r2u2
use Rattle.tool_words.specs.C2poWords as c2po
use Rattle.tool_words.specs.Texts.{are_texts, text_of}

pub texts_told : (words : List (List ℕ)) → are_texts words ≡ true → map text_of words ≡ words
texts_told [] h = refl
texts_told (word ∷ words) h =
    let both = and_parts (is_utf8 word) (are_texts words) h in
    ap₂ (λ x xs. x ∷ xs) (cond-true (is_utf8 word) word [] both.0) (texts_told words both.1)

no_text : (word : List ℕ) → ¬ (IsUtf8 word) → is_utf8 word ≡ false
no_text word bad = false_from_ne_true (is_utf8 word) (λ h. bad (IsUtf8-from_is_utf8 word h))

-- what a reading of a word's bytes says
pub read_whether : {X Y : Type 0} (word : List ℕ) (P : X → Type 0) (Q : Y → Type 0) (read : Result X Y)
    → MatchResult read (λ x. P x × IsUtf8 word) (λ e. ¬ (IsUtf8 word) × Q e) → is_ok read ≡ is_utf8 word
read_whether word P Q (Ok x) h = sym (is_utf8-from_IsUtf8 word h.1)
read_whether word P Q (Err e) h = sym (no_text word h.0)

pub text_told : (word : List ℕ) → IsUtf8 word → word ≡ text_of word
text_told word h = sym (cond-true (is_utf8 word) word [] (is_utf8-from_IsUtf8 word h))

pub none_told : (word : List ℕ) → ¬ (IsUtf8 word) → [] ≡ text_of word
none_told word bad = sym (cond-false (is_utf8 word) word [] (no_text word bad))

pub told_of : {X : Type 0} (f : X → List ℕ) (xs : List X) → map (λ x. text_of (f x)) xs ≡ map text_of (map f xs)
told_of f [] = refl
told_of f (x ∷ xs) = ap (λ ys. text_of (f x) ∷ ys) (told_of f xs)

-- words that are texts ask for what these ask for
pub r2u2_told : (words : List Text) → are_texts words ≡ true → r2u2.ask_of_texts (map text_of words) ≡ r2u2.ask words
r2u2_told words h = ap r2u2.ask_of_texts (texts_told words h) ∙ sym (cond-true (are_texts words) (r2u2.ask_of_texts words) r2u2.nothing h)

pub c2po_told : (words : List Text) → are_texts words ≡ true → c2po.ask_of_texts (map text_of words) ≡ c2po.ask words
c2po_told words h = ap c2po.ask_of_texts (texts_told words h) ∙ sym (cond-true (are_texts words) (c2po.ask_of_texts words) c2po.nothing h)

pub r2u2_found : (words : List Text) (app : App) (o : Option (List Row)) → is_help words ≡ false → app ≡ r2u2.command → o ≡ parsed_rows app words
    → option_map_or r2u2.r2u2_request_in o r2u2.nothing ≡ r2u2.ask_of_texts words
r2u2_found words app o h e is =
    ap (λ p. option_map_or r2u2.r2u2_request_in p r2u2.nothing) (is ∙ ap (λ a. parsed_rows a words) e)
    ∙ sym (cond-false (is_help words) r2u2.help (option_map_or r2u2.r2u2_request_in (parsed_rows r2u2.command words) r2u2.nothing) h)

pub c2po_found : (words : List Text) (app : App) (o : Option (List Row)) → is_help words ≡ false → app ≡ c2po.command → o ≡ parsed_rows app words
    → option_map_or c2po.c2po_request_in o c2po.nothing ≡ c2po.ask_of_texts words
c2po_found words app o h e is =
    ap (λ p. option_map_or c2po.c2po_request_in p c2po.nothing) (is ∙ ap (λ a. parsed_rows a words) e)
    ∙ sym (cond-false (is_help words) c2po.help (option_map_or c2po.c2po_request_in (parsed_rows c2po.command words) c2po.nothing) h)
