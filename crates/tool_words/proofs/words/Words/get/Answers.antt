use Rattle.std.proofs.Common.{◌≡◌, ◌∙◌, ◌<◌, ap, sym, arith, length, map, rules}
use Rattle.std.specs.Prelude.{Some, option_map, slice_get}
use Rattle.std.proofs.lemmas.List.{length-map}
use Rattle.std.proofs.lemmas.Option.{slice_get-get_or, slice_get-map}
use Rattle.tool_words.specs.declared.words.WordBytes.{WordBytes}
use Rattle.tool_words.specs.Texts.{text_of}
use Rattle.tool_words.proofs.TextLaws.{told_of}
use Rattle.tool_words.proofs.words.Words.get.Goals as goal

pub returns : goal.returns
returns c =
    let i = c.args.i in
    let items = c.self.inside.words.items in
    let words : c.args.self.now ≡ map (λ (word : WordBytes). word.bytes.items) items = search rules in
    let within : i < length items = omega (arith, c.requires, ap length words, length-map items (λ (word : WordBytes). word.bytes.items)) in
    let word : slice_get items i ≡ Some c.index.result.now = slice_get-get_or items i c.index.result.now within ∙ ap Some (sym c.index.ensures) in
    ap (λ ws. slice_get (map text_of ws) i) words ∙ ap (λ xs. slice_get xs i) (sym (told_of (λ (word : WordBytes). word.bytes.items) items))
    ∙ slice_get-map (λ (word : WordBytes). text_of word.bytes.items) items i ∙ ap (option_map (λ (word : WordBytes). text_of word.bytes.items)) word
    ∙ ap Some (sym c.as_str.ensures)
