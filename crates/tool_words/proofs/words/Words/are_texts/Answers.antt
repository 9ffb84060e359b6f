use Rattle.std.proofs.Common.{◌≡◌, ◌∙◌, ap, sym, map, rules}
use Rattle.std.specs.List.{list_all}
use Rattle.std.specs.Str.{is_utf8}
use Rattle.std.proofs.lemmas.List.Folds.{list_all-map}
use Rattle.tool_words.specs.declared.words.WordBytes.{WordBytes}
use Rattle.tool_words.specs.Texts.{are_texts}
use Rattle.tool_words.proofs.words.Words.are_texts.Goals as goal

pub returns : goal.returns
returns c =
    let items = c.self.inside.words.items in
    let all : c.are_utf8.result ≡ list_all (λ (word : WordBytes). is_utf8 word.bytes.items) items = search rules in
    let words : map (λ (word : WordBytes). word.bytes.items) items ≡ c.args.self.now = search rules in
    all ∙ sym (list_all-map is_utf8 (λ (word : WordBytes). word.bytes.items) items) ∙ ap are_texts words
