use Rattle.std.proofs.Common.{◌≡◌, ◌∙◌, ap, map, rules}
use Rattle.tool_words.specs.Texts.{text_of}
use Rattle.tool_words.proofs.TextLaws.{told_of}
use Rattle.tool_words.proofs.words.Words.as_slice.Goals as goal

pub returns : goal.returns
returns c =
    let same : map (λ word. word.bytes.items) c.as_slice.result.now ≡ c.args.self.now = search rules in
    told_of (λ word. word.bytes.items) c.as_slice.result.now ∙ ap (map text_of) same
