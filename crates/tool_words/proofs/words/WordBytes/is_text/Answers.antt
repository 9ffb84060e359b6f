use Rattle.std.proofs.Common.{◌∙◌, ap}
use Rattle.std.specs.Str.{is_utf8}
use Rattle.tool_words.proofs.TextLaws.{read_whether}
use Rattle.tool_words.proofs.words.WordBytes.is_text.Goals as goal

pub returns : goal.returns
returns c = c.is_ok.ensures.value ∙ read_whether _ _ _ c.from_utf8.result c.from_utf8.ensures.cases ∙ ap is_utf8 c.deref.ensures.value
