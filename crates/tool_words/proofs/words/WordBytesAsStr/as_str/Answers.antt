use Rattle.std.proofs.Common.{◌∙◌, ap}
use Rattle.tool_words.specs.Texts.{text_of}
use Rattle.tool_words.proofs.TextLaws.{text_told, none_told}
use Rattle.tool_words.proofs.words.WordBytesAsStr.as_str.Goals as goal

pub returns-in-Ok : goal.returns-in-Ok
returns-in-Ok c = c.in-Ok.ensures.cases.0 ∙ text_told _ c.in-Ok.ensures.cases.1 ∙ ap text_of c.deref.ensures.value

pub returns-in-Err : goal.returns-in-Err
returns-in-Err c = none_told _ c.in-Err.ensures.cases.0 ∙ ap text_of c.deref.ensures.value
