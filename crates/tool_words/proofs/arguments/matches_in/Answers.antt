use Rattle.std.proofs.Common.{◌≡◌, ◌∙◌, ap, [], map}
use Rattle.clap.specs.Words.{app_of, fault_of, matches_of}
use Rattle.tool_words.specs.Reading.{rows}
use Rattle.tool_words.specs.Texts.{text_of}
use Rattle.tool_words.proofs.CommandLaws.{found_if, simple_of_free}
use Rattle.tool_words.proofs.arguments.matches_in.Goals as goal

pub returns-in-Ok : goal.returns-in-Ok
returns-in-Ok c =
    let app = app_of c.args.command in
    let words = map text_of c.args.words.now in
    let texts : map (λ word. text_of word.bytes.items) c.as_slice.result.now ≡ words = c.as_slice.ensures in
    let none : fault_of app words ≡ [] = rw texts at (c.in-Ok.ensures.kinds c.requires) in
    let found : rows c.in-Ok.matches ≡ matches_of app words = (c.in-Ok.ensures.matches (simple_of_free app c.requires)).0 ∙ ap (matches_of app) texts in
    found_if _ _ _ none found
