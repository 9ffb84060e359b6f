use Rattle.std.proofs.Common.{◌≡◌, ◌∙◌, ap, sym, true, false, map}
use Rattle.std.specs.Prelude.{Some, None, option_map}
use Rattle.clap.specs.Words.{app_of, is_simple_and_free}
use Rattle.tool_words.specs.Reading.{parsed_rows, is_help, rows}
use Rattle.tool_words.specs.Texts.{are_texts, text_of}
use Rattle.tool_words.proofs.CommandLaws.{c2po_simple}
use Rattle.tool_words.proofs.TextLaws.{c2po_found, c2po_told}
use Rattle.tool_words.proofs.c2po_words.c2po_ask.Goals as goal

pub matches_in-requires : goal.matches_in-requires
matches_in-requires c = ap is_simple_and_free c.in_ok-command.ensures ∙ c2po_simple

pub returns-in-Some : goal.returns-in-Some
returns-in-Some c =
    let words = map text_of c.args.words.now in
    let no_help : is_help words ≡ false = cc in
    let texts : are_texts c.args.words.now ≡ true = cc in
    let found : Some (rows c.in-Some.matches) ≡ parsed_rows (app_of c.in_ok-command.field-0) words = sym (ap (option_map rows) c.in-Some.is) ∙ c.in_ok-matches.ensures in
    c.asked_in.ensures ∙ c2po_found words (app_of c.in_ok-command.field-0) (Some (rows c.in-Some.matches)) no_help c.in_ok-command.ensures found
    ∙ c2po_told c.args.words.now texts

pub returns-in-None : goal.returns-in-None
returns-in-None c =
    let words = map text_of c.args.words.now in
    let no_help : is_help words ≡ false = cc in
    let texts : are_texts c.args.words.now ≡ true = cc in
    let found : None ≡ parsed_rows (app_of c.in_ok-command.field-0) words = sym (ap (option_map rows) c.in-None.is) ∙ c.in_ok-matches.ensures in
    c2po_found words (app_of c.in_ok-command.field-0) None no_help c.in_ok-command.ensures found ∙ c2po_told c.args.words.now texts
