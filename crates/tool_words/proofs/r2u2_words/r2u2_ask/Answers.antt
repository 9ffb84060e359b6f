use Rattle.std.proofs.Common.{◌≡◌, ◌∙◌, ap, sym, true, false, map}
use Rattle.std.specs.Prelude.{Some, None, option_map}
use Rattle.clap.specs.Words.{app_of, is_simple_and_free}
use Rattle.tool_words.specs.Reading.{parsed_rows, is_help, rows}
use Rattle.tool_words.specs.Texts.{are_texts, text_of}
use Rattle.tool_words.proofs.CommandLaws.{r2u2_simple}
use Rattle.tool_words.proofs.TextLaws.{r2u2_found, r2u2_told}
use Rattle.tool_words.proofs.r2u2_words.r2u2_ask.Goals as goal

pub matches_in-requires : goal.matches_in-requires
matches_in-requires c = ap is_simple_and_free c.in_ok-command.ensures ∙ r2u2_simple

pub returns-in-Some-clause-asked : goal.returns-in-Some-clause-asked
returns-in-Some-clause-asked c =
    let words = map text_of c.args.words.now in
    let no_help : is_help words ≡ false = cc in
    let texts : are_texts c.args.words.now ≡ true = cc in
    let found : Some (rows c.in-Some.matches) ≡ parsed_rows (app_of c.in_ok-command.field-0) words = sym (ap (option_map rows) c.in-Some.is) ∙ c.in_ok-matches.ensures in
    c.asked_in.ensures.asked ∙ r2u2_found words (app_of c.in_ok-command.field-0) (Some (rows c.in-Some.matches)) no_help c.in_ok-command.ensures found
    ∙ r2u2_told c.args.words.now texts

pub returns-in-None-clause-asked : goal.returns-in-None-clause-asked
returns-in-None-clause-asked c =
    let words = map text_of c.args.words.now in
    let no_help : is_help words ≡ false = cc in
    let texts : are_texts c.args.words.now ≡ true = cc in
    let found : None ≡ parsed_rows (app_of c.in_ok-command.field-0) words = sym (ap (option_map rows) c.in-None.is) ∙ c.in_ok-matches.ensures in
    r2u2_found words (app_of c.in_ok-command.field-0) None no_help c.in_ok-command.ensures found ∙ r2u2_told c.args.words.now texts
