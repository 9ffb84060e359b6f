-- A command with one more argument, the two commands, and what a parse finds.

use Rattle.std.proofs.Common.{◌≡◌, ◌∙◌, ap₂, refl, true, false, List, []}
use Rattle.std.specs.Prelude.{Some, None, if◌then◌else◌}
use Rattle.std.proofs.lemmas.Bool.{and_parts}
use Rattle.clap.specs.Kinds.{Kinds}
use Rattle.clap.specs.Walk.{is_empty}
use Rattle.clap.specs.Words.{AddsArg, App, Row, Rule, app_of, is_simple, is_simple_and_free, rule_of, with_rule}
use Rattle.clap.specs.declared.builder.arg.Arg.{Arg}
use Rattle.clap.specs.declared.builder.command.Command.{Command}
use Rattle.clap.proofs.OnLiterals.{clap_on_literals}
use Rattle.tool_words.specs.R2u2Words as r2u2
use Rattle.tool_words.specs.C2poWords as c2po

pub app_of-arg : (old : Command) (a : Arg) (new : Command) (app : App) (rule : Rule) → AddsArg old a new → a.global ≡ false → app_of old ≡ app → rule_of a ≡ rule → app_of new ≡ with_rule app rule
app_of-arg old a new app rule adds local is_app is_rule = adds.shape local ∙ ap₂ with_rule is_app is_rule

pub r2u2_simple : is_simple_and_free r2u2.command ≡ true
unfolding clap_on_literals r2u2.command
r2u2_simple = refl

pub c2po_simple : is_simple_and_free c2po.command ≡ true
unfolding clap_on_literals c2po.command
c2po_simple = refl

pub simple_of_free : (app : App) → is_simple_and_free app ≡ true → is_simple app ≡ true
simple_of_free app free = (and_parts (is_simple app) _ free).0

-- what is found, where a parse has no fault
pub found_if : (kinds : Kinds) (found here : List Row) → kinds ≡ [] → found ≡ here → Some found ≡ (if is_empty kinds then Some here else None)
found_if kinds found here none is = rw (none, is) refl
