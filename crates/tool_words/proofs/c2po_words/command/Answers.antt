use Rattle.std.proofs.lemmas.Result.{IfOk-weaker}
use Rattle.tool_words.proofs.CommandLaws.{app_of-arg}
use Rattle.tool_words.specs.C2poWords.{command}
use Rattle.tool_words.proofs.c2po_words.command.Goals as goal

pub returns : goal.returns
unfolding command
returns c =
    let header = app_of-arg _ _ _ _ _ c.in_ok-arg.ensures c.option.ensures.local c.bare_command.ensures c.option.ensures.rule in
    let output = app_of-arg _ _ _ _ _ c.in_ok-arg-2.ensures c.output.ensures.local header c.output.ensures.rule in
    let table = app_of-arg _ _ _ _ _ c.in_ok-arg-3.ensures c.flag.ensures.local output c.flag.ensures.rule in
    let simplify = app_of-arg _ _ _ _ _ c.in_ok-arg-4.ensures c.flag-2.ensures.local table c.flag-2.ensures.rule in
    let upgrade = app_of-arg _ _ _ _ _ c.in_ok-arg-5.ensures c.flag-3.ensures.local simplify c.flag-3.ensures.rule in
    let show = app_of-arg _ _ _ _ _ c.in_ok-arg-6.ensures c.flag-4.ensures.local upgrade c.flag-4.ensures.rule in
    IfOk-weaker c.arg-7.result _ _ (λ made h. app_of-arg _ _ _ _ _ h c.positional.ensures.local show c.positional.ensures.rule) c.arg-7.ensures
