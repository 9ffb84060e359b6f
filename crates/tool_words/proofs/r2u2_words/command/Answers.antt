use Rattle.std.proofs.lemmas.Result.{IfOk-weaker}
use Rattle.tool_words.proofs.CommandLaws.{app_of-arg}
use Rattle.tool_words.specs.R2u2Words.{command}
use Rattle.tool_words.proofs.r2u2_words.command.Goals as goal

pub returns : goal.returns
unfolding command
returns c =
    let source = app_of-arg _ _ _ _ _ c.in_ok-arg.ensures c.flag.ensures.local c.bare_command.ensures c.flag.ensures.rule in
    let runs = app_of-arg _ _ _ _ _ c.in_ok-arg-2.ensures c.flag-2.ensures.local source c.flag-2.ensures.rule in
    let timed = app_of-arg _ _ _ _ _ c.in_ok-arg-3.ensures c.flag-3.ensures.local runs c.flag-3.ensures.rule in
    let mission_time = app_of-arg _ _ _ _ _ c.in_ok-arg-4.ensures c.option.ensures.local timed c.option.ensures.rule in
    let seeded = app_of-arg _ _ _ _ _ c.in_ok-arg-5.ensures c.option-2.ensures.local mission_time c.option-2.ensures.rule in
    let file = app_of-arg _ _ _ _ _ c.in_ok-arg-6.ensures c.positional.ensures.local seeded c.positional.ensures.rule in
    IfOk-weaker c.arg-7.result _ _ (λ made h. app_of-arg _ _ _ _ _ h c.positional-2.ensures.local file c.positional-2.ensures.rule) c.arg-7.ensures
