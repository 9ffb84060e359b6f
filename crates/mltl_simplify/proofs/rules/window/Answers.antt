use Rattle.std.proofs.Common.{sym, ◌∙◌}
use Rattle.mltl_simplify.specs.Nodes.{simple_window}
use Rattle.mltl_simplify.proofs.Putting.{stays}
use Rattle.mltl_simplify.proofs.Heads.{window_keeps}
use Rattle.mltl_simplify.proofs.rules.window.Goals as goal

pub returns-in-Some : goal.returns-in-Some
returns-in-Some c = λ p h.
    stays c.args.nodes.now c.args.a p (simple_window c.args.op c.args.i p) h (window_keeps c.args.op c.args.i c.in-Some.value p (c.in-Some.ensures p h) (sym c.keeps.ensures ∙ c.if-keeps.true))
