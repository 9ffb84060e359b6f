-- What was read stands after the first bytes.
use Rattle.std.proofs.Common.{◌≡◌, ◌-◌, length, arith}
use Rattle.std.proofs.lemmas.List.{length-take, length-drop}
use Rattle.tool_io.proofs.BufferLaws.{Fills-behind}
use Rattle.tool_io.proofs.line_cut.read_after.Goals as goal

pub returns-clause-bytes : goal.returns-clause-bytes
returns-clause-bytes g c =
    let a = c.args in
    let size : length c.read.new.into ≡ length a.buffer.now - a.len = omega (arith, simp (length-take, length-drop) at c.read.auto.into) in
    Fills-behind c.read.result a.len a.buffer.now c.read.new.into (g.H.Host.log a.host.now) (g.H.Host.log c.read.new.self) a.place c.requires.room size c.read.ensures.range c.read.ensures.log
