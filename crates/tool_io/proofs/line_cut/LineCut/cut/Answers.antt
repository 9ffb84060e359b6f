-- The first bytes are the row, and the others are left.
use Rattle.std.proofs.Common.{◌≡◌, ◌≤◌, length, false, sym, ap, ◌∙◌, subst}
use Rattle.tool_io.specs.Cutting.{Cutting}
use Rattle.tool_io.specs.Buffer.{rest_bytes}
use Rattle.tool_io.proofs.BufferLaws.{pending-plain, CutsFront-of}
use Rattle.tool_io.proofs.line_cut.LineCut.cut.Goals as goal

pub returns : goal.returns
returns c =
    let cut = c.self.inside in
    let plain : cut.kept ≡ false = ap (λ (v : Cutting). v.kept) c.self.view_is ∙ c.requires.plain in
    let pending = ap (λ (v : Cutting). v.pending) (sym c.self.view_is) ∙ pending-plain cut plain in
    let within : c.args.len ≤ length (rest_bytes cut) = subst (λ bytes. c.args.len ≤ length bytes) pending c.requires.within in
    rw (← c.self.view_is) (CutsFront-of cut c.args.len c.saturating_add-self-inside.result c.self.invariant plain within c.saturating_add-self-inside.ensures)
