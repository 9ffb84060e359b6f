-- The first newline after the bytes that were seen ends the first line.
use Rattle.std.proofs.Common.{position, ◌==◌, sym, ap, ◌∙◌}
use Rattle.tool_io.proofs.LineLaws.{none_after, EndsLine-found}
use Rattle.tool_io.proofs.BufferLaws.{unseen-is}
use Rattle.tool_io.proofs.line_cut.LineCut.line_len.Goals as goal

pub returns-in_err-at-clause-not_found : goal.returns-in_err-at-clause-not_found
returns-in_err-at-clause-not_found c =
    let now = c.args.self.now in
    let seen = c.args.seen in
    let place = unseen-is c.self.inside now seen c.as_slice.result.now c.self.invariant c.self.view_is c.requires.plain c.requires.within c.as_slice.ensures in
    rw c.from_residual.ensures
    (none_after now.pending seen c.requires.no_newline (ap (λ bytes. position (λ byte. byte == 10) bytes) (sym place) ∙ sym c.in_err-at.ensures))

pub returns-clause-found : goal.returns-clause-found
returns-clause-found c =
    let now = c.args.self.now in
    let seen = c.args.seen in
    let place = unseen-is c.self.inside now seen c.as_slice.result.now c.self.invariant c.self.view_is c.requires.plain c.requires.within c.as_slice.ensures in
    EndsLine-found now.pending seen c.in_ok-at.at c.requires.within c.requires.no_newline (ap (λ bytes. position (λ byte. byte == 10) bytes) (sym place) ∙ sym c.in_ok-at.ensures)
