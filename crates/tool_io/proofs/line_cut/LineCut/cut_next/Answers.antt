-- Each read adds to what is pending; the first line that is whole there is the row.
use Rattle.std.proofs.Common.{◌≡◌, true, false, inl, inr, arith, sym, ap, ◌∙◌}
use Rattle.tool_io.specs.Cutting.{Cutting}
use Rattle.tool_io.proofs.HostLaws.{NoFault-from_read}
use Rattle.tool_io.proofs.LogLaws.{OnLog-map}
use Rattle.tool_io.proofs.Reading.{IsFilled-from, HasRead-filled, IsLastRow-all, CutsLine-row}
use Rattle.tool_io.proofs.line_cut.LineCut.cut_next.Goals as goal

pub returns-in-Some-clause-log : goal.returns-in-Some-clause-log
returns-in-Some-clause-log g c =
    let was = c.loop-len.invariant in
    let found = c.in-Some.ensures.found in
    OnLog-map _ _ _ was.log
    (λ events has. CutsLine-row c.args.place c.args.self.now c.loop-len.self c.cut.new.self c.in-Some.len events has c.requires.plain was.kept was.number found.0 was.room (inl found.1) c.cut.ensures)

pub returns-then-self-clause-log : goal.returns-then-self-clause-log
returns-then-self-clause-log g c =
    let was = c.loop-len.invariant in
    let cut = c.loop-len.self in
    let seen = c.pending_len-seen.result in
    let size = c.pending_len-seen.ensures.len in
    let met : cut.ended ≡ true = ap (λ (v : Cutting). v.ended) (sym c.self-in-loop-len.view_is) ∙ c.if-self.true in
    let last = IsLastRow-all cut.pending seen cut.ended size (omega arith) (omega (arith, was.room)) c.in_default.ensures.not_found met in
    OnLog-map _ _ _ was.log
    (λ events has. CutsLine-row c.args.place c.args.self.now cut c.cut-then-self.new.self seen events has c.requires.plain was.kept was.number (omega (arith, size)) was.room (inr last) c.cut-then-self.ensures)

pub loop-len-preserved : goal.loop-len-preserved
loop-len-preserved g c =
    let was = c.loop-len.invariant in
    let cut = c.loop-len.self in
    let none = c.in_default.ensures.not_found in
    let size = c.pending_len-seen.ensures.len in
    let unfailed = c.in_default-fill.not-Failed in
    let bytes = c.fill.ensures.bytes in
    let unmet : cut.ended ≡ false = ap (λ (v : Cutting). v.ended) (sym c.self-in-loop-len.view_is) ∙ c.if-self.false in
    let filled = IsFilled-from c.fill.result cut c.fill.new.self _ _ c.args.place unfailed was.room bytes in
    let no_fault = NoFault-from_read c.fill.result _ _ c.args.place unfailed c.fill.ensures.cause in
    record {
      row = filled.row ∙ was.row;
      kept = filled.kept ∙ was.kept;
      number = filled.number ∙ was.number;
      room = filled.room;
      within = omega (arith, size, filled.grows);
      no_newline = rw (size, filled.front) none;
      no_fault = λ place. no_fault place ∙ was.no_fault place;
      log = HasRead-filled c.fill.result c.args.self.now cut c.fill.new.self _ _ _ c.args.place unfailed bytes none (omega (arith, size)) unmet was.log;
      elsewhere = λ other differs. c.fill.ensures.elsewhere other differs ∙ was.elsewhere other differs;
    }
