use Rattle.std.proofs.Common.{ℕ, List, IsTrue, Some, drop, subst, sym}
use Rattle.std.proofs.lemmas.List.{take_rest}
use Rattle.r2u2_monitor.specs.Monitoring.{program_of, read_of}
use Rattle.sparse_feed.specs.Stamps.{may_follow}
use Rattle.trace_feed.specs.Rows.{line_meaning}
use Rattle.r2u2_watch.specs.declared.reader.Reader as reader
use Rattle.r2u2_watch.specs.Feed.{Stamped, stamped_line}
use Rattle.r2u2_watch.specs.Turns.{Finds, FindsFields}
use Rattle.r2u2_watch.proofs.FoundLaws.{held_is, stamped_found}
use Rattle.r2u2_watch.proofs.reader.read_stamped.Goals as goal

pub returns-in-At-clause-told : goal.returns-in-At-clause-told
returns-in-At-clause-told c lines rows before stands is_last same =
    let monitor = c.args.monitor.now in
    let program = program_of monitor in
    let after = c.read_fields.new.monitor in
    let line : List ℕ = c.args.line.now in
    let time = c.in-At.time in
    let place = c.in-At.place in
    let copies = c.gap-copies.result in
    let found = c.read_fields.result in
    let fields : FindsFields found copies (reader.TheVariants.Stamped (Some time)) (line_meaning program (drop place line)) (read_of after) =
    subst (λ (bytes : List ℕ). FindsFields found copies (reader.TheVariants.Stamped (Some time)) (line_meaning program bytes) (read_of after)) (take_rest line place) c.read_fields.ensures.told in
    subst (λ said. Finds found (Stamped before) (stamped_line program before line said) lines rows monitor after) c.in-At.ensures.told
    (stamped_found found (line_meaning program (drop place line)) lines rows before time copies monitor after fields
    (held_is before rows monitor c.args.last copies time is_last stands same c.gap-copies.ensures)
    (subst (λ last. IsTrue (may_follow last time)) (sym same) c.in-At.ensures.follows) is_last)
