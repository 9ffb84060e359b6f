use Rattle.std.proofs.Common.{rules, ◌≡◌}
use Rattle.tool_io.proofs.LogLaws.{OnLog-map}
use Rattle.tool_words.specs.Files.{file_limit, file_place}
use Rattle.tool_words.specs.FileReading.{unread}
use Rattle.tool_words.proofs.PhaseLaws.{OnLog-attached, file_log, whole_log}
use Rattle.tool_words.specs.Statuses.{with_status}
use Rattle.tool_words.proofs.whole_file.read_file.Goals as goal

pub returns-clause-log : goal.returns-clause-log
returns-clause-log g c =
    let to = c.place_of-place.result in
    let told : c.map_err.result ≡ with_status (unread to.0) c.read_whole.result = search rules in
    OnLog-map _ _ _ (OnLog-attached _ _ _ to.0 c.args.name.now _ c.in_default.ensures.log c.read_whole.ensures.log)
    (λ events has. rw told (file_log (with_status (unread to.0) c.read_whole.result) to.0 (file_place c.args.kind) to.1 (file_limit c.args.kind) c.args.name.now events c.place_of-place.ensures.place c.place_of-place.ensures.limit (whole_log c.read_whole.result to.0 to.1 c.args.name.now events has)))
