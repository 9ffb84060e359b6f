use Rattle.std.proofs.Common.{Ok, Err, ap, subst, option_map}
use Rattle.std.proofs.lemmas.Result.{err_from_is_err_and}
use Rattle.tool_io.proofs.LogLaws.{OnLog-map, OnLog-then}
use Rattle.tool_words.specs.Files.{file_place, file_limit}
use Rattle.tool_words.specs.FileReading.{FileLog}
use Rattle.c2po_cli.specs.Asking.{make_of}
use Rattle.c2po_cli.specs.Phases.{AfterLog}
use Rattle.c2po_cli.proofs.GatherRuns.{gather_after, gather_unread}
use Rattle.c2po_cli.proofs.inputs.gather.Goals as goal

pub returns-in_err-bytes-clause-log : goal.returns-in_err-bytes-clause-log
returns-in_err-bytes-clause-log g c =
    let p = err_from_is_err_and c.from_residual.result c.from_residual.ensures.1 in
    let asked = make_of c.args.asked.now in
    let answer = c.in_err-bytes.field-0.0 in
    rw (p.1, p.2) (OnLog-map _ _ _ c.in_err-bytes.ensures.log
    (λ events read. gather_unread asked events answer (subst (λ kind. FileLog (Err answer) (file_place kind) (file_limit kind) asked.file events) c.file_kind.ensures read)))

pub returns-clause-log : goal.returns-clause-log
returns-clause-log g c =
    let asked = make_of c.args.asked.now in
    OnLog-then _ _ _ _ c.in_ok-bytes.ensures.log c.of_file.ensures.log
    (λ first second read behind. gather_after asked c.in_ok-bytes.bytes c.of_file.result first second (λ is. ap (option_map (λ name. name.now)) (c.requires.header is))
    (subst (λ kind. FileLog (Ok c.in_ok-bytes.bytes) (file_place kind) (file_limit kind) asked.file first) c.file_kind.ensures read)
    (subst (λ bytes. AfterLog c.of_file.result asked bytes second) c.deref.ensures.value behind))
