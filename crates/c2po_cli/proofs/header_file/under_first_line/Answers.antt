use Rattle.std.proofs.Common.{◌≡◌, ◌<◌, IfOk, Some, length, subst, sym}
use Rattle.std.proofs.lemmas.Result.{IfOk-weaker, err_from_is_err_and}
use Rattle.c2po_ast.specs.ItemShape.{spec_shape}
use Rattle.tool_io.specs.declared.host.Place.TheVariants.{Header}
use Rattle.tool_io.specs.declared.line_cut.Line as line
use Rattle.tool_io.specs.Cutting.{CutsLine}
use Rattle.tool_io.proofs.LogLaws.{OnLog-none, OnLog-map}
use Rattle.c2po_cli.specs.Images.{WritesImage}
use Rattle.c2po_cli.specs.Made.{text_bytes}
use Rattle.c2po_cli.specs.Phases.{IsRefusal}
use Rattle.c2po_cli.proofs.HeadLaws.{Made, end_made, fault_made, line_short, long_made, made_so, none_made, row_made}
use Rattle.c2po_cli.proofs.header_file.under_first_line.Goals as goal

pub returns-in_err-cut-clause-log : goal.returns-in_err-cut-clause-log
returns-in_err-cut-clause-log g c text none same =
    let p = err_from_is_err_and c.from_residual.result c.from_residual.ensures.1 in
    rw (p.1, p.2) (OnLog-none _ _ (none_made c.args.form text))

pub compiled_bytes-requires : goal.compiled_bytes-requires
compiled_bytes-requires g c = record {
  line = λ x is.
      let cut = c.next_line.new.self in
      let told = c.in-Row.ensures.log in
      let short = line_short cut told.events (subst (λ start. CutsLine Header start cut line.TheVariants.Row told.events) c.in_ok-cut.ensures told.holds) in
      let same : c.line.result ≡ x = cc in
      subst (λ l. length l.now < 65536) same (subst (λ text. length text < 65536) (sym c.line.ensures) short);
}

pub returns-in-Row-clause-log : goal.returns-in-Row-clause-log
returns-in-Row-clause-log g c text none same =
    let cut = c.next_line.new.self in
    let made = c.compiled_bytes.ensures in
    OnLog-map _ _ _ c.in-Row.ensures.log
    (λ events cuts. row_made cut events c.args.form text none c.compiled_bytes.result (subst (λ start. CutsLine Header start cut line.TheVariants.Row events) c.in_ok-cut.ensures cuts)
    (subst (λ l. Made IsRefusal c.compiled_bytes.result (text_bytes c.args.form text (Some l))) c.line.ensures
    (made_so IsRefusal c.args.form (Some c.line.result.now) (spec_shape c.args.spec.now) text c.compiled_bytes.result made.made made.refused made.refuses none same))
    (subst (λ l. IfOk c.compiled_bytes.result (λ bytes. WritesImage c.args.form text (Some l) bytes.items)) c.line.ensures
    (IfOk-weaker c.compiled_bytes.result _ _ (λ bytes image. image text none same) made.image)))

pub returns-in-End-clause-log : goal.returns-in-End-clause-log
returns-in-End-clause-log g c text none same =
    OnLog-map _ _ _ c.in-End.ensures.log
    (λ events cuts. end_made c.next_line.new.self events c.args.form text none (subst (λ start. CutsLine Header start c.next_line.new.self line.TheVariants.End events) c.in_ok-cut.ensures cuts))

pub returns-in-LongLine-clause-log : goal.returns-in-LongLine-clause-log
returns-in-LongLine-clause-log g c text none same =
    OnLog-map _ _ _ c.in-LongLine.ensures.log
    (λ events cuts. long_made c.next_line.new.self events c.args.form text none (subst (λ start. CutsLine Header start c.next_line.new.self line.TheVariants.LongLine events) c.in_ok-cut.ensures cuts))

pub returns-clause-log : goal.returns-clause-log
returns-clause-log g c text none same =
    OnLog-map _ _ _ c.in-ReadFault.ensures.log
    (λ events cuts. fault_made c.next_line.new.self events c.args.form text (subst (λ start. CutsLine Header start c.next_line.new.self line.TheVariants.ReadFault events) c.in_ok-cut.ensures cuts))
