use Rattle.std.proofs.Common.{◌≡◌, ◌∙◌, List, length, map, replicate, ap, sym, subst, arith}
use Rattle.std.proofs.lemmas.List.{length-replicate}
use Rattle.std.proofs.lemmas.Result.{IfOk-weaker}
use Rattle.mltl_base.specs.declared.program.Out.{Out}
use Rattle.mltl_base.specs.declared.program.Program.{Program}
use Rattle.mltl_base.specs.declared.report.Style.TheVariants.{Each}
use Rattle.mltl_base.specs.Programs.{outputs}
use Rattle.mltl_base.specs.Reports.{reports}
use Rattle.r2u2_monitor.specs.Monitoring.{program_of}
use Rattle.r2u2_cli.specs.declared.demo.tally.Tally.{Tally}
use Rattle.r2u2_cli.specs.Summary.{demo_rows, listed_out, summary_of}
use Rattle.r2u2_cli.specs.Tallies.{AreTallies}
use Rattle.r2u2_cli.proofs.Playing.{all_none, played_all, played_none, written_back}
use Rattle.r2u2_cli.proofs.Rows.{summary_is}
use Rattle.r2u2_cli.proofs.demo.run.played.Goals as goal

pub play-requires : goal.play-requires
play-requires c =
    let monitor = c.args.monitor.now in
    let tallies : List Tally = c.deref_mut.result.now in
    let program : c.program.result.now ≡ program_of monitor = c.program.ensures.program ∙ c.checked.ensures.program in
    let count : c.len.result ≡ length (program_of monitor).outs = c.len.ensures ∙ ap (λ (p : Program). length p.outs) program in
    let items : tallies ≡ replicate c.len.result c.new.result = c.deref_mut.ensures.value ∙ c.in_ok-tallies.ensures.items_if_clones_equal (λ y e. e) in
    let enough : length tallies ≡ length (program_of monitor).outs = ap length items ∙ length-replicate c.len.result c.new.result ∙ count in
    record {
      before = played_none tallies monitor c.args.seed c.requires.program c.requires.taken c.requires.stands c.requires.drained
          enough (all_none tallies c.len.result c.new.result items c.new.ensures);
    }

pub returns : goal.returns
returns c =
    let monitor = c.play.new.monitor in
    let played = c.play.ensures.after in
    let told = reports Each (outputs (program_of monitor)) (demo_rows c.args.seed c.args.rows) in
    let items = c.in_ok-tallies.tallies.items in
    let same : length c.play.new.tallies ≡ length items = omega (arith, c.play.auto.tallies, ap length c.deref_mut.ensures.value) in
    let whole : c.in_ok-tallies.tallies.len ≡ length items = omega (arith, c.in_ok-tallies.tallies.ok.0) in
    let back : c.deref.result.now ≡ c.play.new.tallies = c.deref.ensures.value ∙ written_back items c.play.new.tallies c.in_ok-tallies.tallies.len same whole in
    let all : AreTallies c.deref.result.now told =
    subst (λ (ts : List Tally). AreTallies ts told) (sym back) (played_all c.play.new.tallies monitor c.args.seed c.args.rows played) in
    let outs : c.as_slice-outs.result.now ≡ (program_of monitor).outs = c.as_slice-outs.ensures ∙ ap (λ (p : Program). p.outs) (c.program-2.ensures.program ∙ c.checked-2.ensures.program) in
    record {
      summary = IfOk-weaker c.summary_of.result _ _ (λ text said.
          said told all ∙ ap (λ (os : List Out). summary_of c.args.rows (map listed_out os) told) outs ∙ summary_is (program_of monitor) c.args.seed c.args.rows played.program) c.summary_of.ensures;
      program = IfOk-weaker c.summary_of.result _ _ (λ _ _. played.program) c.summary_of.ensures;
      stands = IfOk-weaker c.summary_of.result _ _ (λ _ _. played.stands) c.summary_of.ensures;
      drained = IfOk-weaker c.summary_of.result _ _ (λ _ _. played.drained) c.summary_of.ensures;
    }
