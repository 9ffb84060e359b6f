-- Reports that were given one after another.

use Rattle.std.proofs.Common.{◌≡◌, ℕ, ◌≤◌, List, [], ◌∷◌, ◌++◌, Some, length, refl, ap, sym, ◌∙◌, append_assoc, arith, length-append}
use Rattle.mltl_base.specs.declared.program.Program.{Program}
use Rattle.mltl_base.specs.declared.report.Report.{Report}
use Rattle.mltl_base.specs.declared.report.Style.{Style}
use Rattle.mltl_base.specs.Atoms.{Row}
use Rattle.booleanizer.specs.Evaluation.{numbers_on}
use Rattle.r2u2_monitor.specs.declared.running.Running.{Running}
use Rattle.r2u2_monitor.specs.declared.state.State.{State}
use Rattle.r2u2_monitor.specs.Bursts.{OpensFew, most_reports}
use Rattle.r2u2_monitor.specs.Monitoring.{MonitorIsSound, Stands, TakesRow, program_of}
use Rattle.r2u2_monitor.specs.Running.{Yields, YieldsMany, YieldsNext, open_by}
use Rattle.r2u2_monitor.specs.Stepping.{ReturnsMany, StepsOver}

-- none was given
pub yields_none : (style : Style) (running : Running) → YieldsMany style [] running running
yields_none style running = record { first = λ rows taken. refl; stands = λ rows taken. taken; moved = refl }

-- next times alone moved, twice
moves_on : (a b c : Running) → b ≡ record a { outs = b.outs } → c ≡ record b { outs = c.outs } → c ≡ record a { outs = c.outs }
moves_on a b c first second = second ∙ ap (λ (r : Running). record r { outs = c.outs }) first

-- by a report
moves_by_report : (report : Report) (b c : Running) → Yields report b c → c ≡ record b { outs = c.outs }
moves_by_report report b c given = given.moved ∙ ap (λ (outs : List ℕ). record b { outs = outs }) (sym (ap (λ (r : Running). r.outs) given.moved))

-- one more was given
pub yields_more : (style : Style) (told : List Report) (report : Report) (a b c : Running) → YieldsMany style told a b → YieldsNext style (Some report) b c → YieldsMany style (told ++ report ∷ []) a c
yields_more style told report a b c many one = record {
  first = λ rows taken.
      many.first rows taken ∙ ap (λ (more : List Report). told ++ more) (one.first rows (many.stands rows taken))
      ∙ sym (append_assoc told (report ∷ []) (open_by style c rows));
  stands = λ rows taken. one.stands rows (many.stands rows taken);
  moved = moves_on a b c many.moved (moves_by_report report b c one.given);
}

-- the same of a monitor, which changes in nothing else
pub returns_many : (style : Style) (told : List Report) (before : State) (after : Running) → YieldsMany style told before.running after → ReturnsMany style told before (record before { running = after })
returns_many style told before after many = record {
  first = λ rows stood. many.first rows stood.taken;
  stands = λ rows stood. record { taken = many.stands rows stood.taken; last = stood.last };
  program = ap (λ (r : Running). r.checked) many.moved;
  taken = ap (λ (r : Running). r.taken) many.moved;
  last = refl;
  read = refl;
}

-- which stays sound
pub sound_after_many : (style : Style) (told : List Report) (before : State) (after : Running) → MonitorIsSound before → YieldsMany style told before.running after → MonitorIsSound (record before { running = after })
sound_after_many style told before after sound many =
    let same : before.running.checked ≡ after.checked = sym (ap (λ (r : Running). r.checked) many.moved) in
    record {
      some = (sound.some.0, record { taken = many.stands sound.some.0 sound.some.1.taken; last = sound.some.1.last });
      early = omega (arith, sound.early, ap (λ (r : Running). r.taken) many.moved);
      numbers = ap (λ (r : Running). length r.bz) many.moved ∙ sound.numbers ∙ ap (λ (p : Program). length p.bz) same;
      seen = λ begun.
          ap (λ (r : Running). r.bz) many.moved ∙ sound.seen (omega (arith, begun, ap (λ (r : Running). r.taken) many.moved))
          ∙ ap (λ (p : Program). numbers_on before.last p.bz) same;
      read_wide = sound.read_wide ∙ ap (λ (p : Program). p.width) same;
    }

-- after a row was taken they are the first that it brings
pub steps_over : (style : Style) (row : Row) (told : List Report) (before taken after : State) → TakesRow row before taken → ReturnsMany style told taken after → StepsOver style row told before after
steps_over style row told before taken after takes many = record {
  brings = λ rows stood. sym (takes.opens style rows stood) ∙ many.first (rows ++ row ∷ []) (takes.stands rows stood);
  stands = λ rows stood. many.stands (rows ++ row ∷ []) (takes.stands rows stood);
  program = many.program ∙ takes.program;
  taken = many.taken ∙ takes.taken;
  last = many.last ∙ takes.last;
}

-- so they are no more than one row brings
pub few_given : (style : Style) (row : Row) (told : List Report) (before taken after : State) → (rows : List Row) × Stands before rows → TakesRow row before taken → OpensFew row before taken → ReturnsMany style told taken after
    → length told ≤ most_reports (program_of before)
few_given style row told before taken after some takes few many =
    let opened = many.first (some.0 ++ row ∷ []) (takes.stands some.0 some.1) in
    omega (arith, few style some.0 some.1, ap (λ (reports : List Report). length reports) opened ∙ length-append told _)
