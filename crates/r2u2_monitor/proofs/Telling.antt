-- What an answer says of the reports that were open.

use Rattle.std.proofs.Common.{◌≡◌, ◌↔◌, ℕ, ◌^◌, ◌≤◌, Bool, Option, None, Some, List, [], ◌∷◌, refl, ap, sym, subst, ◌∙◌, arith}
use Rattle.std.specs.Prelude.{IfNone, IsNone, IsTrue}
use Rattle.mltl_base.specs.declared.program.Program.{Program}
use Rattle.mltl_base.specs.declared.report.Report.{Report}
use Rattle.mltl_base.specs.declared.report.Style.{Style}
use Rattle.mltl_base.specs.declared.report.Style.TheVariants.{Each}
use Rattle.mltl_base.specs.Atoms.{Row}
use Rattle.mltl_base.specs.Programs.{outputs}
use Rattle.std.proofs.lemmas.Option.{IfSome_then}
use Rattle.contract_status.specs.Open as status
use Rattle.contract_status.specs.Standing.{GivesNext}
use Rattle.contract_status.proofs.Opening.{no_other}
use Rattle.r2u2_monitor.specs.declared.running.Running.{Running}
use Rattle.r2u2_monitor.specs.declared.state.State.{State}
use Rattle.r2u2_monitor.specs.Running.{HasTaken, IsDrained, Yields, YieldsFirst, YieldsNext, open_by}
use Rattle.r2u2_monitor.specs.Monitoring as monitor

-- what is given of next times is given of what runs
pub gives_of_places : (style : Style) (program : Program) (result : Option Report) (before after : Running) (rows : List Row) → before.checked ≡ program → after.checked ≡ program → status.GivesFirst style program rows before.outs after.outs result
    → YieldsFirst style result before after rows
gives_of_places style program None before after rows e e' gives = subst (λ (p : Program). status.open_of style p rows before.outs ≡ []) (sym e) gives
gives_of_places style program (Some report) before after rows e e' gives =
    ap (λ (p : Program). status.open_of style p rows before.outs) e ∙ gives ∙ ap (λ (p : Program). report ∷ status.open_of style p rows after.outs) (sym e')

-- a report that next times gave was given by what runs, where they alone changed
pub given_of_places : (before : Running) (next_times : List ℕ) (report : Report) → status.IsGiven before.checked before.taken report before.outs next_times → Yields report before (record before { outs = next_times })
given_of_places before next_times report given = record {
  exists = given.exists;
  taken = given.taken;
  moved = ap (λ (outs : List ℕ). record before { outs = outs }) given.moved;
  fewer = given.fewer;
}

-- so what next times gave, what runs gave
pub yields_of_places : (style : Style) (result : Option Report) (before : Running) (next_times : List ℕ) → GivesNext style before.checked before.taken before.ft before.pt result before.outs next_times
    → YieldsNext style result before (record before { outs = next_times })
yields_of_places style result before next_times gives =
    let after : Running = record before { outs = next_times } in
    record {
      first = λ rows taken. gives_of_places style before.checked result before after rows refl refl (gives.first rows taken.stand);
      stands = λ rows taken. record {
        layout = taken.layout;
        formed = taken.formed;
        fit = taken.fit;
        stand = record { future = taken.stand.future; past = taken.stand.past; placed = gives.placed rows taken.stand; count = taken.stand.count };
      };
      none = λ none. ap (λ (outs : List ℕ). record before { outs = outs }) (gives.none none);
      given = IfSome_then result gives.given (λ report given. given_of_places before next_times report given);
    }

-- and so by a monitor that changed in nothing else, whose rows are at most 2 ^ 40
pub given_of_running : (before : State) (after : Running) (report : Report) → before.running.taken ≤ 2 ^ 40 → Yields report before.running after → monitor.IsReturned report before (record before { running = after })
given_of_running before after report early given = record {
  moved = record { moved = given.moved; last = refl; read = refl };
  exists = given.exists;
  taken = given.taken;
  early = omega (arith, given.taken, early);
  fewer = given.fewer;
}

-- nothing is open in one style: so it is in each
pub drained_in_all : (running : Running) (style : Style) → ((rows : List Row) → HasTaken running rows → open_by style running rows ≡ []) → IsDrained running
drained_in_all running style none other rows taken = no_other style other rows 0 (outputs running.checked) running.outs (none rows taken)

-- none is given exactly where nothing is open
pub none_where_drained : (style : Style) (result : Option Report) (before after : Running) → ((rows : List Row) → HasTaken before rows → YieldsFirst style result before after rows)
    → (rows : List Row) × HasTaken before rows → IsNone result ↔ IsDrained before
none_where_drained style None before after gives some = (λ _. drained_in_all before style gives, λ _. refl)
none_where_drained style (Some report) before after gives some =
    (λ h. cc, λ drained. let given : open_by style before some.0 ≡ report ∷ open_by style after some.0 = gives some.0 some.1 in let none : open_by style before some.0 ≡ [] = drained style some.0 some.1 in absurd cc)

-- and where none is given nothing is open afterwards
pub none_leaves_drained : (style : Style) (result : Option Report) (before after : Running) → ((rows : List Row) → HasTaken before rows → YieldsFirst style result before after rows)
    → (IsNone result → after ≡ before) → IfNone result (IsDrained after)
none_leaves_drained style None before after gives same = subst IsDrained (sym (same refl)) (drained_in_all before style gives)
none_leaves_drained style (Some report) before after gives same = tt

-- so what runs gives a report, the monitor does
pub gives_next : (style : Style) (result : Option Report) (before : State) (after : Running) → (rows : List Row) × HasTaken before.running rows → before.running.taken ≤ 2 ^ 40 → YieldsNext style result before.running after
    → monitor.ReturnsNext style result before (record before { running = after })
gives_next style None before after some early yields =
    let same : after ≡ before.running = yields.none refl in
    record {
      first = λ rows stood. yields.first rows stood.taken;
      stands = λ rows stood. record { taken = yields.stands rows stood.taken; last = stood.last };
      none = none_where_drained style None before.running after yields.first some;
      same = ap (λ (running : Running). record before { running = running }) same;
      drained = none_leaves_drained style None before.running after yields.first yields.none;
      given = tt;
      program = ap (λ (running : Running). running.checked) same;
      as_many = ap (λ (running : Running). running.taken) same;
    }
gives_next style (Some report) before after some early yields = record {
  first = λ rows stood. yields.first rows stood.taken;
  stands = λ rows stood. record { taken = yields.stands rows stood.taken; last = stood.last };
  none = none_where_drained style (Some report) before.running after yields.first some;
  same = tt;
  drained = tt;
  given = given_of_running before after report early yields.given;
  program = ap (λ (running : Running). running.checked) yields.given.moved;
  as_many = ap (λ (running : Running). running.taken) yields.given.moved;
}

-- an answer that tells of one list of rows tells of each
pub tells_drained : (answer : Bool) (running : Running) → ((style : Style) (rows : List Row) → HasTaken running rows → IsTrue answer ↔ (open_by style running rows ≡ []))
    → (rows : List Row) × HasTaken running rows → IsTrue answer ↔ IsDrained running
tells_drained answer running tells some =
    (λ h style rows taken. (tells style rows taken).0 h, λ drained. (tells Each some.0 some.1).1 (drained Each some.0 some.1))
