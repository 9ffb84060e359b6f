-- The lines of reports, told one after another.

use Rattle.std.proofs.Common.{◌≡◌, ℕ, ◌+◌, ◌-◌, ◌≤◌, arith, replicate, List, [], ◌∷◌, ◌++◌, Bool, true, false, map, refl, sym, ◌∙◌, ap, subst, append_assoc}
use Rattle.std.specs.List.{concat}
use Rattle.std.proofs.lemmas.List.{append-nil, map-append, replicate-append-replicate}
use Rattle.std.proofs.lemmas.List.Folds.{concat-append}
use Rattle.mltl_base.specs.Programs.{outputs, output_names}
use Rattle.mltl_base.specs.Reports.{Output, of_row, reports_after}
use Rattle.mltl_base.proofs.Telling.{after_append}
use Rattle.mltl_base.specs.declared.report.Report.{Report}
use Rattle.mltl_base.specs.Lines.{line, lines_of_reports}
use Rattle.mltl_base.specs.declared.report.Style.{Style}
use Rattle.mltl_base.specs.declared.program.Program.{Program}
use Rattle.mltl_base.specs.Atoms.{Row}
use Rattle.tool_io.specs.declared.host.Place.TheVariants.{Out}
use Rattle.tool_io.specs.Log.{Event, Writes, WritesFront}
use Rattle.tool_io.proofs.ListLaws.{some-append}
use Rattle.tool_io.proofs.LogLaws.{Writes-none, Writes-then, WritesFront-then}
use Rattle.r2u2_monitor.specs.declared.state.State.{State}
use Rattle.r2u2_monitor.specs.Monitoring.{program_of, open_in, Stands, TakesRow}
use Rattle.r2u2_watch.specs.Watch.{HasTold}
use Rattle.r2u2_watch.specs.Telling.{SendsText, IsDrainedIf, text_after, TellsAll, TakesFront, TellsFront, TellsRows}

-- of the lines that were due, these bytes went out and those are left
pub record HasSent (due left : List ℕ) (events : List Event) : Type 0 where
  pub sent : List ℕ
  pub writes : Writes Out sent events
  pub split : due ≡ sent ++ left

pub HasSent-none : (due : List ℕ) → HasSent due due []
HasSent-none due = record { sent = []; writes = Writes-none Out; split = refl }

-- one more line
pub HasSent-more : (due left rest piece : List ℕ) (first second : List Event) → HasSent due left first → left ≡ piece ++ rest → Writes Out piece second → HasSent due rest (first ++ second)
HasSent-more due left rest piece first second a is b =
    record {
      sent = a.sent ++ piece;
      writes = Writes-then Out a.sent piece first second a.writes b;
      split = a.split ∙ ap (λ bytes. a.sent ++ bytes) is ∙ sym (append_assoc a.sent piece rest);
    }

-- all of them, or a front of them
pub HasSent-all : (due left : List ℕ) (events : List Event) → HasSent due left events → left ≡ [] → Writes Out due events
HasSent-all due left events a none =
    let all : due ≡ a.sent = a.split ∙ ap (λ bytes. a.sent ++ bytes) none ∙ append-nil a.sent in
    subst (λ bytes. Writes Out bytes events) (sym all) a.writes

pub HasSent-front : (due left rest piece : List ℕ) (first second : List Event) → HasSent due left first → left ≡ piece ++ rest → WritesFront Out piece second → WritesFront Out due (first ++ second)
HasSent-front due left rest piece first second a is b =
    let front = WritesFront-then Out a.sent piece first second a.writes b in
    record {
      sent = front.sent;
      unsent = front.unsent ++ rest;
      split = a.split ∙ ap (λ bytes. a.sent ++ bytes) is ∙ sym (append_assoc a.sent piece rest) ∙ ap (λ bytes. bytes ++ rest) front.split ∙ append_assoc front.sent front.unsent rest;
      misses = some-append front.unsent rest front.misses;
      writes = front.writes;
    }

-- the line of the first report, and the lines of the others
pub next_line : (names now : List (List ℕ)) (all rest : List Report) (report : Report) → all ≡ report ∷ rest → now ≡ names → lines_of_reports names all ≡ line now report ++ lines_of_reports names rest
next_line names now all rest report first same =
    ap (lines_of_reports names) first ∙ ap (λ (ns : List (List ℕ)). line ns report ++ lines_of_reports names rest) (sym same)

-- what is due for one more row
pub due_row : (style : Style) (rows : List Row) (row : Row) (before between : State) → TakesRow row before between → Stands before rows → lines_of_reports (output_names (program_of between)) (open_in style between (rows ++ row ∷ [])) ≡ lines_of_reports (output_names (program_of before)) (reports_after style (outputs (program_of before)) rows (row ∷ []))
unfolding reports_after
due_row style rows row before between took stands =
    let names = output_names (program_of before) in
    ap (λ (p : Program). lines_of_reports (output_names p) (open_in style between (rows ++ row ∷ []))) took.program ∙ ap (lines_of_reports names) (took.opens style rows stands ∙ sym (append-nil (of_row style 0 (outputs (program_of before)) rows row)))

-- the lines of rows and of further rows
told_after : (style : Style) (names : List (List ℕ)) (outs : List Output) (rows more further : List Row) → lines_of_reports names (reports_after style outs rows (more ++ further)) ≡ lines_of_reports names (reports_after style outs rows more) ++ lines_of_reports names (reports_after style outs (rows ++ more) further)
told_after style names outs rows more further =
    ap (lines_of_reports names) (after_append style outs rows more further)
    ∙ ap concat (map-append (line names) (reports_after style outs rows more) (reports_after style outs (rows ++ more) further))
    ∙ concat-append (map (line names) (reports_after style outs rows more)) (map (line names) (reports_after style outs (rows ++ more) further))

-- no rows have lines
told_none : (program : Program) (style : Style) (rows : List Row) → text_after program style rows [] ≡ []
unfolding reports_after
told_none program style rows = refl

-- no rows
pub TellsAll-none : (program : Program) (style : Style) (rows : List Row) (monitor : State) → HasTold program monitor rows → TellsAll program style rows [] monitor []
unfolding reports_after
TellsAll-none program style rows monitor told = record { sends = Writes-none Out; told = subst (HasTold program monitor) (sym (append-nil rows)) told }

-- a front of further rows, after rows that were told
TakesFront-then : (program : Program) (style : Style) (rows more further : List Row) (monitor : State) (sent : List ℕ) → TakesFront program style (rows ++ more) further monitor sent → TakesFront program style rows (more ++ further) monitor (text_after program style rows more ++ sent)
TakesFront-then program style rows more further monitor sent a =
    let names = output_names program in
    let outs = outputs program in
    let told = text_after program style rows more in
    let taken = a.before ++ a.last ∷ [] in
    let grouped : more ++ taken ≡ (more ++ a.before) ++ a.last ∷ [] = sym (append_assoc more a.before (a.last ∷ [])) in
    record {
      program_kept = a.program_kept;
      before = more ++ a.before;
      last = a.last;
      is_front = record { rest = a.is_front.rest; split = ap (λ all. more ++ all) a.is_front.split ∙ sym (append_assoc more taken a.is_front.rest) ∙ ap (λ all. all ++ a.is_front.rest) grouped };
      stands = subst (Stands monitor) (append_assoc rows more taken ∙ ap (λ all. rows ++ all) grouped) a.stands;
      told = record {
        rest = a.told.rest;
        split = ap (λ bytes. told ++ bytes) a.told.split ∙ sym (append_assoc told (text_after program style (rows ++ more) a.before) a.told.rest) ∙ ap (λ bytes. bytes ++ a.told.rest) (sym (told_after style names outs rows more a.before));
      };
      untold = record {
        rest = a.untold.rest;
        split = ap (λ all. text_after program style rows all) (sym grouped) ∙ told_after style names outs rows more taken ∙ ap (λ bytes. told ++ bytes) a.untold.split ∙ sym (append_assoc told sent a.untold.rest);
        misses = a.untold.misses;
      };
    }

-- further rows, of which all were told, or a front
pub TellsRows-then : (whole : Bool) (program : Program) (style : Style) (rows more further : List Row) (between after : State) (first second : List Event) → TellsAll program style rows more between first → TellsRows whole program style (rows ++ more) further after second → TellsRows whole program style rows (more ++ further) after (first ++ second)
TellsRows-then true program style rows more further between after first second a b = record {
  sends = subst (λ bytes. Writes Out bytes (first ++ second)) (sym (told_after style (output_names program) (outputs program) rows more further)) (Writes-then Out _ _ first second a.sends b.sends);
  told = subst (HasTold program after) (append_assoc rows more further) b.told;
}
TellsRows-then false program style rows more further between after first second a b =
    let names = output_names program in
    let outs = outputs program in
    let told = text_after program style rows more in
    let all : text_after program style rows (more ++ further) ≡ told ++ text_after program style (rows ++ more) further = told_after style names outs rows more further in
    record {
      sends = record {
        sent = told ++ b.sends.sent;
        unsent = b.sends.unsent;
        split = all ∙ ap (λ bytes. told ++ bytes) b.sends.split ∙ sym (append_assoc told b.sends.sent b.sends.unsent);
        misses = b.sends.misses;
        writes = Writes-then Out told b.sends.sent first second a.sends b.sends.writes;
      };
      kept = TakesFront-then program style rows more further after b.sends.sent b.kept;
    }

-- a front of rows is a front of them and of further ones
pub TellsFront-more : (program : Program) (style : Style) (rows more further : List Row) (monitor : State) (events : List Event) → TellsFront program style rows more monitor events → TellsFront program style rows (more ++ further) monitor events
TellsFront-more program style rows more further monitor events a =
    let behind = lines_of_reports (output_names program) (reports_after style (outputs program) (rows ++ more) further) in
    record {
      sends = record {
        sent = a.sends.sent;
        unsent = a.sends.unsent ++ behind;
        split = told_after style (output_names program) (outputs program) rows more further ∙ ap (λ bytes. bytes ++ behind) a.sends.split ∙ append_assoc a.sends.sent a.sends.unsent behind;
        misses = some-append a.sends.unsent behind a.sends.misses;
        writes = a.sends.writes;
      };
      kept = record {
        program_kept = a.kept.program_kept;
        before = a.kept.before;
        last = a.kept.last;
        is_front = record { rest = a.kept.is_front.rest ++ further; split = ap (λ all. all ++ further) a.kept.is_front.split ∙ append_assoc (a.kept.before ++ a.kept.last ∷ []) a.kept.is_front.rest further };
        stands = a.kept.stands;
        told = a.kept.told;
        untold = a.kept.untold;
      };
    }

-- one row was taken, and then told
pub TellsRows-tell : (whole : Bool) (style : Style) (rows : List Row) (row : Row) (before between after : State) (events : List Event) → TakesRow row before between → Stands before rows → SendsText whole (lines_of_reports (output_names (program_of between)) (open_in style between (rows ++ row ∷ []))) events
    → program_of after ≡ program_of between → (Stands between (rows ++ row ∷ []) → Stands after (rows ++ row ∷ [])) → IsDrainedIf whole after → TellsRows whole (program_of before) style rows (row ∷ []) after events
TellsRows-tell true style rows row before between after events took stands sends kept told drained = record {
  sends = subst (λ bytes. Writes Out bytes events) (due_row style rows row before between took stands) sends;
  told = record { program_kept = kept ∙ took.program; stands = told (took.stands rows stands); drained = drained };
}
TellsRows-tell false style rows row before between after events took stands sends kept told drained =
    let program = program_of before in
    let text : text_after program style rows (row ∷ []) ≡ sends.sent ++ sends.unsent = sym (due_row style rows row before between took stands) ∙ sends.split in
    record {
      sends = record { sent = sends.sent; unsent = sends.unsent; split = text; misses = sends.misses; writes = sends.writes };
      kept = record {
        program_kept = kept ∙ took.program;
        before = [];
        last = row;
        is_front = record { rest = []; split = refl };
        stands = told (took.stands rows stands);
        told = record { rest = sends.sent; split = ap (λ bytes. bytes ++ sends.sent) (sym (told_none program style rows)) };
        untold = record { rest = sends.unsent; split = text; misses = sends.misses };
      };
    }

-- one more row was taken, and then told
pub TellsRows-one : (whole : Bool) (program : Program) (style : Style) (rows more : List Row) (row : Row) (before between after : State) (first second : List Event) → TellsAll program style rows more before first → TakesRow row before between
    → SendsText whole (lines_of_reports (output_names (program_of between)) (open_in style between ((rows ++ more) ++ row ∷ []))) second → program_of after ≡ program_of between
    → (Stands between ((rows ++ more) ++ row ∷ []) → Stands after ((rows ++ more) ++ row ∷ [])) → IsDrainedIf whole after → TellsRows whole program style rows (more ++ row ∷ []) after (first ++ second)
TellsRows-one whole program style rows more row before between after first second was took sends kept told drained =
    let now : TellsRows whole (program_of before) style (rows ++ more) (row ∷ []) after second = TellsRows-tell whole style (rows ++ more) row before between after second took was.told.stands sends kept told drained in
    TellsRows-then whole program style rows more (row ∷ []) before after first second was (subst (λ p. TellsRows whole p style (rows ++ more) (row ∷ []) after second) was.told.program_kept now)

-- a front of some copies is a front of more
pub TellsFront-held : (program : Program) (style : Style) (rows : List Row) (row : Row) (done times : ℕ) (monitor : State) (events : List Event) → done ≤ times → TellsFront program style rows (replicate done row) monitor events → TellsFront program style rows (replicate times row) monitor events
TellsFront-held program style rows row done times monitor events within a =
    let sum : done + (times - done) ≡ times = omega (arith, within) in
    subst (λ all. TellsFront program style rows all monitor events) (replicate-append-replicate done (times - done) row ∙ ap (λ n. replicate n row) sum) (TellsFront-more program style rows (replicate done row) (replicate (times - done) row) monitor events a)
