-- A demo's monitor takes its rows one by one.

use Rattle.std.proofs.Common.{◌≡◌, ◌∙◌, ℕ, ◌+◌, ◌<◌, List, [], ◌∷◌, ◌++◌, length, replicate, take, drop, ap, sym, subst, arith, None, Ok}
use Rattle.std.specs.Prelude.{slice_index_or}
use Rattle.std.proofs.Math.Seq.{drop-length}
use Rattle.std.proofs.lemmas.List.{append-nil, get_or-replicate, length-replicate, take_all}
use Rattle.mltl_base.specs.declared.report.Style.TheVariants.{Each}
use Rattle.mltl_base.specs.Atoms.{Row}
use Rattle.mltl_base.specs.Programs.{IsFit, outputs}
use Rattle.mltl_base.specs.Reports.{reports}
use Rattle.r2u2_monitor.specs.declared.state.State.{State}
use Rattle.r2u2_monitor.specs.Monitoring.{IsDrained, Stands, TakesRow, program_of, taken_by}
use Rattle.c2po_compile.specs.Compiled.{compile_text}
use Rattle.r2u2_cli.specs.declared.demo.tally.Tally.{Tally}
use Rattle.r2u2_cli.specs.DemoRow.{demo_row}
use Rattle.r2u2_cli.specs.Played.{Played}
use Rattle.r2u2_cli.specs.Summary.{demo_rows}
use Rattle.r2u2_cli.specs.Tallies.{AreCounted, AreTallies, none}
use Rattle.r2u2_cli.specs.Text.{demo_text}
use Rattle.r2u2_cli.proofs.Counting.{counted_all, counted_none, counted_row}
use Rattle.r2u2_cli.proofs.Rows.{next_row, row_fits}

-- tallies that are all without words
pub all_none : (tallies : List Tally) (n : ℕ) (t : Tally) → tallies ≡ replicate n t → t ≡ none → (k : ℕ) → k < length tallies → slice_index_or tallies k none ≡ none
all_none tallies n t is e k within =
    ap (λ (ts : List Tally). slice_index_or ts k none) is ∙ get_or-replicate n k t none (omega (arith, within, ap length is, length-replicate n t)) ∙ e

-- before the first row
pub played_none : (tallies : List Tally) (monitor : State) (seed : ℕ) → compile_text demo_text None ≡ Ok (program_of monitor) → taken_by monitor ≡ 0
    → Stands monitor [] → IsDrained monitor → length tallies ≡ length (program_of monitor).outs
    → ((k : ℕ) → k < length tallies → slice_index_or tallies k none ≡ none) → Played tallies monitor seed 0
played_none tallies monitor seed program taken stands drained enough all = record {
  program = program;
  taken = taken;
  stands = stands;
  drained = drained;
  counted = counted_none tallies monitor drained stands enough all;
}

-- the next row fits
pub played_fits : (tallies : List Tally) (monitor : State) (seed k : ℕ) (row : Row) → Played tallies monitor seed k → row ≡ demo_row seed k → IsFit (program_of monitor) row
played_fits tallies monitor seed k row was is = subst (IsFit (program_of monitor)) (sym is) (row_fits (program_of monitor) seed k was.program)

-- what a monitor that has taken it stands for
pub played_taken : (tallies : List Tally) (before between : State) (seed k : ℕ) (row : Row) → Played tallies before seed k → TakesRow row before between
    → (rows : List Row) × Stands between rows × AreCounted tallies between rows
played_taken tallies before between seed k row was takes =
    (demo_rows seed k ++ row ∷ [], takes.stands (demo_rows seed k) was.stands, counted_row tallies before between (demo_rows seed k) row was.drained was.stands takes was.counted)

-- and one that has given its reports
pub played_more : (tallies counted : List Tally) (before between after : State) (seed k : ℕ) (row : Row) → Played tallies before seed k → row ≡ demo_row seed k
    → TakesRow row before between → program_of after ≡ program_of between → taken_by after ≡ taken_by between
    → ((rows : List Row) → Stands between rows → Stands after rows) → IsDrained after
    → ((rows : List Row) → Stands between rows → AreCounted tallies between rows → AreCounted counted after rows) → Played counted after seed (k + 1)
played_more tallies counted before between after seed k row was is takes program taken stands drained counts =
    let rows = demo_rows seed k ++ row ∷ [] in
    let next : rows ≡ demo_rows seed (k + 1) = ap (λ (r : Row). demo_rows seed k ++ r ∷ []) is ∙ sym (next_row seed k) in
    let stood : Stands between rows = takes.stands (demo_rows seed k) was.stands in
    let told : AreCounted tallies between rows = counted_row tallies before between (demo_rows seed k) row was.drained was.stands takes was.counted in
    record {
      program = was.program ∙ ap Ok (sym (program ∙ takes.program));
      taken = taken ∙ takes.taken ∙ ap (λ n. n + 1) was.taken;
      stands = subst (Stands after) next (stands rows stood);
      drained = drained;
      counted = subst (AreCounted counted after) next (counts rows stood told);
    }

-- all reports were counted
pub played_all : (tallies : List Tally) (monitor : State) (seed rows : ℕ) → Played tallies monitor seed rows
    → AreTallies tallies (reports Each (outputs (program_of monitor)) (demo_rows seed rows))
played_all tallies monitor seed rows was = counted_all tallies monitor (demo_rows seed rows) was.drained was.stands was.counted

-- a slice of a vector that is written back whole
pub written_back : (old new : List Tally) (n : ℕ) → length new ≡ length old → n ≡ length old → take n (new ++ drop (length new) old) ≡ new
written_back old new n same all =
    ap (λ (xs : List Tally). take n (new ++ xs)) (ap (λ k. drop k old) same ∙ drop-length old) ∙ ap (take n) (append-nil new) ∙ take_all n new (omega (arith, same, all))
