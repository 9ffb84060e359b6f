-- What a row makes of what runs.

use Rattle.std.proofs.Common.{◌≡◌, ℕ, ◌+◌, ◌<◌, ◌^◌, ℤ, List, [], ◌∷◌, ◌++◌, length, refl, ap, sym, subst, ◌∙◌, arith}
use Rattle.std.proofs.lemmas.List.{length_push}
use Rattle.std.proofs.lemmas.List.Elements.{All-push}
use Rattle.mltl_base.specs.declared.program.Program.{Program}
use Rattle.mltl_base.specs.declared.report.Style.TheVariants.{Each}
use Rattle.mltl_base.specs.Atoms.{Row}
use Rattle.mltl_base.specs.Programs.{IsFit, outputs}
use Rattle.booleanizer.specs.Evaluation.{numbers_on}
use Rattle.ft_engine.specs.declared.Ft.{Ft}
use Rattle.ft_engine.specs.Standing as future
use Rattle.pt_boxes.specs.declared.Pt.{Pt}
use Rattle.pt_boxes.specs.Standing as past
use Rattle.contract_status.specs.Open.{ArePlaced, known_counts_of}
use Rattle.contract_status.specs.Open as status
use Rattle.contract_status.proofs.Draining.{counts_drained, drained_counts, placed_after_row}
use Rattle.contract_status.proofs.Opening.{open_after_row}
use Rattle.r2u2_monitor.specs.declared.running.Running.{Running}
use Rattle.r2u2_monitor.specs.Running.{HasTaken, IsDrained, EnginesTakeRow}

-- where nothing is open, the next time of each output is the number of its known words
pub drained_places : (running : Running) (rows : List Row) → HasTaken running rows → IsDrained running → running.outs ≡ known_counts_of running.checked rows
drained_places running rows taken drained = drained_counts Each running.checked rows running.outs taken.stand.placed (drained Each rows taken)

-- an engine goes from rows to the same with one more, whose numbers these are
abbrev pub GoesOn : Program → List ℤ → (List Row → Type 0) → (List Row → Type 0) → Type 0
GoesOn program numbers before after = (rows : List Row) (row : Row) → length rows < 2 ^ 40 → numbers ≡ numbers_on row program.bz → before rows → after (rows ++ row ∷ [])

-- so a row that both engines took is taken, and what it brings is open
pub takes_row : (running : Running) (row : Row) (numbers : List ℤ) (ft : Ft) (pt : Pt) → IsDrained running → running.taken < 2 ^ 40 → IsFit running.checked row → numbers ≡ numbers_on row running.checked.bz
    → GoesOn running.checked numbers (λ rows. future.FtHasTaken running.checked rows running.ft) (λ rows. future.FtHasTaken running.checked rows ft)
    → GoesOn running.checked numbers (λ rows. past.PtHasTaken running.checked rows running.pt) (λ rows. past.PtHasTaken running.checked rows pt)
    → EnginesTakeRow row running (record running { bz = numbers; ft = ft; pt = pt; taken = running.taken + 1 })
takes_row running row numbers ft pt drained early fit given ahead ahead' = record {
  program = refl;
  taken = refl;
  stands = λ rows taken.
      let few : length rows < 2 ^ 40 = omega (arith, taken.stand.count) in
      record {
        layout = taken.layout;
        formed = taken.formed;
        fit = All-push (IsFit running.checked) rows row taken.fit fit;
        stand = record {
          future = ahead rows row few given taken.stand.future;
          past = ahead' rows row few given taken.stand.past;
          placed = subst (ArePlaced running.checked (rows ++ row ∷ [])) (sym (drained_places running rows taken drained)) (placed_after_row running.checked rows row);
          count = length_push rows row ∙ ap (λ (n : ℕ). n + 1) taken.stand.count;
        };
      };
  opens = λ style rows taken.
      ap (λ (next_times : List ℕ). status.open_of style running.checked (rows ++ row ∷ []) next_times) (drained_places running rows taken drained)
      ∙ open_after_row style 0 (outputs running.checked) rows row;
  told = refl;
  seen = given;
}

-- before the first row nothing is open
pub drained_at_start : (running : Running) → running.taken ≡ 0 → running.outs ≡ known_counts_of running.checked [] → IsDrained running
drained_at_start running none counts style rows taken = go rows (omega (arith, taken.stand.count))
  where
    go : (rows : List Row) → length rows ≡ 0 → status.open_of style running.checked rows running.outs ≡ []
    go [] e = ap (λ (next_times : List ℕ). status.open_of style running.checked [] next_times) counts ∙ counts_drained style running.checked []
    go (row ∷ rows) e = absurd (omega (arith, e))
