-- What stays of what a monitor stands for, and what that says of its queues and next times.

use Rattle.std.proofs.Common.{◌≡◌, ℕ, ◌+◌, ◌<◌, ◌≤◌, ◌^◌, List, [], ◌∷◌, ◌++◌, slice_get, slice_index, length, sum, ap, ap₂, sym, subst, ◌∙◌, arith}
use Rattle.std.specs.Prelude.{Some, Contains}
use Rattle.std.proofs.lemmas.List.{ext_get_or, get_or-map}
use Rattle.std.proofs.lemmas.List.FromFn.{get_or-map-range_with_len, length-map-range_with_len}
use Rattle.std.proofs.lemmas.Option.{get_or_from_slice_get, slice_get_within}
use Rattle.mltl_base.specs.declared.program.Out.{Out}
use Rattle.mltl_base.specs.declared.program.Program.{Program}
use Rattle.mltl_base.specs.Atoms.{Row}
use Rattle.mltl_base.specs.Queues.{queue_lengths, reported, slot_count}
use Rattle.mltl_base.specs.Programs.{IsFit, outputs}
use Rattle.mltl_base.specs.Reports.{Output, delay, words}
use Rattle.mltl_base.proofs.Words.{words_in_time}
use Rattle.booleanizer.specs.Evaluation.{numbers_on}
use Rattle.obs_verify.proofs.RunLaws.{runs_future, runs_past}
use Rattle.ft_engine.specs.declared.Ft.{Ft}
use Rattle.ft_engine.specs.Standing.{instruction_count, lowest_at, slots_at, queue_width}
use Rattle.contract_status.specs.Open.{known_counts_of}
use Rattle.contract_status.proofs.Draining.{drained_wide, entries_kept}
use Rattle.r2u2_monitor.specs.declared.running.Running.{Running}
use Rattle.r2u2_monitor.specs.declared.state.State.{State}
use Rattle.r2u2_monitor.specs.Running.{HasTaken}
use Rattle.r2u2_monitor.specs.Running as running
use Rattle.r2u2_monitor.specs.Monitoring.{IsDrained, IsSame, MonitorIsSound, Stands, last_of, places_of, program_of, read_of, room_total_of, slot_total_of, slots_of}
use Rattle.r2u2_monitor.proofs.LastRows.{all_last, ends_with, none_before, same_last}
use Rattle.r2u2_monitor.proofs.Taking.{drained_places}

-- a monitor that has taken no rows represents none, and is sound
pub stands_at_start : (monitor : State) → HasTaken monitor.running [] → Stands monitor []
stands_at_start monitor taken = record { taken = taken; last = λ before row is. absurd (none_before before row is) }

pub sound_at_start : (monitor : State) → HasTaken monitor.running [] → monitor.running.taken ≡ 0 → length monitor.running.bz ≡ length (program_of monitor).bz → length (read_of monitor) ≡ (program_of monitor).width
    → MonitorIsSound monitor
sound_at_start monitor taken none numbers wide = record {
  some = ([], stands_at_start monitor taken);
  early = omega (arith, none);
  numbers = numbers;
  seen = λ begun. absurd (omega (arith, none, begun));
  read_wide = wide;
}

-- a sound monitor that takes a row is sound
pub sound_after : (before after : State) (row : Row) → MonitorIsSound before → running.EnginesTakeRow row before.running after.running → before.running.taken < 2 ^ 40 → last_of after ≡ row
    → length after.running.bz ≡ length (program_of before).bz → length (read_of after) ≡ (program_of before).width → MonitorIsSound after
sound_after before after row sound takes early last numbers wide = record {
  some = (
    sound.some.0 ++ row ∷ [],
    record {
      taken = takes.stands sound.some.0 sound.some.1.taken;
      last = λ rows other is. last ∙ same_last sound.some.0 rows row other is;
    },
  );
  early = omega (arith, takes.taken, early);
  numbers = numbers ∙ ap (λ (p : Program). length p.bz) (sym takes.program);
  seen = λ _.
      takes.seen ∙ ap (λ (r : Row). numbers_on r (program_of before).bz) (sym last)
      ∙ ap (λ (p : Program). numbers_on (last_of after) p.bz) (sym takes.program);
  read_wide = wide ∙ ap (λ (p : Program). p.width) (sym takes.program);
}

pub same_stands : (before after : State) (rows : List Row) → IsSame before after → Stands before rows → Stands after rows
same_stands before after rows same stands = record {
  taken = subst (λ (r : Running). HasTaken r rows) (sym same.running) stands.taken;
  last = λ front row is. same.last ∙ stands.last front row is;
}

pub same_drained : (before after : State) → IsSame before after → IsDrained before → IsDrained after
same_drained before after same drained = subst running.IsDrained (sym same.running) drained

-- the last row fits the program
pub last_fits : (monitor : State) (rows : List Row) → Stands monitor rows → 0 < monitor.running.taken → IsFit (program_of monitor) (last_of monitor)
last_fits monitor rows stands some =
    let split = ends_with rows (omega (arith, some, stands.taken.stand.count)) in
    subst (IsFit (program_of monitor)) (sym (stands.last split.0 split.1 split.2)) (all_last (IsFit (program_of monitor)) rows split.0 split.1 split.2 stands.taken.fit)

-- where all reports were given, the next time of each output is the number of its known words
pub told_places : (monitor : State) (rows : List Row) → Stands monitor rows → IsDrained monitor → places_of monitor ≡ known_counts_of (program_of monitor) rows
told_places monitor rows stands drained = drained_places monitor.running rows stands.taken drained

-- which lie no further behind than the width of each instruction that the output reports
pub told_wide : (monitor : State) (rows : List Row) (k g : ℕ) (output : Out) → Stands monitor rows → IsDrained monitor → slice_get (program_of monitor).outs k ≡ Some output → Contains (reported output) g
    → length rows ≤ slice_index (places_of monitor) k + queue_width (program_of monitor) g
told_wide monitor rows k g output stands drained there among =
    subst (λ (next_times : List ℕ). length rows ≤ slice_index next_times k + queue_width (program_of monitor) g) (sym (told_places monitor rows stands drained))
    (drained_wide (program_of monitor) rows k g output stands.taken.formed there among)

-- the queues keep what outputs read
pub entries_stay : (monitor : State) (rows : List Row) (k g : ℕ) (output : Out) → Stands monitor rows → slice_get (program_of monitor).outs k ≡ Some output → Contains (reported output) g
    → lowest_at monitor.running.ft g ≤ slice_index (places_of monitor) k
entries_stay monitor rows k g output stands there among =
    entries_kept (program_of monitor) rows monitor.running.ft (places_of monitor) k g output stands.taken.formed stands.taken.stand.future stands.taken.stand.placed there among

-- each queue has the slots that are stored for it, which are those that it needs
pub slots_needed : (monitor : State) (rows : List Row) → Stands monitor rows → (slots_of monitor ≡ (program_of monitor).sizes.ft) × ((program_of monitor).sizes.ft ≡ queue_lengths (program_of monitor).ft (program_of monitor).outs)
slots_needed monitor rows stands =
    let program : Program = program_of monitor in
    let ft : Ft = monitor.running.ft in
    let future = stands.taken.stand.future in
    let many : instruction_count ft ≡ length program.ft = future.count in
    let long : length (slots_of monitor) ≡ length program.sizes.ft = length-map-range_with_len (slots_at ft) 0 (instruction_count ft) ∙ many ∙ sym stands.taken.layout.ft_sizes in
    let runs = runs_future program stands.taken.layout stands.taken.formed in (
      ext_get_or 0 (slots_of monitor) program.sizes.ft long (λ i inside.
          let here : i < instruction_count ft = omega (arith, inside, length-map-range_with_len (slots_at ft) 0 (instruction_count ft)) in
          get_or-map-range_with_len (slots_at ft) 0 (instruction_count ft) i i 0 here (omega arith) ∙ future.sizes i (omega (arith, here, many))),
      runs.sizes,
    )

-- all slots together, and all boxes, are those that are stored, which are those that the program needs
pub none_left_over : (monitor : State) (rows : List Row) → Stands monitor rows
    → (slot_total_of monitor ≡ sum (program_of monitor).sizes.ft) × (room_total_of monitor ≡ sum (program_of monitor).sizes.pt)
    × (slot_total_of monitor + room_total_of monitor ≡ slot_count (program_of monitor).ft (program_of monitor).pt (program_of monitor).outs)
none_left_over monitor rows stands =
    let program : Program = program_of monitor in
    let slots = stands.taken.stand.future.total in
    let boxes = stands.taken.stand.past.total in (
      slots,
      boxes,
      ap₂ (λ (a b : ℕ). a + b)
          (slots ∙ ap (λ (ns : List ℕ). sum ns) (runs_future program stands.taken.layout stands.taken.formed).sizes)
          (boxes ∙ ap (λ (ns : List ℕ). sum ns) (runs_past program stands.taken.layout stands.taken.formed).sizes),
    )

-- where all reports were given, each time that is as far behind as the output's delay was told
pub told_in_time : (monitor : State) (rows : List Row) (k : ℕ) (o : Output) → Stands monitor rows → IsDrained monitor → slice_get (outputs (program_of monitor)) k ≡ Some o → length rows ≤ slice_index (places_of monitor) k + delay o
told_in_time monitor rows k o stands drained there =
    let outs : List Output = outputs (program_of monitor) in
    let within : k < length outs = slice_get_within outs k o there in
    let count : slice_index (known_counts_of (program_of monitor) rows) k ≡ length (words rows o) =
    get_or-map (λ (x : Output). length (words rows x)) outs k o 0 within ∙ ap (λ (x : Output). length (words rows x)) (get_or_from_slice_get outs k o o there) in
    omega (arith, ap (λ (next_times : List ℕ). slice_index next_times k) (told_places monitor rows stands drained), count, words_in_time rows o)
