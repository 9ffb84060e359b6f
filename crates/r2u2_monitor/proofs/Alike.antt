-- Where nothing is open after rows that a monitor stands for, nothing is after any other rows that it stands for.

use Rattle.std.proofs.Common.{◌≡◌, inl, inr, ℕ, ◌<◌, ◌≤◌, Option, Some, None, List, [], length, slice_get, slice_index, slice_index_or, ap, ap₂, sym, ◌∙◌, arith}
use Rattle.std.proofs.lemmas.Bool.{cases_lt}
use Rattle.std.proofs.lemmas.List.{length-map}
use Rattle.std.proofs.lemmas.Option.{slice_get-get_or, slice_get_past}
use Rattle.mltl_base.specs.declared.interval.Engine as engine
use Rattle.mltl_base.specs.declared.program.Out as out
use Rattle.mltl_base.specs.declared.program.Program.{Program}
use Rattle.mltl_base.specs.declared.report.Style.{Style}
use Rattle.mltl_base.specs.declared.report.Word.{Word}
use Rattle.mltl_base.specs.declared.report.Word.TheVariants.{T}
use Rattle.mltl_base.specs.Atoms.{Row}
use Rattle.mltl_base.specs.Formula.{plain}
use Rattle.mltl_base.specs.Programs.{formula_at, output_of}
use Rattle.mltl_base.specs.Reports.{status, word_of, words}
use Rattle.mltl_base.proofs.Bounds.{past_at_once}
use Rattle.mltl_base.proofs.Unique.{front_unknown, front_value}
use Rattle.mltl_base.proofs.Words.{words_fit, words_in_time}
use Rattle.ft_engine.specs.Standing as future
use Rattle.contract_status.specs.Open.{known_counts_of}
use Rattle.contract_status.proofs.Draining.{drained_counts}
use Rattle.contract_status.proofs.Knowing.{formula_past}
use Rattle.contract_status.proofs.Moving.{gives_none}
use Rattle.contract_status.proofs.Placing.{entry_kept, named}
use Rattle.contract_status.proofs.Stretching.{count_at}
use Rattle.r2u2_monitor.specs.declared.running.Running.{Running}
use Rattle.r2u2_monitor.specs.Running.{HasTaken, IsDrained, open_by}

-- the words of an output that are known after some rows
abbrev told_of : Running → List Row → out.Out → ℕ
told_of running rows output = length (words rows (output_of running.checked output))

-- the verdicts that an engine keeps are the same after both
same_verdict : (running : Running) (rows other : List Row) (i t : ℕ) → HasTaken running rows → HasTaken running other → i < length running.checked.ft → future.lowest_at running.ft i ≤ t
    → slice_get (future.known_of running.checked rows i) t ≡ slice_get (future.known_of running.checked other i) t
same_verdict running rows other i t taken taken' inside kept = elim (cases_lt t (future.frontier_at running.ft i)) [
  | inl below ↦ taken.stand.future.verdicts i t inside kept below ∙ sym (taken'.stand.future.verdicts i t inside kept below)
  | inr past ↦
      slice_get_past (future.known_of running.checked rows i) t (omega (arith, past, taken.stand.future.frontiers i inside))
      ∙ sym (slice_get_past (future.known_of running.checked other i) t (omega (arith, past, taken'.stand.future.frontiers i inside)))
]

-- where all known words of an output were told after some rows, no more are known after others
no_more : (running : Running) (rows other : List Row) (k : ℕ) (output : out.Out) → HasTaken running rows → HasTaken running other → slice_get running.checked.outs k ≡ Some output → slice_index running.outs k ≡ told_of running rows output
    → told_of running other output ≤ told_of running rows output
unfolding words
no_more running rows other k (out.TheVariants.Formula engine.TheVariants.Ft i name) taken taken' there told =
    let exists : i < length running.checked.ft = named running.checked k (out.TheVariants.Formula engine.TheVariants.Ft i name) taken.formed there in
    omega (
      arith,
      length-map (future.known_of running.checked rows i) word_of,
      length-map (future.known_of running.checked other i) word_of,
      taken.stand.future.frontiers i exists,
      taken'.stand.future.frontiers i exists,
    )
no_more running rows other k (out.TheVariants.Formula engine.TheVariants.Pt i name) taken taken' there told =
    let output = out.TheVariants.Formula engine.TheVariants.Pt i name in
    omega (
      arith,
      words_fit other (output_of running.checked output),
      words_in_time rows (output_of running.checked output),
      past_at_once (plain (formula_at running.checked engine.TheVariants.Pt i)) (formula_past running.checked i),
      taken.stand.count,
      taken'.stand.count,
    )
no_more running rows other k (out.TheVariants.Contract engine.TheVariants.Pt i j name) taken taken' there told =
    let output = out.TheVariants.Contract engine.TheVariants.Pt i j name in
    omega (
      arith,
      words_fit other (output_of running.checked output),
      words_in_time rows (output_of running.checked output),
      past_at_once (plain (formula_at running.checked engine.TheVariants.Pt i)) (formula_past running.checked i),
      past_at_once (plain (formula_at running.checked engine.TheVariants.Pt j)) (formula_past running.checked j),
      taken.stand.count,
      taken'.stand.count,
    )
no_more running rows other k (out.TheVariants.Contract engine.TheVariants.Ft i j name) taken taken' there told =
    let output : out.Out = out.TheVariants.Contract engine.TheVariants.Ft i j name in
    let program : Program = running.checked in
    let exists = named program k output taken.formed there in
    let c : ℕ = told_of running rows output in
    let known : ℕ → Option Word = λ t. status (slice_get (future.known_of program rows i) t) (slice_get (future.known_of program rows j) t) in
    let known' : ℕ → Option Word = λ t. status (slice_get (future.known_of program other i) t) (slice_get (future.known_of program other j) t) in
    let kept : future.lowest_at running.ft i ≤ c = omega (arith, told, entry_kept program rows running.ft running.outs k output 0 taken.formed taken.stand.future taken.stand.placed there (omega arith) exists.0) in
    let kept' : future.lowest_at running.ft j ≤ c = omega (arith, told, entry_kept program rows running.ft running.outs k output 1 taken.formed taken.stand.future taken.stand.placed there (omega arith) exists.1) in
    let same : known c ≡ known' c = ap₂ status (same_verdict running rows other i c taken taken' exists.0 kept) (same_verdict running rows other j c taken taken' exists.1 kept') in
    elim (cases_lt c (told_of running other output)) [
      | inl more ↦
          let words' : List Word = words other (output_of program output) in
          let early : c < length rows = omega (arith, more, words_fit other (output_of program output), taken.stand.count, taken'.stand.count) in
          let none : known c ≡ None = front_unknown known (length rows) early in
          let value : known' c ≡ slice_get words' c = front_value known' (length other) c more in
          absurd (known_once (known c) (known' c) words' c none same value more)
      | inr most ↦ most
    ]
  where
    known_once : (x y : Option Word) (ws : List Word) (c : ℕ) → x ≡ None → x ≡ y → y ≡ slice_get ws c → c < length ws → ⊥
    known_once x y ws c none same value inside = let some : slice_get ws c ≡ Some (slice_index_or ws c T) = slice_get-get_or ws c T inside in cc

-- so nothing is open after others either
pub drained_alike : (running : Running) (style : Style) (rows : List Row) → HasTaken running rows → open_by style running rows ≡ [] → IsDrained running
drained_alike running style rows taken none other_style other taken' =
    let program : Program = running.checked in
    let counts : running.outs ≡ known_counts_of program rows = drained_counts style program rows running.outs taken.stand.placed none in
    gives_none other_style program other running.outs (λ k below.
    let output : out.Out = slice_index_or program.outs k (out.TheVariants.Formula engine.TheVariants.Ft 0 []) in
    let there : slice_get program.outs k ≡ Some output = slice_get-get_or program.outs k (out.TheVariants.Formula engine.TheVariants.Ft 0 []) below in
    let told : slice_index running.outs k ≡ told_of running rows output = ap (λ (next_times : List ℕ). slice_index next_times k) counts ∙ count_at program rows k output there in
    omega (arith, told, count_at program other k output there, no_more running rows other k output taken taken' there told))
