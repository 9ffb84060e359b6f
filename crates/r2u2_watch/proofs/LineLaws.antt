-- How lines stand after a header, what they are, and which bytes and reads they come from.

use Rattle.std.proofs.Common.{◌≡◌, ℕ, ◌+◌, ◌-◌, ◌<◌, ◌≤◌, min, ◌^◌, ◌&&◌, not, nat_lt, Bool, true, false, cond, if◌then◌else◌, List, [], ◌∷◌, ◌++◌, length, map, refl, sym, ◌∙◌, ap, subst, arith, append_assoc, inl, inr}
use Rattle.std.specs.List.{concat}
use Rattle.std.proofs.lemmas.List.{append-nil}
use Rattle.std.proofs.lemmas.Bool.Decides.{nat_tests}
use Rattle.mltl_base.specs.declared.program.Program.{Program}
use Rattle.tool_io.specs.declared.host.Place.TheVariants.{Trace, Out}
use Rattle.tool_io.specs.declared.line_cut.Line as line_answer
use Rattle.tool_io.specs.Log.{Event, Took, Gave, meets_end}
use Rattle.tool_io.specs.Cutting.{Cutting, HasNoNewline, IsLastRow, IsRow, lines_of, line_text, is_long, OnlyWhereNeeded, CutsLine}
use Rattle.tool_io.proofs.CutLaws.{lines_of-row, lines_of-last}
use Rattle.tool_io.proofs.Prompting.{PromptBy}
use Rattle.trace_feed.specs.declared.trace_why.TraceWhy.TheVariants.{LongLine}
use Rattle.r2u2_watch.specs.Feed.{Feed, IsPast, IsFaulty, text_meaning, meaning_of_line}
use Rattle.r2u2_watch.specs.Trace.{is_marked, is_header, after_header}
use Rattle.r2u2_watch.specs.Watch.{OnlyRun, first_of}

-- a header, and another line, in front of lines
pub after_header-header : (number : ℕ) (raw : List ℕ) (raws : List (List ℕ)) → is_header number raw ≡ true → after_header number (raw ∷ raws) ≡ after_header (number + 1) raws
after_header-header number raw raws is = ap (λ b. cond (not b) ((number, raw) ∷ after_header (number + 1) raws) (after_header (number + 1) raws)) is

pub after_header-line : (number : ℕ) (raw : List ℕ) (raws : List (List ℕ)) → is_header number raw ≡ false → after_header number (raw ∷ raws) ≡ (number, raw) ∷ after_header (number + 1) raws
after_header-line number raw raws is = ap (λ b. cond (not b) ((number, raw) ∷ after_header (number + 1) raws) (after_header (number + 1) raws)) is

-- a line that is too long is no header
pub is_header-long : (number : ℕ) (raw : List ℕ) → is_long raw ≡ true → is_header number raw ≡ false
is_header-long number raw long =
    elim (is_marked number (line_text raw)) as (λ b. b && not (is_long raw) ≡ false) [
      | true ↦ ap not long
      | false ↦ refl
    ]

-- another is one by its number and its first byte
pub is_header-short : (number : ℕ) (raw : List ℕ) (marked : Bool) → is_long raw ≡ false → is_marked number (line_text raw) ≡ marked → is_header number raw ≡ marked
is_header-short number raw true short is = ap (λ b. b && not (is_long raw)) is ∙ ap not short
is_header-short number raw false short is = ap (λ b. b && not (is_long raw)) is

-- a header has the number 1
pub marked_first : (number : ℕ) (text : List ℕ) → is_marked number text ≡ true → number ≡ 1
marked_first number text is = grind (arith, nat_tests, is)

-- what a line is that is neither past the mission time by its number nor too long, that is too long, that is past it
pub meaning-text : (program : Program) (mission before : ℕ) (feed : Feed) (raw : List ℕ) → before < mission → is_long raw ≡ false
    → meaning_of_line program mission before feed raw ≡ text_meaning program mission feed (line_text raw)
meaning-text program mission before feed raw within short =
    let early : nat_lt before mission ≡ true = grind (arith, nat_tests, within) in
    ap (λ v. if v then (if is_long raw then IsFaulty LongLine else text_meaning program mission feed (line_text raw)) else IsPast) early
    ∙ ap (λ v. if v then IsFaulty LongLine else text_meaning program mission feed (line_text raw)) short

pub meaning-long : (program : Program) (mission before : ℕ) (feed : Feed) (raw : List ℕ) → before < mission → is_long raw ≡ true
    → meaning_of_line program mission before feed raw ≡ IsFaulty LongLine
meaning-long program mission before feed raw within long =
    let early : nat_lt before mission ≡ true = grind (arith, nat_tests, within) in
    ap (λ v. if v then (if is_long raw then IsFaulty LongLine else text_meaning program mission feed (line_text raw)) else IsPast) early
    ∙ ap (λ v. if v then IsFaulty LongLine else text_meaning program mission feed (line_text raw)) long

pub meaning-past : (program : Program) (mission before : ℕ) (feed : Feed) (raw : List ℕ) → before ≡ mission
    → meaning_of_line program mission before feed raw ≡ IsPast
meaning-past program mission before feed raw at_end =
    let late : nat_lt before mission ≡ false = grind (arith, nat_tests, at_end) in
    ap (λ v. if v then (if is_long raw then IsFaulty LongLine else text_meaning program mission feed (line_text raw)) else IsPast) late

-- the first number is at most 2
pub first_early : (start : Cutting) → start.number ≤ 1 → first_of start ≤ 2
first_early start low =
    elim start.kept as (λ v. (if v then start.number else min (start.number + 1) (2 ^ 64 - 1)) ≤ 2) [
      | true ↦ omega (arith, low)
      | false ↦ omega (arith, low)
    ]

-- what reads alone tell
pub OnlyRun-reads : (pieces : List (List ℕ)) → OnlyRun (map (Took Trace) pieces)
OnlyRun-reads [] = tt
OnlyRun-reads (piece ∷ pieces) = OnlyRun-reads pieces

pub OnlyRun-writes : (pieces : List (List ℕ)) → OnlyRun (map (Gave Out) pieces)
OnlyRun-writes [] = tt
OnlyRun-writes (piece ∷ pieces) = OnlyRun-writes pieces

pub OnlyRun-append : (first second : List Event) → OnlyRun first → OnlyRun second → OnlyRun (first ++ second)
OnlyRun-append [] second a b = b
OnlyRun-append (Took Trace piece ∷ events) second a b = OnlyRun-append events second a b
OnlyRun-append (Gave Out piece ∷ events) second a b = OnlyRun-append events second a b
OnlyRun-append (event ∷ events) second a b = absurd a

-- where a cut stands, no more bytes come than are pending, once the end was met
abbrev pub Follows : Cutting → Bool → List ℕ → Type 0
Follows cut ended more = cut.ended ≡ true → (ended ≡ true) × (more ≡ cut.pending)

-- reads that are made only where they are needed are prompt, where what was sent is due for all that is cut
pub reads_prompt : (due_of : List ℕ → List ℕ) (bytes sent pending : List ℕ) (pieces : List (List ℕ)) → OnlyWhereNeeded pending pieces → ((more : List ℕ) → HasNoNewline more → length more < 65536 → sent ≡ due_of (bytes ++ more)) → PromptBy due_of (bytes ++ pending) sent (map (Took Trace) pieces)
reads_prompt due_of bytes sent pending [] needed is = tt
reads_prompt due_of bytes sent pending (piece ∷ pieces) needed is = (
  is pending needed.0 needed.1,
  subst (λ read. PromptBy due_of read sent (map (Took Trace) pieces)) (sym (append_assoc bytes pending piece)) (reads_prompt due_of bytes sent (pending ++ piece) pieces needed.2 is),
)

pub true_false : true ≡ false → ⊥
true_false is = cc

-- no more reads where the end was met
pub no_reads : (due_of : List ℕ → List ℕ) (read sent : List ℕ) (pieces : List (List ℕ)) → pieces ≡ [] → PromptBy due_of read sent (map (Took Trace) pieces)
no_reads due_of read sent pieces none = subst (λ ps. PromptBy due_of read sent (map (Took Trace) ps)) (sym none) tt

-- so does what stands after a row
pub row_follows : (cut new : Cutting) (raw : List ℕ) (reads : List Event) (cuts : CutsLine Trace cut new line_answer.TheVariants.Row reads) → cut.pending ++ concat cuts.pieces ≡ raw ++ new.pending → (ended : Bool) (more : List ℕ) → Follows new ended more → Follows cut ended (raw ++ more)
row_follows cut new raw reads cuts split ended more follows met =
    let none = cuts.no_more met in
    let ended_now : new.ended ≡ true = cuts.ended ∙ ap (λ pieces. meets_end cut.ended pieces) none ∙ met in
    let now = follows ended_now in
    (now.0, ap (λ bytes. raw ++ bytes) now.1 ∙ sym split ∙ ap (λ pieces. cut.pending ++ concat pieces) none ∙ append-nil cut.pending)

-- a row is the first of the lines that follow
pub row_line : (raw : List ℕ) (new : Cutting) (ended : Bool) (more : List ℕ) → IsRow raw new.pending new.ended → Follows new ended more → lines_of ended (raw ++ more) ≡ raw ∷ lines_of ended more
row_line raw new ended more (inl whole) follows = lines_of-row ended raw more whole
row_line raw new ended more (inr last) follows =
    let now = follows last.at_end in
    let none : more ≡ [] = now.1 ∙ last.no_rest in
    let is_last : IsLastRow raw [] true = record { some = last.some; short = last.short; no_newline = last.no_newline; no_rest = refl; at_end = refl } in
    subst (λ v. lines_of v (raw ++ more) ≡ raw ∷ lines_of v more) (sym now.0) (subst (λ rest. lines_of true (raw ++ rest) ≡ raw ∷ lines_of true rest) (sym none) (lines_of-last raw [] true is_last))
