-- Reads for the next line, one after another, and how each answer follows from them.
use Rattle.std.proofs.Common.{◌≡◌, ℕ, ◌+◌, ◌-◌, ◌≤◌, ◌<◌, ◌^◌, min, Bool, true, false, if◌then◌else◌, Option, Some, None, List, [], ◌∷◌, ◌++◌, length, take, drop, refl, sym, ◌∙◌, ap, subst, arith}
use Rattle.std.specs.List.{concat}
use Rattle.std.proofs.lemmas.List.{append-nil, append_assoc, take-append-drop, take_all, drop_all, length-take, length-take-le, length-append}
use Rattle.std.proofs.Math.Seq.{take-append_seam}
use Rattle.std.proofs.lemmas.List.Folds.{concat-append}
use Rattle.tool_io.specs.declared.host.Place.{Place}
use Rattle.tool_io.specs.declared.host.Got as got
use Rattle.tool_io.specs.declared.line_cut.Line as line
use Rattle.tool_io.specs.declared.line_cut.LineCut.TheInside.{Inside}
use Rattle.tool_io.specs.Log.{Event, Took, OnLog, Reads, is_empty, meets_end}
use Rattle.tool_io.specs.Cutting.{Cutting, HasNoNewline, OnlyWhereNeeded, IsLastRow, IsRow, next_number, CutsLine}
use Rattle.tool_io.specs.Buffer.{row_bytes, rest_bytes, cut_of, HoldsRows, FillsCut, CutsFront}
use Rattle.tool_io.proofs.ListLaws.{is_empty-some}
use Rattle.tool_io.proofs.LogLaws.{Appends-then, Reads-then, meets_end-append}

-- the reads since a call began, each one needed
pub record HasRead (place : Place) (old now : Cutting) (events : List Event) : Type 0 where
  pub pieces : List (List ℕ)
  pub reads : Reads place pieces events
  pub needed : OnlyWhereNeeded old.pending pieces
  pub no_more : old.ended ≡ true → pieces ≡ []
  pub ended : now.ended ≡ meets_end old.ended pieces
  pub all : now.pending ≡ old.pending ++ concat pieces

needed_more : (pending : List ℕ) (pieces : List (List ℕ)) (piece : List ℕ) → OnlyWhereNeeded pending pieces → HasNoNewline (pending ++ concat pieces) → length (pending ++ concat pieces) < 65536 → OnlyWhereNeeded pending (pieces ++ piece ∷ [])
needed_more pending [] piece needed none room = let same = append-nil pending in (subst HasNoNewline same none, subst (λ bytes. length bytes < 65536) same room, tt)
needed_more pending (first ∷ pieces) piece needed none room =
    let same = sym (append_assoc pending first (concat pieces)) in
    (needed.0, needed.1, needed_more (pending ++ first) pieces piece needed.2 (subst HasNoNewline same none) (subst (λ bytes. length bytes < 65536) same room))

-- one more read
pub HasRead-more : (place : Place) (old between now : Cutting) (piece : List ℕ) (events : List Event) → HasRead place old between events → HasNoNewline between.pending → length between.pending < 65536 → between.ended ≡ false → now.pending ≡ between.pending ++ piece → now.ended ≡ is_empty piece → HasRead place old now (events ++ Took place piece ∷ [])
HasRead-more place old between now piece events was none room unmet pending ended =
    record {
      pieces = was.pieces ++ piece ∷ [];
      reads = Reads-then place was.pieces (piece ∷ []) events (Took place piece ∷ []) was.reads refl;
      needed = needed_more old.pending was.pieces piece was.needed (subst HasNoNewline was.all none) (subst (λ bytes. length bytes < 65536) was.all room);
      no_more = λ met.
          let stays : meets_end old.ended was.pieces ≡ old.ended = ap (meets_end old.ended) (was.no_more met) in
          let clash : true ≡ false = sym met ∙ sym stays ∙ sym was.ended ∙ unmet in
          cc;
      ended = ended ∙ sym (meets_end-append old.ended was.pieces (piece ∷ []));
      all =
          pending ∙ ap (λ bytes. bytes ++ piece) was.all ∙ append_assoc old.pending (concat was.pieces) piece
          ∙ ap (λ bytes. old.pending ++ (concat was.pieces ++ bytes)) (sym (append-nil piece))
          ∙ ap (λ bytes. old.pending ++ bytes) (sym (concat-append was.pieces (piece ∷ [])));
    }

-- a read that didn't fail leaves the pending bytes at the front, and the rest as it was
pub record IsFilled (between now : Cutting) : Type 0 where
  pub row : now.row ≡ between.row
  pub kept : now.kept ≡ between.kept
  pub number : now.number ≡ between.number
  pub room : length now.pending ≤ 65536
  pub grows : length between.pending ≤ length now.pending
  pub front : take (length between.pending) now.pending ≡ between.pending

pub IsFilled-from : (result : got.Got) (between now : Cutting) (before after : Option (List Event)) (place : Place) → (result ≡ got.TheVariants.Failed → ⊥) → length between.pending ≤ 65536 → FillsCut result between now before after place → IsFilled between now
IsFilled-from (got.TheVariants.Bytes n) between now before after place unfailed room filled =
    let piece = filled.0 in
    let same = filled.5 in
    let pending : now.pending ≡ between.pending ++ piece = ap (λ (cut : Cutting). cut.pending) same in
    let size : length now.pending ≡ length between.pending + n = ap length pending ∙ length-append between.pending piece ∙ ap (λ k. length between.pending + k) filled.1 in
    record {
      row = ap (λ (cut : Cutting). cut.row) same;
      kept = ap (λ (cut : Cutting). cut.kept) same;
      number = ap (λ (cut : Cutting). cut.number) same;
      room = omega (arith, size, filled.3);
      grows = omega (arith, size);
      front = ap (λ bytes. take (length between.pending) bytes) pending ∙ take-append_seam between.pending piece;
    }
IsFilled-from got.TheVariants.End between now before after place unfailed room filled =
    let same = filled.1 in
    let pending : now.pending ≡ between.pending = ap (λ (cut : Cutting). cut.pending) same in
    record {
      row = ap (λ (cut : Cutting). cut.row) same;
      kept = ap (λ (cut : Cutting). cut.kept) same;
      number = ap (λ (cut : Cutting). cut.number) same;
      room = rw pending room;
      grows = rw pending (omega arith);
      front = ap (λ bytes. take (length between.pending) bytes) pending ∙ take_all (length between.pending) between.pending (omega arith);
    }
IsFilled-from got.TheVariants.Failed between now before after place unfailed room filled = absurd (unfailed refl)

-- the reads of the call, and one more that didn't fail
pub HasRead-filled : (result : got.Got) (old between now : Cutting) (start before after : Option (List Event)) (place : Place) → (result ≡ got.TheVariants.Failed → ⊥) → FillsCut result between now before after place → HasNoNewline between.pending → length between.pending < 65536 → between.ended ≡ false → OnLog start before (HasRead place old between) → OnLog start after (HasRead place old now)
HasRead-filled (got.TheVariants.Bytes n) old between now start before after place unfailed filled none room unmet log =
    let same = filled.5 in
    let full : is_empty filled.0 ≡ false = is_empty-some filled.0 (omega (arith, filled.1, filled.2)) in
    record {
      events = log.events ++ Took place filled.0 ∷ [];
      appended = Appends-then start before after log.events (Took place filled.0 ∷ []) log.appended filled.4;
      holds = HasRead-more place old between now filled.0 log.events log.holds none room unmet (ap (λ (cut : Cutting). cut.pending) same) (ap (λ (cut : Cutting). cut.ended) same ∙ unmet ∙ sym full);
    }
HasRead-filled got.TheVariants.End old between now start before after place unfailed filled none room unmet log =
    let same = filled.1 in
    record {
      events = log.events ++ Took place [] ∷ [];
      appended = Appends-then start before after log.events (Took place [] ∷ []) log.appended filled.0;
      holds = HasRead-more place old between now [] log.events log.holds none room unmet (ap (λ (cut : Cutting). cut.pending) same ∙ sym (append-nil between.pending)) (ap (λ (cut : Cutting). cut.ended) same);
    }
HasRead-filled got.TheVariants.Failed old between now start before after place unfailed filled none room unmet log = absurd (unfailed refl)

-- all bytes before the end, without a newline, are the last row
pub IsLastRow-all : (bytes : List ℕ) (n : ℕ) (ended : Bool) → n ≡ length bytes → 0 < n → n < 65536 → HasNoNewline bytes → ended ≡ true → IsLastRow (take n bytes) (drop n bytes) ended
IsLastRow-all bytes n ended size some short none met =
    let within : length bytes ≤ n = omega arith in
    let all : take n bytes ≡ bytes = take_all n bytes within in
    record {
      some = rw all (omega arith);
      short = rw all (omega arith);
      no_newline = rw all none;
      no_rest = drop_all n bytes within;
      at_end = met;
    }

next_number-plain : (old between : Cutting) → between.kept ≡ false → old.kept ≡ false → between.number ≡ old.number → next_number between ≡ next_number old
next_number-plain old between still plain number =
    ap (λ kept. if kept then between.number else min (between.number + 1) (2 ^ 64 - 1)) still
    ∙ ap (λ n. min (n + 1) (2 ^ 64 - 1)) number
    ∙ ap (λ kept. if kept then old.number else min (old.number + 1) (2 ^ 64 - 1)) (sym plain)

-- a call that gives the first bytes as a row
pub CutsLine-row : (place : Place) (old between now : Cutting) (len : ℕ) (events : List Event) → HasRead place old between events → old.kept ≡ false → between.kept ≡ false → between.number ≡ old.number → len ≤ length between.pending → length between.pending ≤ 65536 → IsRow (take len between.pending) (drop len between.pending) between.ended → CutsFront len between now → CutsLine place old now line.TheVariants.Row events
CutsLine-row place old between now len events was plain still number within room row cuts =
    record {
      pieces = was.pieces;
      reads = was.reads;
      needed = was.needed;
      no_more = was.no_more;
      ended = cuts.ended ∙ was.ended;
      answer = (
        take len between.pending,
        record {
          row = cuts.row;
          fits = omega (arith, length-take-le len between.pending within, within, room);
          split = sym was.all ∙ sym (take-append-drop len between.pending) ∙ ap (λ rest. take len between.pending ++ rest) (sym cuts.pending);
          number = cuts.number ∙ next_number-plain old between still plain number;
          plain = cuts.kept;
          line = subst (λ rest. IsRow (take len between.pending) rest now.ended) (sym cuts.pending) (subst (λ v. IsRow (take len between.pending) (drop len between.pending) v) (sym cuts.ended) row);
        },
      );
      again = λ kept. let clash : true ≡ false = sym kept ∙ plain in cc;
    }

-- a call that gives the kept line once more
pub CutsLine-again : (place : Place) (cut : Inside) → HoldsRows cut → cut.kept ≡ true → CutsLine place (cut_of cut) (cut_of record cut { kept = false }) line.TheVariants.Row []
CutsLine-again place cut holds kept =
    let row : cut.row ≡ true = holds.kept kept in
    record {
      pieces = [];
      reads = refl;
      needed = tt;
      no_more = λ met. refl;
      ended = refl;
      answer = (
        row_bytes cut,
        record {
          row = ap (λ v. if v then Some (row_bytes cut) else None) row;
          fits = omega (arith, length-take (cut.next - cut.start) (drop cut.start cut.buffer), holds.from, holds.to, holds.within);
          split = append-nil ((if cut.kept then row_bytes cut else []) ++ rest_bytes cut) ∙ ap (λ v. (if v then row_bytes cut else []) ++ rest_bytes cut) kept;
          number = ap (λ v. if v then cut.number else min (cut.number + 1) (2 ^ 64 - 1)) (sym kept);
          plain = refl;
          line = holds.row row;
        },
      );
      again = λ is_kept. record { answer = refl; row = refl; reads = refl };
    }
