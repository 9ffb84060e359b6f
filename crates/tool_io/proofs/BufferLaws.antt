-- Laws of a LineCut's buffer: a cut of its first bytes, and a read after them.
use Rattle.std.proofs.Common.{◌≡◌, ℕ, ◌+◌, ◌-◌, ◌^◌, ◌≤◌, ◌<◌, min, true, false, if◌then◌else◌, Option, Some, List, [], ◌++◌, length, take, drop, refl, sym, ◌∙◌, ap, arith}
use Rattle.std.specs.List.{slice_range}
use Rattle.std.proofs.lemmas.List.{length-take, length-drop, length-append, length-take-le, take-take, take-append-le, drop-take, drop-drop}
use Rattle.std.proofs.Math.Seq.{take-append_seam, take-append-add}
use borrow.Rule.Slice.PartMut.{put_mid, post_of}
use Rattle.tool_io.specs.declared.host.Place.{Place}
use Rattle.tool_io.specs.declared.host.Got as got
use Rattle.tool_io.specs.Log.{Event}
use Rattle.tool_io.specs.Host.{ReadRange, ReadLog}
use Rattle.tool_io.specs.declared.line_cut.LineCut.TheInside.{Inside}
use Rattle.tool_io.specs.Cutting.{Cutting}
use Rattle.tool_io.specs.Buffer.{row_bytes, rest_bytes, cut_of, HoldsRows, CutsFront}
use Rattle.tool_io.specs.Filling.{Fills}

-- the first bytes of a part
pub part_front : (items : List ℕ) (next end len : ℕ) → len ≤ end - next → slice_range items next (next + len) ≡ take len (slice_range items next end)
part_front items next end len within =
    let size : next + len - next ≡ len = omega arith in
    ap (λ n. take n (drop next items)) size ∙ sym (take-take len (end - next) (drop next items) within)

-- the bytes after those
pub part_rest : (items : List ℕ) (next end len : ℕ) → len ≤ end - next → slice_range items (next + len) end ≡ drop len (slice_range items next end)
part_rest items next end len within =
    let size : end - next ≡ len + (end - (next + len)) = omega arith in
    sym (ap (λ n. drop len (take n (drop next items))) size ∙ drop-take len (end - (next + len)) (drop next items) ∙ ap (λ rest. take (end - (next + len)) rest) (drop-drop len next items))

-- without a kept line, the bytes after the row are pending
pub pending-plain : (cut : Inside) → cut.kept ≡ false → (cut_of cut).pending ≡ rest_bytes cut
pending-plain cut plain = ap (λ kept. (if kept then row_bytes cut else []) ++ rest_bytes cut) plain

pub length-rest_bytes : (cut : Inside) → HoldsRows cut → length (rest_bytes cut) ≡ cut.end - cut.next
length-rest_bytes cut holds =
    omega (arith, length-take (cut.end - cut.next) (drop cut.next cut.buffer), length-drop cut.next cut.buffer, holds.room, holds.to, holds.within)

-- the bytes after those that were seen
pub unseen-is : (cut : Inside) (now : Cutting) (seen : ℕ) (bytes : List ℕ) → HoldsRows cut → cut_of cut ≡ now → now.kept ≡ false → seen ≤ length now.pending → bytes ≡ cut.buffer → slice_range bytes (cut.next + seen) cut.end ≡ drop seen now.pending
unseen-is cut now seen bytes holds view plain within is =
    let kept : cut.kept ≡ false = ap (λ (v : Cutting). v.kept) view ∙ plain in
    let pending : now.pending ≡ rest_bytes cut = ap (λ (v : Cutting). v.pending) (sym view) ∙ pending-plain cut kept in
    let fits : seen ≤ cut.end - cut.next = omega (arith, within, ap length pending, length-rest_bytes cut holds) in
    ap (λ items. slice_range items (cut.next + seen) cut.end) is ∙ part_rest cut.buffer cut.next cut.end seen fits ∙ ap (λ rest. drop seen rest) (sym pending)

-- the fields after the first bytes became the row
pub CutsFront-of : (cut : Inside) (len number : ℕ) → HoldsRows cut → cut.kept ≡ false → len ≤ length (rest_bytes cut) → number ≡ min (cut.number + 1) (2 ^ 64 - 1) → CutsFront len (cut_of cut) (cut_of record cut { start = cut.next; next = cut.next + len; row = true; number = number })
CutsFront-of cut len number holds plain within is =
    let fits : len ≤ cut.end - cut.next = omega (arith, within, length-rest_bytes cut holds) in
    record {
      row = ap Some (part_front cut.buffer cut.next cut.end len fits) ∙ ap (λ bytes. Some (take len bytes)) (sym (pending-plain cut plain));
      pending =
          ap (λ kept. (if kept then slice_range cut.buffer cut.next (cut.next + len) else []) ++ slice_range cut.buffer (cut.next + len) cut.end) plain
          ∙ part_rest cut.buffer cut.next cut.end len fits
          ∙ ap (λ bytes. drop len bytes) (sym (pending-plain cut plain));
      number = is ∙ ap (λ kept. if kept then cut.number else min (cut.number + 1) (2 ^ 64 - 1)) (sym plain);
      kept = plain;
      ended = refl;
    }

-- a read into the part after the first bytes
pub Fills-behind : (result : got.Got) (len : ℕ) (buffer into : List ℕ) (before now : Option (List Event)) (place : Place) → len < length buffer → length into ≡ length buffer - len → ReadRange result into → ReadLog result before now place into → Fills result (take len buffer) (put_mid len (length buffer - len) buffer into) before now place
Fills-behind (got.TheVariants.Bytes n) len buffer into before now place room size range log =
    let kept : length (take len buffer) ≡ len = length-take-le len buffer (omega arith) in
    let rest = post_of len (length buffer - len) buffer in (
      take n into,
      length-take-le n into range.1,
      range.0,
      omega (arith, range.1, length-append (take len buffer) (into ++ rest), length-append into rest),
      take-append-add (take len buffer) (into ++ rest) n ∙ ap (λ piece. take len buffer ++ piece) (take-append-le n into rest range.1),
      log,
    )
Fills-behind got.TheVariants.End len buffer into before now place room size range log = (take-append_seam (take len buffer) (into ++ post_of len (length buffer - len) buffer), log)
Fills-behind got.TheVariants.Failed len buffer into before now place room size range log = (take-append_seam (take len buffer) (into ++ post_of len (length buffer - len) buffer), log)
