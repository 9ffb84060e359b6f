-- The value of the bytes of an observer program, or their first fault, in the order in which faults are looked for.
use Rattle.std.specs.Prelude.{◌≡◌, ◌+◌, ◌-◌, ◌&&◌, ◌||◌, ◌==◌, not, ℕ, ℤ, suc, zero, Bool, if◌then◌else◌, List, [], ◌∷◌}
use Rattle.std.specs.Prelude.{length, take, drop, map, slice_index, Option, Some, None, Result, Ok, Err, nat_lt, nat_le}
use Rattle.std.specs.Prelude.{nat_eq, codes, ⊤}
use Rattle.std.specs.Int.{w16, w32, w64, from_le_bytes, cast_signed, is_in_range}
use Rattle.std.specs.List.{list_all, starts_with}
use Rattle.std.specs.Option.{option_map_or}
use Rattle.mltl_base.specs.declared.interval.Interval.{Interval}
use Rattle.mltl_base.specs.declared.interval.Engine.{Engine}
use Rattle.mltl_base.specs.declared.interval.Engine.TheVariants.{Ft, Pt}
use Rattle.mltl_base.specs.declared.operators.BzOp.{BzOp}
use Rattle.mltl_base.specs.declared.operators.BzOp.TheVariants as bz
use Rattle.mltl_base.specs.declared.operators.FtOp.{FtOp}
use Rattle.mltl_base.specs.declared.operators.FtOp.TheVariants as ft
use Rattle.mltl_base.specs.declared.operators.PtOp.{PtOp}
use Rattle.mltl_base.specs.declared.operators.PtOp.TheVariants as pt
use Rattle.mltl_base.specs.declared.program.Out.{Out}
use Rattle.mltl_base.specs.declared.program.Out.TheVariants.{Formula, Contract}
use Rattle.mltl_base.specs.declared.program.StoredSignal.{StoredSignal}
use Rattle.mltl_base.specs.declared.program.Program.{Program}
use Rattle.obs_binary.specs.declared.head.OutHead.{OutHead}
use Rattle.obs_binary.specs.declared.head.SignalHead.{SignalHead}
use Rattle.obs_binary.specs.declared.header.Header.{Header}
use Rattle.obs_binary.specs.declared.fault.ReadFault.{ReadFault}
use Rattle.obs_binary.specs.declared.fault.ReadFault.TheVariants.{Short, Magic, Version, Reserved, Opcode, Trailing}
use Rattle.obs_binary.specs.declared.fault.ReadFault.TheVariants.{NameBytes, SignalBytes, Memory}
use Rattle.obs_binary.specs.Layout.{bz_entry, ft_entry, pt_entry, out_entry, signal_entry, header_len, body_len}
use Rattle.mltl_base.specs.Letters.{is_in_word}

-- ---- numbers

-- the 16-bit number at offset k
abbrev pub short_at : List ℕ → ℕ → ℕ
short_at bytes k = from_le_bytes w16 (take 2 (drop k bytes))

-- the 32-bit number at offset k
abbrev pub u32_from : List ℕ → ℕ → ℕ
u32_from bytes k = from_le_bytes w32 (take 4 (drop k bytes))

-- the signed 64-bit number at offset k
abbrev pub signed_at : List ℕ → ℕ → ℤ
signed_at bytes k = cast_signed w64 (from_le_bytes w64 (take 8 (drop k bytes)))

-- ---- reading

-- reading gives this fault; `Memory` says nothing about the bytes
abbrev pub FailsWith : {Y : Type 0} → ReadFault → Result Y ReadFault → Type 0
FailsWith Memory read = ⊤
FailsWith fault read = read ≡ Err fault

-- the result of a call, through `view`, is the result of reading, unless memory ran out
abbrev pub GivesReading : {X Y : Type 0} → (X → Y) → Result X ReadFault → Result Y ReadFault → Type 0
GivesReading view (Ok x) read = read ≡ Ok (view x)
GivesReading view (Err fault) read = FailsWith fault read

infixl 10 ◌>>=◌
-- one step after another, up to the first fault
abbrev pub ◌>>=◌ : {A B : Type 0} → Result A ReadFault → (A → Result B ReadFault) → Result B ReadFault
(Ok x) >>= f = f x
(Err fault) >>= f = Err fault

-- the first offset, counted from `offset` on, of a byte of an entry that isn't as it must be
unfoldable pub first_other : ℕ → List ℕ → List ℕ → Option ℕ
first_other offset [] bytes = None
first_other offset (must ∷ musts) [] = Some offset
first_other offset (must ∷ musts) (byte ∷ bytes) =
    if byte == must then first_other (suc offset) musts bytes else Some offset

-- the value, or the fault of a byte of its entry that isn't as it must be
abbrev pub unless_other : {A : Type 0} → Option ℕ → A → Result A ReadFault
unless_other None x = Ok x
unless_other (Some offset) x = Err (Reserved offset)

-- the entry of x, with the bytes after it; without x, the fault of its opcode
abbrev pub as_spelled : {X : Type 0} → ℕ → (X → List ℕ) → ℕ → List ℕ → Option X → Result (X × List ℕ) ReadFault
as_spelled len spelled offset bytes None = Err (Opcode offset)
as_spelled len spelled offset bytes (Some x) =
    unless_other (first_other offset (spelled x) (take len bytes)) (x, drop len bytes)

-- The entry of `len` bytes in front of others. `content` is the value of its opcode and its fields, if its part has the
-- opcode. An entry that isn't the spelling of its content has a byte other than 0 at an offset without content, or an engine
-- or a kind above 1. The file has `size` bytes, so the offset of the entry is the number of bytes before it.
unfoldable pub entry_at : {X : Type 0} → ℕ → (X → List ℕ) → (List ℕ → Option X) → ℕ → List ℕ
    → Result (X × List ℕ) ReadFault
entry_at len spelled content size bytes = as_spelled len spelled (size - length bytes) bytes (content (take len bytes))

-- this many entries, one after the other
unfoldable pub each_at : {X : Type 0} → (List ℕ → Result (X × List ℕ) ReadFault) → ℕ → List ℕ
    → Result (List X × List ℕ) ReadFault
each_at read zero bytes = Ok ([], bytes)
each_at read (suc n) bytes = do
  first ← read bytes
  others ← each_at read n first.1
  Ok (first.0 ∷ others.0, others.1)

-- ---- the values of the opcodes and the fields of entries

-- the Booleanizer instruction of an entry, if it has the opcode of one
unfoldable pub bz_content : List ℕ → Option BzOp
bz_content bytes =
    let opcode = slice_index bytes 0 in
    let a = u32_from bytes 4 in
    let b = u32_from bytes 8 in
    if opcode == 0x01 then Some (bz.Column a)
    else if opcode == 0x02 then Some (bz.IsTrue a)
    else if opcode == 0x03 then Some (bz.Const (signed_at bytes 8))
    else if opcode == 0x04 then Some (bz.Neg a)
    else if opcode == 0x05 then Some (bz.Add a b)
    else if opcode == 0x06 then Some (bz.Sub a b)
    else if opcode == 0x07 then Some (bz.Mul a b)
    else if opcode == 0x08 then Some (bz.Div a b)
    else if opcode == 0x09 then Some (bz.Rem a b)
    else if opcode == 0x0a then Some (bz.Eq a b)
    else if opcode == 0x0b then Some (bz.Lt a b)
    else if opcode == 0x0c then Some (bz.Le a b)
    else None

-- the interval of a temporal operator's entry
abbrev pub entry_interval : List ℕ → Interval
entry_interval bytes = record { lo = u32_from bytes 12; hi = u32_from bytes 16 }

-- the future-time instruction of an entry, with its size, if it has the opcode of one
unfoldable pub ft_content : List ℕ → Option (FtOp × ℕ)
ft_content bytes =
    let opcode = slice_index bytes 0 in
    let a = u32_from bytes 4 in
    let b = u32_from bytes 8 in
    let size = u32_from bytes 20 in
    if opcode == 0x10 then Some (ft.True, size)
    else if opcode == 0x11 then Some (ft.Load a, size)
    else if opcode == 0x12 then Some (ft.Not a, size)
    else if opcode == 0x13 then Some (ft.And a b, size)
    else if opcode == 0x14 then Some (ft.Until a b (entry_interval bytes), size)
    else None

-- the past-time instruction of an entry, with its size, if it has the opcode of one
unfoldable pub pt_content : List ℕ → Option (PtOp × ℕ)
pt_content bytes =
    let opcode = slice_index bytes 0 in
    let a = u32_from bytes 4 in
    let b = u32_from bytes 8 in
    let size = u32_from bytes 20 in
    if opcode == 0x20 then Some (pt.True, size)
    else if opcode == 0x21 then Some (pt.Load a, size)
    else if opcode == 0x22 then Some (pt.Not a, size)
    else if opcode == 0x23 then Some (pt.And a b, size)
    else if opcode == 0x24 then Some (pt.Since a b (entry_interval bytes), size)
    else None

-- the engine that an output's entry names
abbrev pub engine_at : List ℕ → Engine
engine_at bytes = if slice_index bytes 1 == 1 then Pt else Ft

-- the fields of an output's entry, with the right instruction that a contract has
abbrev pub out_at : List ℕ → Option ℕ → OutHead
out_at bytes right =
    record { engine = engine_at bytes; left = u32_from bytes 4; right = right; name_len = u32_from bytes 12 }

-- the fields of an output's entry, if its opcode is for a formula or a contract
unfoldable pub out_content : List ℕ → Option OutHead
out_content bytes =
    let opcode = slice_index bytes 0 in
    if opcode == 0x30 then Some (out_at bytes None)
    else if opcode == 0x31 then Some (out_at bytes (Some (u32_from bytes 8)))
    else None

-- the fields of a signal's entry, which has no opcode
unfoldable pub signal_content : List ℕ → Option SignalHead
signal_content bytes =
    Some (record { column = u32_from bytes 0; truth = slice_index bytes 4 == 1; name_len = slice_index bytes 5 })

-- ---- names

-- true if a name of `len` bytes comes first: 1 to 64 letters, digits or `_`, none of them past the end
abbrev pub is_name_in_front : ℕ → List ℕ → Bool
is_name_in_front len bytes = is_in_range 1 64 len && nat_le len (length bytes) && list_all is_in_word (take len bytes)

-- The heads with their names, one after the other, which take all bytes. Head k is at fault if its name isn't one; the fault
-- has the number of heads if bytes are left over.
unfoldable pub named : {H X : Type 0} → (H → ℕ) → (H → List ℕ → X) → (ℕ → ReadFault) → ℕ → List H → List ℕ
    → Result (List X) ReadFault
named len_of with_name fault k [] bytes = if length bytes == 0 then Ok [] else Err (fault k)
named len_of with_name fault k (head ∷ heads) bytes =
    if is_name_in_front (len_of head) bytes
    then (named len_of with_name fault (suc k) heads (drop (len_of head) bytes) >>= λ others.
    Ok (with_name head (take (len_of head) bytes) ∷ others))
    else Err (fault k)

-- the output that has these fields and this name
abbrev pub out_of : OutHead → List ℕ → Out
out_of head name =
    option_map_or (λ right. Contract head.engine head.left right name) head.right (Formula head.engine head.left name)

-- the signal that has these fields and this name
abbrev pub stored_signal : SignalHead → List ℕ → StoredSignal
stored_signal head name = record { name = name; truth = head.truth; column = head.column }

-- the outputs that have these fields, with their names, or a fault of the names
abbrev pub outs_named : List OutHead → List ℕ → Result (List Out) ReadFault
outs_named heads bytes = named (λ h. h.name_len) out_of NameBytes 0 heads bytes

-- the signals that have these fields, with their names, or a fault of the names
abbrev pub signals_named : List SignalHead → List ℕ → Result (List StoredSignal) ReadFault
signals_named heads bytes = named (λ h. h.name_len) stored_signal SignalBytes 0 heads bytes

-- ---- headers and programs

-- the numbers of a header of this version
abbrev pub header_fields : ℕ → List ℕ → Header
header_fields version bytes = record {
  version = version;
  width = u32_from bytes 8;
  bz = u32_from bytes 12;
  ft = u32_from bytes 16;
  pt = u32_from bytes 20;
  outs = u32_from bytes 24;
  name_bytes = u32_from bytes 28;
  signals = if version == 2 then u32_from bytes 32 else 0;
  signal_bytes = if version == 2 then u32_from bytes 36 else 0;
}

-- the number of bytes of the file, according to the header
abbrev pub said_len : Header → ℕ
said_len h = header_len h.version + body_len h

-- the header of a file that has the length in its header, or the first fault
unfoldable pub header_at : List ℕ → Result Header ReadFault
header_at bytes =
    let version = short_at bytes 4 in
    let header = header_fields version bytes in
    if nat_lt (length bytes) 32 then Err Short
    else if not (starts_with nat_eq bytes (codes "MLTL")) then Err Magic
    else if not (version == 1 || version == 2) then Err Version
    else if not (slice_index bytes 6 == 0) then Err (Reserved 6)
    else if not (slice_index bytes 7 == 0) then Err (Reserved 7)
    else if nat_lt (length bytes) (header_len version) then Err Short
    else if nat_lt (length bytes) (said_len header) then Err Short
    else if nat_lt (said_len header) (length bytes) then Err Trailing
    else Ok header

-- the program after the header of a file of `size` bytes
unfoldable pub past_header : Header → ℕ → List ℕ → Result Program ReadFault
past_header header size bytes = do
  bz ← each_at (entry_at 24 bz_entry bz_content size) header.bz bytes
  ft ← each_at (entry_at 24 ft_entry ft_content size) header.ft bz.1
  pt ← each_at (entry_at 24 pt_entry pt_content size) header.pt ft.1
  outs ← each_at (entry_at 24 out_entry out_content size) header.outs pt.1
  signals ← each_at (entry_at 8 signal_entry signal_content size) header.signals outs.1
  named_outs ← outs_named outs.0 (take header.name_bytes signals.1)
  named_signals ← signals_named signals.0 (drop header.name_bytes signals.1)
  Ok (record {
    version = header.version;
    width = header.width;
    bz = bz.0;
    ft = map (λ x. x.0) ft.0;
    pt = map (λ x. x.0) pt.0;
    outs = named_outs;
    sizes = record { ft = map (λ x. x.1) ft.0; pt = map (λ x. x.1) pt.0 };
    signals = named_signals;
  })

-- The program whose bytes these are, or the first fault.
unfoldable pub program_at : List ℕ → Result Program ReadFault
program_at bytes = do
  header ← header_at bytes
  past_header header (length bytes) (drop (header_len header.version) bytes)
