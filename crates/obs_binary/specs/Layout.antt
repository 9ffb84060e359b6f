-- The bytes of observer programs: each program has one spelling. Numbers are little-endian.
use Rattle.std.specs.Prelude.{◌≡◌, ◌≤◌, ◌<◌, ◌^◌, ◌+◌, ◌*◌, ◌==◌, ℕ, ℤ, if◌then◌else◌, IsTrue, List, []}
use Rattle.std.specs.Prelude.{◌∷◌, ◌++◌, length, Option, Some, None, FitsSigned, unwrap_or, codes, ◌⊎◌, ⊤}
use Rattle.std.specs.Int.{w16, w32, w64, to_le_bytes, cast_unsigned}
use Rattle.std.specs.List.{flat_map, zip, list_all, AllByRecursion}
use Rattle.mltl_base.specs.declared.interval.Engine.{Engine}
use Rattle.mltl_base.specs.declared.interval.Engine.TheVariants.{Ft, Pt}
use Rattle.mltl_base.specs.declared.operators.BzOp.{BzOp}
use Rattle.mltl_base.specs.declared.operators.BzOp.TheVariants as bz
use Rattle.mltl_base.specs.declared.operators.FtOp.{FtOp}
use Rattle.mltl_base.specs.declared.operators.FtOp.TheVariants as ft
use Rattle.mltl_base.specs.declared.operators.PtOp.{PtOp}
use Rattle.mltl_base.specs.declared.operators.PtOp.TheVariants as pt
use Rattle.mltl_base.specs.declared.program.Out.{Out}
use Rattle.mltl_base.specs.declared.program.Out.TheVariants.{Formula, Contract}
use Rattle.mltl_base.specs.declared.program.StoredSignal.{StoredSignal}
use Rattle.mltl_base.specs.declared.program.Program.{Program}
use Rattle.mltl_base.specs.Letters.{is_in_word}
use Rattle.mltl_base.specs.Programs.{out_name}
use Rattle.obs_binary.specs.declared.head.OutHead.{OutHead}
use Rattle.obs_binary.specs.declared.head.SignalHead.{SignalHead}
use Rattle.obs_binary.specs.declared.header.Header.{Header}

-- ---- numbers and entries

-- a 16-bit number in two bytes
unfoldable pub u16_bytes : ℕ → List ℕ
u16_bytes n = to_le_bytes w16 n

-- a 32-bit number in four bytes
unfoldable pub u32_bytes : ℕ → List ℕ
u32_bytes n = to_le_bytes w32 n

-- a signed 64-bit number in eight bytes, as two's complement
unfoldable pub i64_bytes : ℤ → List ℕ
i64_bytes z = to_le_bytes w64 (cast_unsigned w64 z)

-- the 24 bytes of an instruction or an output: its opcode, the byte after it, two bytes 0 and five numbers. Fields that the
-- opcode doesn't use are 0.
abbrev pub entry : ℕ → ℕ → List ℕ → List ℕ
entry opcode second numbers = (opcode ∷ second ∷ 0 ∷ 0 ∷ []) ++ flat_map u32_bytes numbers

-- an instruction of the Booleanizer with one operand: a column or an earlier instruction
abbrev pub unary : ℕ → ℕ → List ℕ
unary opcode a = entry opcode 0 (a ∷ 0 ∷ 0 ∷ 0 ∷ 0 ∷ [])

-- an instruction of the Booleanizer with two operands: earlier instructions
abbrev pub binary : ℕ → ℕ → ℕ → List ℕ
binary opcode a b = entry opcode 0 (a ∷ b ∷ 0 ∷ 0 ∷ 0 ∷ [])

-- a constant of the Booleanizer, which has its value in bytes 8 to 15
abbrev pub constant : ℤ → List ℕ
constant value = (0x03 ∷ 0 ∷ 0 ∷ 0 ∷ []) ++ (u32_bytes 0 ++ (i64_bytes value ++ (u32_bytes 0 ++ u32_bytes 0)))

-- the bytes of a Booleanizer instruction
unfoldable pub bz_entry : BzOp → List ℕ
bz_entry (bz.Column c) = unary 0x01 c
bz_entry (bz.IsTrue c) = unary 0x02 c
bz_entry (bz.Const v) = constant v
bz_entry (bz.Neg a) = unary 0x04 a
bz_entry (bz.Add a b) = binary 0x05 a b
bz_entry (bz.Sub a b) = binary 0x06 a b
bz_entry (bz.Mul a b) = binary 0x07 a b
bz_entry (bz.Div a b) = binary 0x08 a b
bz_entry (bz.Rem a b) = binary 0x09 a b
bz_entry (bz.Eq a b) = binary 0x0a a b
bz_entry (bz.Lt a b) = binary 0x0b a b
bz_entry (bz.Le a b) = binary 0x0c a b

-- the bytes of a future-time instruction, with its size
unfoldable pub ft_entry : FtOp × ℕ → List ℕ
ft_entry (ft.True, size) = entry 0x10 0 (0 ∷ 0 ∷ 0 ∷ 0 ∷ size ∷ [])
ft_entry (ft.Load a, size) = entry 0x11 0 (a ∷ 0 ∷ 0 ∷ 0 ∷ size ∷ [])
ft_entry (ft.Not a, size) = entry 0x12 0 (a ∷ 0 ∷ 0 ∷ 0 ∷ size ∷ [])
ft_entry (ft.And a b, size) = entry 0x13 0 (a ∷ b ∷ 0 ∷ 0 ∷ size ∷ [])
ft_entry (ft.Until a b i, size) = entry 0x14 0 (a ∷ b ∷ i.lo ∷ i.hi ∷ size ∷ [])

-- the bytes of a past-time instruction, with its size
unfoldable pub pt_entry : PtOp × ℕ → List ℕ
pt_entry (pt.True, size) = entry 0x20 0 (0 ∷ 0 ∷ 0 ∷ 0 ∷ size ∷ [])
pt_entry (pt.Load a, size) = entry 0x21 0 (a ∷ 0 ∷ 0 ∷ 0 ∷ size ∷ [])
pt_entry (pt.Not a, size) = entry 0x22 0 (a ∷ 0 ∷ 0 ∷ 0 ∷ size ∷ [])
pt_entry (pt.And a b, size) = entry 0x23 0 (a ∷ b ∷ 0 ∷ 0 ∷ size ∷ [])
pt_entry (pt.Since a b i, size) = entry 0x24 0 (a ∷ b ∷ i.lo ∷ i.hi ∷ size ∷ [])

-- the byte of an engine
abbrev pub engine_code : Engine → ℕ
engine_code Ft = 0
engine_code Pt = 1

-- the opcode of an output: a formula, or a contract, which has a right instruction
abbrev pub out_opcode : Option ℕ → ℕ
out_opcode None = 0x30
out_opcode (Some right) = 0x31

-- an output: the number of its instruction, a contract's right instruction, and the length of its name
unfoldable pub out_entry : OutHead → List ℕ
out_entry o = entry (out_opcode o.right) (engine_code o.engine) (o.left ∷ unwrap_or o.right 0 ∷ o.name_len ∷ 0 ∷ 0 ∷ [])

-- a signal: 8 bytes with its column, its kind and the length of its name
unfoldable pub signal_entry : SignalHead → List ℕ
signal_entry s = u32_bytes s.column ++ ((if s.truth then 1 else 0) ∷ s.name_len ∷ 0 ∷ 0 ∷ [])

-- ---- headers

-- the number of bytes of a header of this version
abbrev pub header_len : ℕ → ℕ
header_len version = if version == 2 then 40 else 32

-- the numbers of signals and of their name bytes, which follow the header of version 1 in version 2
abbrev pub signal_counts : Header → List ℕ
signal_counts h = if h.version == 2 then flat_map u32_bytes (h.signals ∷ h.signal_bytes ∷ []) else []

-- the bytes of a header: the letters MLTL, the version, two bytes 0, and its numbers
unfoldable pub header_bytes : Header → List ℕ
header_bytes h =
    codes "MLTL" ++ (u16_bytes h.version ++ ((0 ∷ 0 ∷ [])
    ++ (flat_map u32_bytes (h.width ∷ h.bz ∷ h.ft ∷ h.pt ∷ h.outs ∷ h.name_bytes ∷ []) ++ signal_counts h)))

-- the number of bytes after a header
abbrev pub body_len : Header → ℕ
body_len h = 24 * h.bz + 24 * h.ft + 24 * h.pt + 24 * h.outs + 8 * h.signals + h.name_bytes + h.signal_bytes

-- ---- programs

-- the fields of an output's entry, with the length of its name
abbrev pub out_head : Out → OutHead
out_head (Formula engine a name) = record { engine = engine; left = a; right = None; name_len = length name }
out_head (Contract engine a b name) = record { engine = engine; left = a; right = Some b; name_len = length name }

-- the name of a signal
abbrev pub signal_name : StoredSignal → List ℕ
signal_name s = s.name

-- the fields of a signal's entry, with the length of its name
abbrev pub signal_head : StoredSignal → SignalHead
signal_head s = record { column = s.column; truth = s.truth; name_len = length s.name }

-- the names of the outputs, in order, joined
abbrev pub out_names : Program → List ℕ
out_names p = flat_map out_name p.outs

-- the names of the signals, in order, joined
abbrev pub signal_names : Program → List ℕ
signal_names p = flat_map signal_name p.signals

-- the header of a program: its version, its width, and the numbers of its members and of their name bytes
abbrev pub header_of : Program → Header
header_of p = record {
  version = p.version;
  width = p.width;
  bz = length p.bz;
  ft = length p.ft;
  pt = length p.pt;
  outs = length p.outs;
  name_bytes = length (out_names p);
  signals = length p.signals;
  signal_bytes = length (signal_names p);
}

-- The bytes of a program: its header, its instructions, outputs and signals, and their names.
unfoldable pub spelling : Program → List ℕ
spelling p =
    header_bytes (header_of p)
    ++ (flat_map bz_entry p.bz
    ++ (flat_map ft_entry (zip p.ft p.sizes.ft)
    ++ (flat_map pt_entry (zip p.pt p.sizes.pt)
    ++ (flat_map (λ o. out_entry (out_head o)) p.outs
    ++ (flat_map (λ s. signal_entry (signal_head s)) p.signals
    ++ (out_names p ++ signal_names p))))))

-- ---- programs that have bytes

-- The program has version 1 and no signals, or version 2.
abbrev pub IsVersioned : Program → Type 0
IsVersioned p = ((p.version ≡ 1) × (p.signals ≡ [])) ⊎ (p.version ≡ 2)

-- The program can be written: each engine's instruction has a size, and the numbers of members and of name bytes fit their
-- fields.
pub record IsWritable (p : Program) : Type 0 where
  pub versioned : IsVersioned p
  pub ft_sizes : length p.sizes.ft ≡ length p.ft
  pub pt_sizes : length p.sizes.pt ≡ length p.pt
  pub bz : length p.bz < 2 ^ 32
  pub ft : length p.ft < 2 ^ 32
  pub pt : length p.pt < 2 ^ 32
  pub outs : length p.outs < 2 ^ 32
  pub signals : length p.signals < 2 ^ 32
  pub out_name_bytes : length (out_names p) < 2 ^ 32
  pub signal_name_bytes : length (signal_names p) < 2 ^ 32
  pub out_letters : IsTrue (list_all is_in_word (out_names p))
  pub signal_letters : IsTrue (list_all is_in_word (signal_names p))

-- a Booleanizer instruction fits the fields of its entry
abbrev pub FitsBz : BzOp → Type 0
FitsBz (bz.Column c) = c < 2 ^ 32
FitsBz (bz.IsTrue c) = c < 2 ^ 32
FitsBz (bz.Const v) = FitsSigned w64 v
FitsBz (bz.Neg a) = a < 2 ^ 32
FitsBz (bz.Add a b) = (a < 2 ^ 32) × (b < 2 ^ 32)
FitsBz (bz.Sub a b) = (a < 2 ^ 32) × (b < 2 ^ 32)
FitsBz (bz.Mul a b) = (a < 2 ^ 32) × (b < 2 ^ 32)
FitsBz (bz.Div a b) = (a < 2 ^ 32) × (b < 2 ^ 32)
FitsBz (bz.Rem a b) = (a < 2 ^ 32) × (b < 2 ^ 32)
FitsBz (bz.Eq a b) = (a < 2 ^ 32) × (b < 2 ^ 32)
FitsBz (bz.Lt a b) = (a < 2 ^ 32) × (b < 2 ^ 32)
FitsBz (bz.Le a b) = (a < 2 ^ 32) × (b < 2 ^ 32)

-- a future-time instruction fits the fields of its entry
abbrev pub FitsFt : FtOp → Type 0
FitsFt ft.True = ⊤
FitsFt (ft.Load a) = a < 2 ^ 32
FitsFt (ft.Not a) = a < 2 ^ 32
FitsFt (ft.And a b) = (a < 2 ^ 32) × (b < 2 ^ 32)
FitsFt (ft.Until a b i) = (a < 2 ^ 32) × (b < 2 ^ 32) × (i.lo < 2 ^ 32) × (i.hi < 2 ^ 32)

-- a past-time instruction fits the fields of its entry
abbrev pub FitsPt : PtOp → Type 0
FitsPt pt.True = ⊤
FitsPt (pt.Load a) = a < 2 ^ 32
FitsPt (pt.Not a) = a < 2 ^ 32
FitsPt (pt.And a b) = (a < 2 ^ 32) × (b < 2 ^ 32)
FitsPt (pt.Since a b i) = (a < 2 ^ 32) × (b < 2 ^ 32) × (i.lo < 2 ^ 32) × (i.hi < 2 ^ 32)

-- a name has 1 to 64 bytes
abbrev pub FitsName : List ℕ → Type 0
FitsName name = (1 ≤ length name) × (length name ≤ 64)

-- an output fits the fields of its entry
abbrev pub FitsOut : Out → Type 0
FitsOut (Formula engine a name) = (a < 2 ^ 32) × FitsName name
FitsOut (Contract engine a b name) = (a < 2 ^ 32) × (b < 2 ^ 32) × FitsName name

-- a signal fits the fields of its entry
abbrev pub FitsSignal : StoredSignal → Type 0
FitsSignal s = (s.column < 2 ^ 32) × FitsName s.name

-- The program can be written, and its numbers fit their types: they have 32 bits, constants have 64, and a name has 1 to 64
-- bytes. A program in memory always has such numbers.
pub record IsEncodable (p : Program) : Type 0 where
  pub layout : IsWritable p
  pub width : p.width < 2 ^ 32
  pub bz : AllByRecursion FitsBz p.bz
  pub ft : AllByRecursion FitsFt p.ft
  pub pt : AllByRecursion FitsPt p.pt
  pub ft_sizes : AllByRecursion (λ n. n < 2 ^ 32) p.sizes.ft
  pub pt_sizes : AllByRecursion (λ n. n < 2 ^ 32) p.sizes.pt
  pub outs : AllByRecursion FitsOut p.outs
  pub signals : AllByRecursion FitsSignal p.signals
