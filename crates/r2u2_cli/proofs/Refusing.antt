-- Which statuses a file, a header and the limits of a program give.

use Rattle.std.proofs.Common.{◌≡◌, ℕ, ◌==◌, true, false, if◌then◌else◌, Option, Some, None, Result, Ok, Err, List, [], ◌∷◌, length, map, sym, subst}
use Rattle.std.specs.Prelude.{option_map, ⊤}
use Rattle.mltl_base.specs.declared.program.Columns.{Columns}
use Rattle.mltl_base.specs.declared.program.Program.{Program}
use Rattle.mltl_base.specs.Subformulas.{Asked}
use Rattle.mltl_base.specs.declared.signal.Signal.{Signal}
use Rattle.obs_binary.specs.declared.file_fault.FileFault.{FileFault}
use Rattle.obs_binary.specs.declared.file_fault.FileFault.TheVariants as file
use Rattle.obs_binary.specs.Faults.{opened}
use Rattle.trace_columns.specs.declared.header_fault.HeaderFault.{HeaderFault}
use Rattle.trace_columns.specs.declared.header_fault.HeaderFault.TheVariants as header_fault
use Rattle.trace_columns.specs.Header.{begins_header, times, first_place, column_of, columns_of, in_front, of_width, names_of, header_meaning, bound_over, bound_to}
use Rattle.c2po_compile.specs.declared.fault.CompileFault.{CompileFault}
use Rattle.c2po_compile.specs.declared.fault.CompileFault.TheVariants as compile
use Rattle.c2po_compile.specs.Refusals.{unless_refused}
use Rattle.c2po_compile.specs.Front.{first_refusal}
use Rattle.c2po_compile.specs.Limits.{limit_refusal}
use Rattle.c2po_compile.specs.Image.{over_columns, image}
use Rattle.c2po_compile.specs.Compiled.{columns_by, signals_in, outputs_in, compile_under_header, compile_text}
use Rattle.c2po_compile.proofs.RefusalLaws as text
use Rattle.c2po_compile.proofs.RefusalLaws.{IsHeaderless, first_headerless, limit_headerless}
use Rattle.tool_words.specs.declared.file_kind.FileKind.{FileKind}
use Rattle.tool_words.specs.declared.file_kind.FileKind.TheVariants as kinds
use Rattle.tool_words.specs.declared.status.Status.{Status}
use Rattle.tool_words.specs.declared.status.Status.TheVariants.{Refused, BadProgram, BadTrace, Memory}
use Rattle.tool_words.specs.Files.{file_status}
use Rattle.tool_words.specs.Statuses.{compile_status, with_status}
use Rattle.r2u2_cli.specs.ProgramBy.{trace_status, refusal_of, file_refusal, header_status, bound_under, opened_under, program_by}

-- a status by which there is no program
abbrev pub Refuses : Status → Type 0
Refuses (Refused line refusal) = ⊤
Refuses (BadProgram fault) = ⊤
Refuses (BadTrace number why) = ⊤
Refuses Memory = ⊤
Refuses status = ⊥

-- the same of what was found, and of a refusal that may be
abbrev pub IsFound : Result Program Status → Type 0
IsFound (Ok program) = ⊤
IsFound (Err status) = Refuses status

abbrev pub MayRefuse : Option Status → Type 0
MayRefuse None = ⊤
MayRefuse (Some status) = Refuses status

-- the header, if there is one, begins with `#`
abbrev pub IsMarked : Option (List ℕ) → Type 0
IsMarked None = ⊤
IsMarked (Some line) = begins_header line ≡ true

-- a fault that names a signal
abbrev Names : {T : Type 0} → Result T HeaderFault → Type 0
Names (Ok value) = ⊤
Names (Err header_fault.NoHeader) = ⊥
Names (Err fault) = ⊤

column_names : (names : List (List ℕ)) (signal : List ℕ) → Names (column_of names signal)
column_names names signal =
    elim (times names signal == 0) as (λ b. Names (if b then Err (header_fault.Missing signal) else if times names signal == 1 then Ok (first_place names signal) else Err (header_fault.Twice signal))) [
      | true ↦ tt
      | false ↦ elim (times names signal == 1) as (λ b. Names (if b then Ok (first_place names signal) else Err (header_fault.Twice signal))) [ true ↦ tt | false ↦ tt ]
    ]

front_names : (first : Result ℕ HeaderFault) (rest : Result (List ℕ) HeaderFault) → Names first → Names rest → Names (in_front first rest)
front_names (Ok column) (Ok columns) a b = tt
front_names (Ok column) (Err fault) a b = b
front_names (Err fault) rest a b = a

columns_names : (names signals : List (List ℕ)) → Names (columns_of names signals)
columns_names names [] = tt
columns_names names (signal ∷ signals) = front_names (column_of names signal) (columns_of names signals) (column_names names signal) (columns_names names signals)

width_names : (width : ℕ) (found : Result (List ℕ) HeaderFault) → Names found → Names (of_width width found)
width_names width (Ok columns) is = tt
width_names width (Err fault) is = is

line_names : (signals : List (List ℕ)) (line : List ℕ) → begins_header line ≡ true → Names (header_meaning signals line)
line_names signals line begins =
    subst (λ b. Names (if b then of_width (length (names_of line)) (columns_of (names_of line) signals) else Err header_fault.NoHeader)) (sym begins)
    (width_names (length (names_of line)) (columns_of (names_of line) signals) (columns_names (names_of line) signals))

by_names : (signals : List Signal) (header : Option (List ℕ)) → IsMarked header → Names (columns_by signals header)
by_names signals None marked = tt
by_names signals (Some line) marked = line_names (map (λ s. s.name) signals) line marked

-- a refusal of a specification that speaks of no header
text_status : (fault : CompileFault) → IsHeaderless fault → Refuses (compile_status fault)
text_status (compile.BadHeader why) is = absurd is
text_status fault is = tt

-- under a header too
headed_status : (fault : CompileFault) → IsHeaderless fault → Refuses (trace_status fault)
headed_status (compile.BadHeader why) is = absurd is
headed_status fault is = tt

-- what was found of a text, with its statuses
abbrev HasStatus : Result Program CompileFault → Type 0
HasStatus found = IsFound (with_status trace_status found)

unless_speaks : (refusal : Option CompileFault) (found : Result Program CompileFault) → text.MayRefuse refusal → HasStatus found → HasStatus (unless_refused refusal found)
unless_speaks None found a b = b
unless_speaks (Some fault) found a b = headed_status fault a

under_speaks : (signals : List Signal) (outs : List Asked) (found : Result Columns HeaderFault) → Names found → HasStatus (compile_under_header signals outs found)
under_speaks signals outs (Ok columns) names = unless_speaks (limit_refusal (over_columns columns outs)) (Ok (image columns signals outs)) (limit_headerless (over_columns columns outs)) tt
under_speaks signals outs (Err header_fault.NoHeader) names = absurd names
under_speaks signals outs (Err fault) names = tt

text_speaks : (bytes : List ℕ) (header : Option (List ℕ)) → IsMarked header → HasStatus (compile_text bytes header)
unfolding compile_text
text_speaks bytes header marked =
    unless_speaks (first_refusal bytes) (compile_under_header (signals_in bytes) (outputs_in bytes) (columns_by (signals_in bytes) header)) (first_headerless bytes)
    (under_speaks (signals_in bytes) (outputs_in bytes) (columns_by (signals_in bytes) header) (by_names (signals_in bytes) header marked))

-- a program under a header
over_speaks : (program : Program) (found : Result Columns HeaderFault) → Names found → IsFound (with_status header_status (bound_over program found))
over_speaks program (Ok columns) names = tt
over_speaks program (Err header_fault.NoHeader) names = absurd names
over_speaks program (Err fault) names = tt

bound_speaks : (header : Option (List ℕ)) (program : Program) → IsMarked header → IsFound (bound_under header program)
bound_speaks None program marked = tt
bound_speaks (Some line) program marked =
    elim (program.version == 2) as (λ b. IsFound (if b then with_status header_status (bound_to program line) else Ok program)) [
      | true ↦ over_speaks program (header_meaning (map (λ s. s.name) program.signals) line) (line_names (map (λ s. s.name) program.signals) line marked)
      | false ↦ tt
    ]

fault_speaks : (fault : FileFault) → Refuses (file_status fault)
fault_speaks (file.Program fault) = tt
fault_speaks file.Memory = tt

opened_speaks : (header : Option (List ℕ)) (found : Result Program FileFault) → IsMarked header → IsFound (opened_under header found)
opened_speaks header (Ok program) marked = bound_speaks header program marked
opened_speaks header (Err fault) marked = fault_speaks fault

-- what a file gives under a header is a program, or a status by which there is none
pub program_speaks : (kind : FileKind) (bytes : List ℕ) (header : Option (List ℕ)) → IsMarked header → IsFound (program_by kind bytes header)
unfolding program_by
program_speaks kinds.Spec bytes header marked = text_speaks bytes header marked
program_speaks kinds.Program bytes header marked = opened_speaks header (opened bytes) marked

pub program_refuses : (kind : FileKind) (bytes : List ℕ) (header : Option (List ℕ)) (answer : Status) → IsMarked header → program_by kind bytes header ≡ Err answer → Refuses answer
program_refuses kind bytes header answer marked is = subst IsFound is (program_speaks kind bytes header marked)

-- so does a file by itself
map_refuses : (found : Option CompileFault) → text.MayRefuse found → MayRefuse (option_map compile_status found)
map_refuses None is = tt
map_refuses (Some fault) is = text_status fault is

of_refuses : (found : Result Program FileFault) → MayRefuse (refusal_of found)
of_refuses (Ok program) = tt
of_refuses (Err fault) = fault_speaks fault

file_speaks : (kind : FileKind) (bytes : List ℕ) → MayRefuse (file_refusal kind bytes)
unfolding file_refusal
file_speaks kinds.Spec bytes = map_refuses (first_refusal bytes) (first_headerless bytes)
file_speaks kinds.Program bytes = of_refuses (opened bytes)

pub file_refuses : (kind : FileKind) (bytes : List ℕ) (answer : Status) → file_refusal kind bytes ≡ Some answer → Refuses answer
file_refuses kind bytes answer is = subst MayRefuse is (file_speaks kind bytes)
