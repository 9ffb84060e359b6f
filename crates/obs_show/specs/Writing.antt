-- The text that the code adds for the lines of a program, part by part, up to the limit of a text.

use Rattle.std.specs.Prelude.{◌≡◌, ℕ, ◌+◌, ◌<◌, ◌≤◌, List, [], ◌∷◌, ◌++◌, length, Result, Ok, Err, ⊤}
use Rattle.mltl_base.specs.declared.limits.TheConstants.{MAX_SHOWN_BYTES}
use Rattle.mltl_base.specs.declared.operators.BzOp.{BzOp}
use Rattle.mltl_base.specs.declared.operators.FtOp.{FtOp}
use Rattle.mltl_base.specs.declared.operators.PtOp.{PtOp}
use Rattle.mltl_base.specs.declared.program.Out.{Out}
use Rattle.mltl_base.specs.declared.program.Program.{Program}
use Rattle.mltl_base.specs.declared.program.StoredSignal.{StoredSignal}
use Rattle.obs_show.specs.declared.fault.ShowFault.{ShowFault}
use Rattle.obs_show.specs.declared.fault.ShowFault.TheVariants.{TooLong, Wide, Memory}
use Rattle.obs_show.specs.Showing.{written_line}
use Rattle.obs_show.specs.Text.{bz_line, ft_line, shown_line, output_line, pt_line, signal_line}

-- the text of members by a rule, if the first has the number k
unfoldable pub written : {X : Type 0} → (ℕ → X → List ℕ) → ℕ → List X → List ℕ
written rule k [] = []
written rule k (x ∷ xs) = rule k x ++ written rule (k + 1) xs

-- the text of a signal
abbrev pub signal_bytes : ℕ → StoredSignal → List ℕ
signal_bytes k signal = shown_line (signal_line signal)

-- the text of an instruction of the Booleanizer
abbrev pub bz_bytes : Program → ℕ → BzOp → List ℕ
bz_bytes program i op = written_line (bz_line program i op)

-- the text of an instruction of future time
abbrev pub ft_bytes : Program → ℕ → FtOp → List ℕ
ft_bytes program i op = written_line (ft_line program i op)

-- the text of an instruction of past time
abbrev pub pt_bytes : Program → ℕ → PtOp → List ℕ
pt_bytes program i op = written_line (pt_line program i op)

-- the text of an output
abbrev pub output_bytes : Program → ℕ → Out → List ℕ
output_bytes program k output = shown_line (output_line program k output)

-- the text got these bytes and stayed within the limit, or would pass the limit with them
abbrev pub Adds : {T : Type 0} → List ℕ → Result T ShowFault → List ℕ → List ℕ → Type 0
Adds old (Ok _) new more = (new ≡ old ++ more) × (length new ≤ MAX_SHOWN_BYTES)
Adds old (Err TooLong) new more = MAX_SHOWN_BYTES < length (old ++ more)
Adds old (Err Wide) new more = ⊥
Adds old (Err Memory) new more = ⊤
