-- The signals that the lines of a program declare are those that it stores.

use Rattle.std.proofs.Common.{◌≡◌, ◌∙◌, ℕ, ◌+◌, true, false, List, [], ◌∷◌, ◌++◌, map, Option, Some, None, refl, ap, ap₂, append-nil}
use Rattle.std.specs.List.{enumerate_from}
use Rattle.mltl_base.specs.declared.operators.BzOp.{BzOp}
use Rattle.mltl_base.specs.declared.operators.FtOp.{FtOp}
use Rattle.mltl_base.specs.declared.operators.PtOp.{PtOp}
use Rattle.mltl_base.specs.declared.program.Out as out
use Rattle.mltl_base.specs.declared.program.Program.{Program}
use Rattle.mltl_base.specs.declared.program.StoredSignal.{StoredSignal}
use Rattle.mltl_base.specs.declared.signal.Signal.{Signal}
use Rattle.c2po_types.specs.Signals.{body_signals, signals_of}
use Rattle.c2po_compile.specs.Images.{stored_signals}
use Rattle.obs_show.specs.Lines.{Form, Line, input, define, formula, contract}
use Rattle.obs_show.specs.Naming.{bz_name, ft_name, pt_name}
use Rattle.obs_show.specs.Text.{signal_line, bz_form, bz_line, ft_form, ft_line, pt_form, pt_line, output_line, numbered_lines, output_lines, shown_lines}
use Rattle.show_roundtrip.specs.Said.{line_body, line_items}
use Rattle.show_roundtrip.specs.Unfolded.{declared_by}
use Rattle.show_roundtrip.proofs.Walk.{lines_from, put, put_is}

-- the signals of lines, without the lines' numbers
abbrev signals_by : Line → List Signal
signals_by (input x truth) = record { name = x; truth = truth } ∷ []
signals_by _ = []

abbrev all_signals : List Line → List Signal
all_signals [] = []
all_signals (l ∷ ls) = signals_by l ++ all_signals ls

body_is : (n : ℕ) (l : Line) → body_signals (line_body n l) ≡ signals_by l
body_is n (input x true) = refl
body_is n _ = refl

items_are : (ls : List Line) (n : ℕ) → signals_of (line_items n ls) ≡ all_signals ls
unfolding line_items
items_are [] n = refl
items_are (l ∷ ls) n = ap₂ (λ (a b : List Signal). a ++ b) (body_is n l) (items_are ls (n + 1))

inputs_are : (ss : List StoredSignal) (more : List Line) → all_signals (map signal_line ss ++ more) ≡ map declared_by ss ++ all_signals more
inputs_are [] more = refl
inputs_are (s ∷ ss) more = ap (λ (a : List Signal). declared_by s ∷ a) (inputs_are ss more)

put_none : (x : List ℕ) (o : Option Form) (ls : List Line) → all_signals (put x o ls) ≡ all_signals ls
put_none x None ls = refl
put_none x (Some f) ls = refl

bz_none : (program : Program) (i : ℕ) (ops : List BzOp) (more : List Line) → all_signals (lines_from (bz_line program) i ops ++ more) ≡ all_signals more
bz_none program i [] more = refl
bz_none program i (op ∷ ops) more =
    ap all_signals (put_is (bz_name program i) (bz_form program op) (lines_from (bz_line program) (i + 1) ops) more)
    ∙ put_none (bz_name program i) (bz_form program op) (lines_from (bz_line program) (i + 1) ops ++ more) ∙ bz_none program (i + 1) ops more

ft_none : (program : Program) (i : ℕ) (ops : List FtOp) (more : List Line) → all_signals (lines_from (ft_line program) i ops ++ more) ≡ all_signals more
ft_none program i [] more = refl
ft_none program i (op ∷ ops) more =
    ap all_signals (put_is (ft_name program i) (ft_form program op) (lines_from (ft_line program) (i + 1) ops) more)
    ∙ put_none (ft_name program i) (ft_form program op) (lines_from (ft_line program) (i + 1) ops ++ more) ∙ ft_none program (i + 1) ops more

pt_none : (program : Program) (i : ℕ) (ops : List PtOp) (more : List Line) → all_signals (lines_from (pt_line program) i ops ++ more) ≡ all_signals more
pt_none program i [] more = refl
pt_none program i (op ∷ ops) more =
    ap all_signals (put_is (pt_name program i) (pt_form program op) (lines_from (pt_line program) (i + 1) ops) more)
    ∙ put_none (pt_name program i) (pt_form program op) (lines_from (pt_line program) (i + 1) ops ++ more) ∙ pt_none program (i + 1) ops more

out_none : (program : Program) (k : ℕ) (o : out.Out) → signals_by (output_line program k o) ≡ []
out_none program k (out.TheVariants.Formula engine i name) = refl
out_none program k (out.TheVariants.Contract engine i j name) = refl

outs_none : (program : Program) (k : ℕ) (outs : List out.Out) → all_signals (map (λ p. output_line program p.0 p.1) (enumerate_from k outs)) ≡ []
outs_none program k [] = refl
outs_none program k (o ∷ outs) = ap₂ (λ (a b : List Signal). a ++ b) (out_none program k o) (outs_none program (k + 1) outs)

pub program_declares : (program : Program) → signals_of (line_items 1 (shown_lines program)) ≡ map declared_by program.signals
program_declares program =
    let outs : List Line = output_lines program program.outs in
    let pts : List Line = numbered_lines (pt_line program) program.pt ++ outs in
    let fts : List Line = numbered_lines (ft_line program) program.ft ++ pts in
    let bzs : List Line = numbered_lines (bz_line program) program.bz ++ fts in
    items_are (shown_lines program) 1 ∙ inputs_are program.signals bzs
    ∙ ap (λ (a : List Signal). map declared_by program.signals ++ a) (bz_none program 0 program.bz fts ∙ ft_none program 0 program.ft pts ∙ pt_none program 0 program.pt outs ∙ outs_none program 0 program.outs)
    ∙ append-nil (map declared_by program.signals)

-- signals are stored again in their columns
pub stored_again : (ss : List StoredSignal) → stored_signals (map declared_by ss) (map (λ s. s.column) ss) ≡ ss
stored_again [] = refl
stored_again (s ∷ ss) = ap (λ (a : List StoredSignal). s ∷ a) (stored_again ss)
