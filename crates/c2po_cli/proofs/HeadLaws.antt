-- The first line of a header file, and what is made under it.

use Rattle.std.proofs.Common.{◌≡◌, ◌≢◌, ℕ, ◌<◌, Bool, true, false, Option, Some, None, unwrap_or, Result, Ok, Err, IfOk, IfErr, List, [], ◌∷◌, ◌++◌, length, Vec, refl, sym, ◌∙◌, ap, subst, inl, inr}
use Rattle.std.specs.declared.alloc.Global.{Global}
use Rattle.std.specs.List.{concat}
use Rattle.std.proofs.lemmas.List.{append-nil}
use Rattle.tool_io.specs.declared.host.Place.TheVariants.{Header}
use Rattle.tool_io.specs.declared.line_cut.Line as line
use Rattle.tool_io.specs.Log.{Event, Attached}
use Rattle.tool_io.specs.Whole.{Draws}
use Rattle.tool_io.specs.Cutting.{Cutting, IsRow, CutsLine, line_text, lines_of, fresh, row_of}
use Rattle.tool_io.proofs.CutLaws.{lines_of-row, lines_of-last, lines_of-long, lines_of-none, is_long-row}
use Rattle.c2po_ast.specs.ItemShape.{ItemShape}
use Rattle.c2po_compile.specs.Front.{first_refusal, items_in}
use Rattle.c2po_compile.specs.Refusals.{IsFirstRefusal}
use Rattle.c2po_compile.specs.declared.fault.CompileFault.{CompileFault}
use Rattle.c2po_compile.specs.declared.fault.HeaderWhy.TheVariants.{NoHeader}
use Rattle.c2po_compile.specs.declared.fault.CompileFault.TheVariants as compile
use Rattle.c2po_compile.proofs.CompiledLaws.{header_refused}
use Rattle.tool_words.specs.declared.status.Status as status
use Rattle.tool_words.specs.declared.status.Status.TheVariants as answers
use Rattle.tool_words.proofs.LineLaws.{text_short}
use Rattle.c2po_cli.specs.declared.make.Form.{Form}
use Rattle.tool_words.specs.FirstLine.{begins_long}
use Rattle.c2po_cli.specs.Images.{WritesImage}
use Rattle.tool_words.specs.Statuses.{compile_status}
use Rattle.c2po_cli.specs.Made.{compiled_bytes, text_bytes, unless_long, first_line, made_of_text}
use Rattle.c2po_cli.specs.Phases.{IsRefusal, RefusesAlone, ReadsLine, LineLog, HeaderLog, RefusedLog, MadeLog}
use Rattle.c2po_cli.proofs.MakingLaws.{headed, refused_by, refused_so}

-- what a call that makes bytes answers, where a refusal has this status
abbrev pub Made : (status.Status → Type 0) → Result (Vec ℕ Global) status.Status → Result (List ℕ) status.Status → Type 0
Made Speaks (Ok bytes) found = found ≡ Ok bytes.items
Made Speaks (Err answer) found = Speaks answer × (answer ≢ answers.Memory → found ≡ Err answer)

pub line_short : (cut : Cutting) (events : List Event) → CutsLine Header fresh cut line.TheVariants.Row events → length (line_text (row_of cut)) < 65536
line_short cut events cuts =
    let raw = cuts.answer.0 in
    let gives = cuts.answer.1 in
    subst (λ row. length (line_text (unwrap_or row [])) < 65536) (sym gives.row) (text_short raw cut.pending cut.ended gives.fits gives.line)

-- the lines of what was read begin with the row
row_lines : (raw rest : List ℕ) (ended : Bool) → IsRow raw rest ended → (others : List (List ℕ)) × (lines_of ended (raw ++ rest) ≡ raw ∷ others)
row_lines raw rest ended (inl whole) = (lines_of ended rest, lines_of-row ended raw rest whole)
row_lines raw rest ended (inr last) = ([], lines_of-last raw rest ended last)

-- what a cut took
module _ (cut : Cutting) (events : List Event) where
  cut_takes : (outcome : line.Line) (cuts : CutsLine Header fresh cut outcome events) → Draws Header (concat cuts.pieces) cut.ended events
  cut_takes outcome cuts = record { pieces = cuts.pieces; are = cuts.reads; joined = refl; end = sym cuts.ended }

  module _ (form : Form) (text : List ℕ) (none : first_refusal text ≡ None) where
    -- the first line gives what the header's columns give
    line_makes : (found : Result (List ℕ) status.Status) (cuts : CutsLine Header fresh cut line.TheVariants.Row events) → text_bytes form text (Some (line_text (row_of cut))) ≡ found
        → IfOk found (WritesImage form text (Some (line_text (row_of cut)))) → ReadsLine form text found events
    line_makes found cuts is image =
        let raw = cuts.answer.0 in
        let gives = cuts.answer.1 in
        let lines = row_lines raw cut.pending cut.ended gives.line in
        let are : lines_of cut.ended (concat cuts.pieces) ≡ raw ∷ lines.0 = ap (lines_of cut.ended) gives.split ∙ lines.1 in
        let short : begins_long (lines_of cut.ended (concat cuts.pieces)) ≡ false = ap begins_long are ∙ is_long-row raw cut.pending cut.ended gives.fits gives.line in
        let first : first_line (lines_of cut.ended (concat cuts.pieces)) ≡ line_text (row_of cut) = ap first_line are ∙ ap (λ row. line_text (unwrap_or row [])) (sym gives.row) in
        record {
          bytes = concat cuts.pieces;
          ended = cut.ended;
          takes = cut_takes line.TheVariants.Row cuts;
          begun = inr (λ none. let no : raw ∷ lines.0 ≡ [] = sym are ∙ none in cc);
          makes = λ name. headed form name text (lines_of cut.ended (concat cuts.pieces)) none
              ∙ ap (λ b. unless_long b (text_bytes form text (Some (first_line (lines_of cut.ended (concat cuts.pieces)))))) short
              ∙ ap (λ l. text_bytes form text (Some l)) first ∙ is;
          image = subst (λ l. IfOk found (WritesImage form text (Some l))) (sym first) image;
        }

    pub row_made : (result : Result (Vec ℕ Global) status.Status) (cuts : CutsLine Header fresh cut line.TheVariants.Row events) → Made IsRefusal result (text_bytes form text (Some (line_text (row_of cut))))
        → IfOk result (λ bytes. WritesImage form text (Some (line_text (row_of cut))) bytes.items) → LineLog result form text events
    row_made (Ok bytes) cuts made image = line_makes (Ok bytes.items) cuts made image
    row_made (Err answers.Memory) cuts made image = record { bytes = concat cuts.pieces; ended = cut.ended; takes = cut_takes line.TheVariants.Row cuts }
    row_made (Err (answers.TextTooLong Header)) cuts made image = absurd made.0
    row_made (Err (answers.ReadFault Header)) cuts made image = absurd made.0
    row_made (Err answer) cuts made image = (made.0, line_makes (Err answer) cuts (made.1 (λ e. cc)) tt)

    -- there is no line
    pub end_made : CutsLine Header fresh cut line.TheVariants.End events → LineLog (Err (answers.BadHeader NoHeader)) form text events
    end_made cuts =
        let all = cuts.answer.1 in
        let are : lines_of cut.ended (concat cuts.pieces) ≡ [] = ap (lines_of cut.ended) all ∙ no_lines cut.ended in (
          tt,
          record {
            bytes = concat cuts.pieces;
            ended = cut.ended;
            takes = cut_takes line.TheVariants.End cuts;
            begun = inl cuts.answer.2;
            makes = λ name. headed form name text (lines_of cut.ended (concat cuts.pieces)) none
                ∙ ap (λ lines. unless_long (begins_long lines) (text_bytes form text (Some (first_line lines)))) are
                ∙ ap (compiled_bytes form.table) (refused_by form.simplify text (Some []) (compile.BadHeader NoHeader) (header_refused text (Some []) (compile.BadHeader NoHeader) none refl));
            image = tt;
          },
        )
      where
        no_lines : (ended : Bool) → lines_of ended [] ≡ []
        no_lines true = refl
        no_lines false = refl

    -- it doesn't end
    pub long_made : CutsLine Header fresh cut line.TheVariants.LongLine events → LineLog (Err (answers.TextTooLong Header)) form text events
    long_made cuts =
        let gives = cuts.answer.0 in
        let long = lines_of-long cut.ended (concat cuts.pieces) [] gives.no_newline cuts.answer.1 in
        let begins : begins_long (lines_of cut.ended (concat cuts.pieces)) ≡ true = ap (λ b. begins_long (lines_of cut.ended b)) (sym (append-nil (concat cuts.pieces))) ∙ ap begins_long long.split ∙ long.long in
        record {
          bytes = concat cuts.pieces;
          ended = cut.ended;
          takes = cut_takes line.TheVariants.LongLine cuts;
          begun = inr (λ none. let no : long.raw ∷ long.others ≡ [] = sym long.split ∙ ap (lines_of cut.ended) (append-nil (concat cuts.pieces)) ∙ none in cc);
          makes = λ name. headed form name text (lines_of cut.ended (concat cuts.pieces)) none
              ∙ ap (λ b. unless_long b (text_bytes form text (Some (first_line (lines_of cut.ended (concat cuts.pieces)))))) begins;
          image = tt;
        }

  pub fault_made : (form : Form) (text : List ℕ) → CutsLine Header fresh cut line.TheVariants.ReadFault events → LineLog (Err (answers.ReadFault Header)) form text events
  fault_made form text cuts = record {
    bytes = concat cuts.pieces;
    takes = subst (λ ended. Draws Header (concat cuts.pieces) ended events) cuts.answer.2 (cut_takes line.TheVariants.ReadFault cuts);
    no_line = lines_of-none (concat cuts.pieces) cuts.answer.0.no_newline cuts.answer.1;
  }

-- nothing was read
pub none_made : (form : Form) (text : List ℕ) → LineLog (Err answers.Memory) form text []
none_made form text = record { bytes = []; ended = false; takes = record { pieces = []; are = refl; joined = refl; end = refl } }

-- after the attach of a header file
pub header_log : (result : Result (Vec ℕ Global) status.Status) (form : Form) (name text : List ℕ) (events : List Event) → (log : List Event) × (events ≡ Attached Header name ∷ log) × LineLog result form text log → HeaderLog result form name text events
header_log (Ok bytes) form name text events has = has
header_log (Err (answers.OpenFault Header)) form name text events has = absurd has.2.0
header_log (Err answer) form name text events has = has

-- what the calls that make bytes answer
pub made_so : (Speaks : status.Status → Type 0) (form : Form) (header : Option (List ℕ)) (items : List ItemShape) (text : List ℕ) (result : Result (Vec ℕ Global) status.Status)
    → IfOk result (λ bytes. (text : List ℕ) → first_refusal text ≡ None → items ≡ items_in text → text_bytes form text header ≡ Ok bytes.items)
    → IfErr result (λ answer. answer ≢ answers.Memory → (text : List ℕ) → first_refusal text ≡ None → items ≡ items_in text → text_bytes form text header ≡ Err answer)
    → IfErr result Speaks → first_refusal text ≡ None → items ≡ items_in text → Made Speaks result (text_bytes form text header)
made_so Speaks form header items text (Ok bytes) made refused speaks none same = made text none same
made_so Speaks form header items text (Err answer) made refused speaks none same = (speaks, λ some. refused some text none same)

pub made_log : (found : Result (List ℕ) status.Status) (result : Result (Vec ℕ Global) status.Status) → Made RefusesAlone result found → MadeLog result found []
made_log found (Ok bytes) made = (refl, made)
made_log found (Err answers.Memory) made = refl
made_log found (Err answer) made = (refl, made.0, made.1 (λ e. cc))

pub program_made : (found : Result (List ℕ) status.Status) (result : Result (Vec ℕ Global) status.Status) → IfOk result (λ made. found ≡ Ok made.items) → IfErr result (λ answer. answer ≢ answers.Memory → found ≡ Err answer) → IfErr result RefusesAlone → MadeLog result found []
program_made found (Ok bytes) made refused speaks = made_log found (Ok bytes) made
program_made found (Err answer) made refused speaks = made_log found (Err answer) (speaks, refused)

-- a text is refused
pub front_refused : (form : Form) (header : Option (List ℕ)) (text : List ℕ) (fault : CompileFault) → IsFirstRefusal (first_refusal text) fault → RefusedLog (Err (compile_status fault)) (made_of_text form header text []) []
front_refused form header text (compile.Refused line why) is = (refl, tt, refused_so form header text (compile.Refused line why) is (λ e. cc))
front_refused form header text (compile.BadHeader why) is = absurd is
front_refused form header text compile.Memory is = refl
