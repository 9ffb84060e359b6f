-- A program that is shown is written as its text, and an image returns from it.

use Rattle.std.proofs.Common.{◌≡◌, ◌∙◌, ℕ, Option, Some, None, Result, Ok, Err, List, refl, sym, ap, subst}
use Rattle.mltl_base.specs.declared.program.Columns.{Columns}
use Rattle.mltl_base.specs.declared.program.Program.{Program}
use Rattle.tool_io.specs.Log.{Event}
use Rattle.obs_binary.specs.Layout.{IsEncodable, spelling}
use Rattle.obs_binary.specs.declared.file_fault.FileFault.{FileFault}
use Rattle.obs_binary.specs.Faults.{opened}
use Rattle.obs_binary.proofs.Spelled.{opened_spelled}
use Rattle.obs_show.specs.declared.fault.ShowFault.{ShowFault}
use Rattle.obs_show.specs.Limits.{show_fault}
use Rattle.obs_show.specs.Text.{text}
use Rattle.obs_verify.specs.Layout.{HasLayout}
use Rattle.obs_verify.specs.Upgrade.{clash_of, up}
use Rattle.obs_verify.specs.WellFormed.{IsWellFormed}
use Rattle.c2po_compile.specs.Front.{first_refusal}
use Rattle.c2po_compile.specs.Image.{image}
use Rattle.c2po_compile.specs.ImageFiles.{compile_over, stored_columns}
use Rattle.c2po_compile.specs.Simplified.{compile_simplified_over}
use Rattle.c2po_compile.proofs.MovedImages.{layout_of}
use Rattle.show_roundtrip.proofs.Images.{image_returns, simple_returns}
use Rattle.show_roundtrip.proofs.ShownImages.{image_passes, simple_passes}
use Rattle.tool_words.specs.declared.status.Status as status
use Rattle.c2po_cli.specs.declared.make.Product.{Product}
use Rattle.c2po_cli.specs.declared.make.Product.TheVariants.{Compiled, Upgrade, Show}
use Rattle.c2po_cli.specs.Asking.{Ask, make}
use Rattle.c2po_cli.specs.Made.{made, made_as, opened_as, raised_as, text_within, unless_past}
use Rattle.c2po_cli.specs.Run.{seen, MakeOutcome, OutcomeOf}
use Rattle.c2po_cli.specs.Showing.{Returns, IsShown, ShowsFile, ShowsProgram}

-- what is within both limits is written as its text
within_both : (fault : Option ShowFault) (bytes written : List ℕ) → unless_past fault bytes ≡ Ok written → (fault ≡ None) × (bytes ≡ written)
within_both None bytes written is = (refl, (let same : bytes ≡ written = cc in same))
within_both (Some fault) bytes written is = absurd (cc)

raised_within : (program : Program) (clash : Option ℕ) (written : List ℕ) → raised_as text_within program clash ≡ Ok written → (show_fault (up program) ≡ None) × (text (up program) ≡ written)
raised_within program None written is = within_both (show_fault (up program)) (text (up program)) written is
raised_within program (Some i) written is = absurd (cc)

-- a program of version 2 whose text has no fault, and has it as its image
record IsGivenBack (p : Program) : Type 0 where
  second : up p ≡ p
  faultless : HasLayout p → IsWellFormed p → show_fault p ≡ None → first_refusal (text p) ≡ None
  same : HasLayout p → IsWellFormed p → first_refusal (text p) ≡ None → compile_over (text p) (stored_columns p) ≡ p

image_back : (source : List ℕ) (columns : Columns) → first_refusal source ≡ None → IsGivenBack (compile_over source columns)
unfolding image
image_back source columns none = record {
  second = refl;
  faultless = λ few formed within. image_passes source columns (compile_over source columns) none refl few formed within;
  same = λ few formed faultless. image_returns source columns (compile_over source columns) none refl few formed faultless;
}

simple_back : (source : List ℕ) (columns : Columns) → first_refusal source ≡ None → IsGivenBack (compile_simplified_over source columns)
unfolding image
simple_back source columns none = record {
  second = refl;
  faultless = λ few formed within. simple_passes source columns (compile_simplified_over source columns) none refl few formed within;
  same = λ few formed faultless. simple_returns source columns (compile_simplified_over source columns) none refl few formed faultless;
}

-- the bytes of such a program return from its text
given_back : (p program : Program) (file written : List ℕ) → IsGivenBack p → IsEncodable p → file ≡ spelling p → opened file ≡ Ok program → show_fault (up program) ≡ None → text (up program) ≡ written → Returns program file written
given_back p program file written back fits spells opens within is =
    let found = opened_spelled p program file fits spells opens in
    let few : HasLayout p = layout_of p fits.layout in
    let same : up program ≡ p = ap up (sym found.1) ∙ back.second in
    let faultless : first_refusal (text p) ≡ None = back.faultless few found.0 (ap show_fault (sym same) ∙ within) in
    let bytes : text p ≡ written = ap text (sym same) ∙ is in
    record {
      faultless = ap first_refusal (sym bytes) ∙ faultless;
      image =
          ap (λ (w : List ℕ). spelling (compile_over w (stored_columns program))) (sym bytes)
          ∙ ap (λ (q : Program). spelling (compile_over (text p) (stored_columns q))) (sym found.1)
          ∙ ap spelling (back.same few found.0 faultless)
          ∙ sym spells;
    }

-- what is written of a file
shown_as : (file written : List ℕ) (found : Result Program FileFault) → opened file ≡ found → opened_as text_within found ≡ Ok written → IsShown file written
shown_as file written (Ok program) opens is =
    let within = raised_within program (clash_of program) written is in
    record {
      program = program;
      opens = opens;
      text = sym within.1;
      image = λ source columns of. given_back (compile_over source columns) program file written (image_back source columns of.faultless) of.fits of.bytes opens within.0 within.1;
      simple_image = λ source columns of. given_back (compile_simplified_over source columns) program file written (simple_back source columns of.faultless) of.fits of.bytes opens within.0 within.1;
    }
shown_as file written (Err fault) opens is = absurd (cc)

shows_file : (product : Product) (header : Option (List ℕ)) (file : List ℕ) (lines : List (List ℕ)) (written : List ℕ) → made_as product header file lines ≡ Ok written → ShowsFile product file written
shows_file (Compiled form) header file lines written is = tt
shows_file Upgrade header file lines written is = tt
shows_file Show header file lines written is = shown_as file written (opened file) refl is

-- what a run shows
pub shows_program : (asked : Ask) (answer : status.Status) (events : List Event) → OutcomeOf answer asked events → ShowsProgram asked answer events
unfolding made
shows_program (make asked) answer events outcome = λ done.
    let is = subst (λ s. MakeOutcome s asked (seen asked events)) done outcome in
    shows_file asked.product asked.header (seen asked events).file (seen asked events).header (seen asked events).out is.bytes.is
shows_program asked answer events outcome = tt
