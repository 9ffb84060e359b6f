-- A program in simplified form is written, with no more slots and boxes than the plain one.

use Rattle.std.proofs.Common.{◌≡◌, ◌∙◌, ℕ, Bool, true, false, Option, Some, None, option_map, Result, Ok, Err, List, refl, sym, ap, subst}
use Rattle.mltl_base.specs.declared.program.Program.{Program}
use Rattle.tool_io.specs.Log.{Event}
use Rattle.c2po_compile.specs.declared.fault.CompileFault.{CompileFault}
use Rattle.c2po_compile.specs.Compiled.{compile_text}
use Rattle.c2po_compile.specs.Front.{first_refusal}
use Rattle.c2po_compile.specs.Refusals.{unless_refused}
use Rattle.c2po_compile.specs.Simplified.{compile_simplified}
use Rattle.c2po_compile.proofs.SimpleLaws.{simple_no_more, simple_refused}
use Rattle.tool_words.specs.declared.status.Status as status
use Rattle.tool_words.specs.FirstLine.{begins_long}
use Rattle.c2po_cli.specs.declared.make.Form.{Form}
use Rattle.c2po_cli.specs.Asking.{Ask, make}
use Rattle.c2po_cli.specs.Images.{asked_header}
use Rattle.tool_words.specs.Statuses.{compile_status}
use Rattle.c2po_cli.specs.Made.{asked_program, compiled_bytes, first_line, made, made_as, made_of_text, text_bytes, unless_long, written_as}
use Rattle.c2po_cli.specs.Run.{seen, MakeOutcome, OutcomeOf}
use Rattle.c2po_cli.specs.Written.{IsNoLarger, NeedsNoMore}

-- what gives bytes isn't refused before
unrefused : (refusal : Option status.Status) (found : Result (List ℕ) status.Status) (written : List ℕ) → unless_refused refusal found ≡ Ok written → found ≡ Ok written
unrefused None found written is = is
unrefused (Some answer) found written is = absurd (cc)

not_long : (long : Bool) (found : Result (List ℕ) status.Status) (written : List ℕ) → unless_long long found ≡ Ok written → found ≡ Ok written
not_long true found written is = absurd (cc)
not_long false found written is = is

-- so a text gives them under its header line
text_gives : (form : Form) (header : Option (List ℕ)) (text : List ℕ) (lines : List (List ℕ)) (written : List ℕ) → made_of_text form header text lines ≡ Ok written → text_bytes form text (asked_header header lines) ≡ Ok written
text_gives form None text lines written is = is
text_gives form (Some name) text lines written is =
    not_long (begins_long lines) (text_bytes form text (Some (first_line lines))) written
    (unrefused (option_map compile_status (first_refusal text)) (unless_long (begins_long lines) (text_bytes form text (Some (first_line lines)))) written is)

-- a simplified program has a plain one that is no smaller
no_larger : (tabled : Bool) (text : List ℕ) (header : Option (List ℕ)) (written : List ℕ) (simple plain : Result Program CompileFault) → compile_simplified text header ≡ simple → compile_text text header ≡ plain
    → compiled_bytes tabled simple ≡ Ok written → IsNoLarger tabled text header written
no_larger tabled text header written (Ok simple) (Ok plain) is was makes = record {
  simple = simple;
  plain = plain;
  simple_is = is;
  plain_is = was;
  bytes = let same : written_as tabled simple ≡ written = cc in sym same;
  slots = simple_no_more text header simple plain is was;
}
no_larger tabled text header written (Ok simple) (Err fault) is was makes = absurd (let no : Ok simple ≡ Err fault = sym is ∙ simple_refused text header fault was in cc)
no_larger tabled text header written (Err fault) plain is was makes = absurd (cc)

text_no_larger : (form : Form) (text : List ℕ) (header : Option (List ℕ)) (written : List ℕ) → form.simplify ≡ true → text_bytes form text header ≡ Ok written → IsNoLarger form.table text header written
text_no_larger form text header written simplified makes =
    no_larger form.table text header written (compile_simplified text header) (compile_text text header) refl refl
    (ap (λ simplify. compiled_bytes form.table (asked_program simplify text header)) (sym simplified) ∙ makes)

-- so does a whole run
pub needs_no_more : (asked : Ask) (answer : status.Status) (events : List Event) → OutcomeOf answer asked events → NeedsNoMore asked answer events
unfolding made
needs_no_more (make asked) answer events outcome = λ form product simplified done.
    let run = seen asked events in
    let is = subst (λ s. MakeOutcome s asked run) done outcome in
    text_no_larger form run.file (asked_header asked.header run.header) run.out simplified
    (text_gives form asked.header run.file run.header run.out (ap (λ what. made_as what asked.header run.file run.header) (sym product) ∙ is.bytes.is))
needs_no_more asked answer events outcome = tt
