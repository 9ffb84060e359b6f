-- What programs in simplified form tell.

use Rattle.std.proofs.Common.{◌≡◌, ◌∙◌, ◌+◌, ◌<◌, ◌≤◌, ℕ, zero, suc, Bool, true, false, Option, Some, None, List, [], ◌∷◌, ◌++◌, map, length, slice_get, Ok, refl, sym, ap, ap₂, subst, arith, if◌then◌else◌, option_map}
use Rattle.std.specs.Prelude.{All}
use Rattle.std.proofs.Math.Nat.{le-max_left, le-max_right, max-le}
use Rattle.std.proofs.lemmas.List.Elements.{All-cons, All-head, All-nil, All-tail}
use Rattle.mltl_base.specs.declared.program.Columns.{Columns}
use Rattle.mltl_base.specs.declared.program.Program.{Program}
use Rattle.mltl_base.specs.declared.report.Style.{Style}
use Rattle.mltl_base.specs.declared.report.Word.{Word}
use Rattle.mltl_base.specs.declared.signal.Signal.{Signal}
use Rattle.mltl_base.specs.Atoms.{Row}
use Rattle.mltl_base.specs.Formula.{Formula, negation, conjunction, disjunction, implication, equivalence, finally, globally, until, release, once, historically, since, formula_over, wpd}
use Rattle.mltl_base.specs.Kinds.{ReadsSignals, kinds_of}
use Rattle.mltl_base.specs.Programs.{outputs, output_names}
use Rattle.mltl_base.specs.Reports.{Output, formula, contract, words, word_of, status_of, meaning, delay, reports, told, IsRising, IsSettled}
use Rattle.mltl_base.specs.Settled.{IsOrdered}
use Rattle.mltl_base.specs.Subformulas.{Asked, IsTensed, formulas_of}
use Rattle.mltl_base.proofs.Words.{word_known, word_settled}
use Rattle.mltl_base.proofs.Telling.{reports_rise, told_words}
use Rattle.mltl_simplify.specs.Outputs.{simple_output, simple_outputs}
use Rattle.mltl_simplify.proofs.Delays.{simp_wpd}
use Rattle.mltl_simplify.proofs.Ending.{simple_tensed}
use Rattle.mltl_simplify.proofs.Meaning.{simp_sat}
use Rattle.mltl_simplify.proofs.Signals.{simple_kinds, simple_over}
use Rattle.c2po_ast.specs.Outputs.{asked_over, output_over}
use Rattle.c2po_compile.proofs.Tenses.{image_names, image_tells}
use Rattle.set_expand.proofs.Signalling.{outputs-read}
use Rattle.c2po_compile.specs.Compiled.{columns_by, outputs_in, signals_in}
use Rattle.c2po_compile.specs.Front.{first_refusal, items_in}
use Rattle.c2po_compile.specs.Image.{image, over_columns, plain_outputs}
use Rattle.c2po_compile.specs.Simplified.{CanMoveSimple, TellsSettled, are_smaller, compile_simplified_and_move, compile_simplified_over, compile_simplified, smaller_outputs}
use Rattle.c2po_compile.proofs.ImageLaws.{image_of}
use Rattle.c2po_compile.proofs.MovedImages.{moved_image_outputs}
use Rattle.c2po_compile.proofs.OrderedValues.{IsOrderedOutput, outputs_ordered}
use Rattle.c2po_compile.proofs.SimpleLaws.{simple_found}
use Rattle.c2po_compile.proofs.TellingLaws.{tensed}

-- ---- one output

abbrev AreOrdered : Output → Type 0
AreOrdered o = All IsOrdered (formulas_of o)

-- over columns its intervals run upward still
over_ordered : (columns : List ℕ) (p : Formula) → IsOrdered p → IsOrdered (formula_over columns p)
unfolding formula_over
over_ordered columns (negation p) h = over_ordered columns p h
over_ordered columns (conjunction p q) h = (over_ordered columns p h.0, over_ordered columns q h.1)
over_ordered columns (disjunction p q) h = (over_ordered columns p h.0, over_ordered columns q h.1)
over_ordered columns (implication p q) h = (over_ordered columns p h.0, over_ordered columns q h.1)
over_ordered columns (equivalence p q) h = (over_ordered columns p h.0, over_ordered columns q h.1)
over_ordered columns (finally i p) h = (h.0, over_ordered columns p h.1)
over_ordered columns (globally i p) h = (h.0, over_ordered columns p h.1)
over_ordered columns (until i p q) h = (h.0, (over_ordered columns p h.1.0, over_ordered columns q h.1.1))
over_ordered columns (release i p q) h = (h.0, (over_ordered columns p h.1.0, over_ordered columns q h.1.1))
over_ordered columns (once i p) h = (h.0, over_ordered columns p h.1)
over_ordered columns (historically i p) h = (h.0, over_ordered columns p h.1)
over_ordered columns (since i p q) h = (h.0, (over_ordered columns p h.1.0, over_ordered columns q h.1.1))
over_ordered columns _ h = tt

output_ordered : (columns : List ℕ) (o : Output) → AreOrdered o → AreOrdered (output_over columns o)
output_ordered columns (formula p) h = All-cons IsOrdered (formula_over columns p) [] (over_ordered columns p (All-head IsOrdered p [] h)) (All-nil IsOrdered)
output_ordered columns (contract p q) h =
    let rest = All-tail IsOrdered p (q ∷ []) h in
    All-cons IsOrdered (formula_over columns p) (formula_over columns q ∷ []) (over_ordered columns p (All-head IsOrdered p (q ∷ []) h))
    (All-cons IsOrdered (formula_over columns q) [] (over_ordered columns q (All-head IsOrdered q [] rest)) (All-nil IsOrdered))

-- simplified it means the same, no later
simple_meaning : (rows : List Row) (o : Output) (t : ℕ) → AreOrdered o → meaning rows (simple_output o) t ≡ meaning rows o t
unfolding meaning
simple_meaning rows (formula p) t h = ap word_of (simp_sat rows p t (All-head IsOrdered p [] h))
simple_meaning rows (contract p q) t h =
    ap₂ status_of (simp_sat rows p t (All-head IsOrdered p (q ∷ []) h)) (simp_sat rows q t (All-head IsOrdered q [] (All-tail IsOrdered p (q ∷ []) h)))

simple_delay : (o : Output) → delay (simple_output o) ≤ delay o
simple_delay (formula p) = simp_wpd p
simple_delay (contract p q) = max-le (omega (arith, simp_wpd p, le-max_left (wpd p) (wpd q))) (omega (arith, simp_wpd q, le-max_right (wpd p) (wpd q)))

-- the known words of one output are settled for another, and come within its delay
record Serves (rows : List Row) (given o : Output) : Type 0 where
  settled : (t : ℕ) (w : Word) → slice_get (words rows given) t ≡ Some w → IsSettled rows o t w
  in_time : (t : ℕ) → t + delay o < length rows → slice_get (words rows given) t ≡ Some (meaning rows o t)

serves_itself : (rows : List Row) (o : Output) → Serves rows o o
serves_itself rows o = record { settled = word_settled rows o; in_time = word_known rows o }

simple_serves : (rows : List Row) (o : Output) → AreOrdered o → Serves rows (simple_output o) o
simple_serves rows o h = record {
  settled = λ t w is more long. sym (simple_meaning (rows ++ more) o t h) ∙ word_settled rows (simple_output o) t w is more (omega (arith, long, simple_delay o));
  in_time = λ t long. word_known rows (simple_output o) t (omega (arith, long, simple_delay o)) ∙ ap (λ w. Some w) (simple_meaning rows o t h);
}

-- what reports of outputs tell of one that they serve
told_for : (style : Style) (p : Program) (outs : List Output) (rows : List Row) (k : ℕ) (given o : Output) → reports style (outputs p) rows ≡ reports style outs rows
    → slice_get outs k ≡ Some given → Serves rows given o → TellsSettled style p k o rows
told_for style p outs rows k given o same is serves =
    let tells : told k 0 (reports style (outputs p) rows) ≡ words rows given = ap (told k 0) same ∙ told_words style k outs rows given is in
    record {
      in_order = subst (IsRising k 0) (sym same) (reports_rise style k outs rows given is);
      settled = λ t w has. serves.settled t w (ap (λ ws. slice_get ws t) (sym tells) ∙ has);
      in_time = λ t long. ap (λ ws. slice_get ws t) tells ∙ serves.in_time t long;
    }

-- ---- outputs

get_map : {X Y : Type 0} (f : X → Y) (xs : List X) (k : ℕ) (x : X) → slice_get xs k ≡ Some x → slice_get (map f xs) k ≡ Some (f x)
get_map f [] k x h = absurd (cc)
get_map f (y ∷ xs) zero x h = ap (option_map f) h
get_map f (y ∷ xs) (suc k) x h = get_map f xs k x h

ordered_at : (columns : List ℕ) (outs : List Asked) (k : ℕ) (o : Output) → All IsOrderedOutput outs → slice_get (map (λ (a : Asked). a.output) (map (asked_over columns) outs)) k ≡ Some o → AreOrdered o
ordered_at columns [] k o h is = absurd (cc)
ordered_at columns (a ∷ outs) zero o h is =
    let same : output_over columns a.output ≡ o = cc in
    subst AreOrdered same (output_ordered columns a.output (All-head IsOrderedOutput a outs h))
ordered_at columns (a ∷ outs) (suc k) o h is = ordered_at columns outs k o (All-tail IsOrderedOutput a outs h) is

outputs_simple : (outs : List Asked) → map (λ (a : Asked). a.output) (simple_outputs outs) ≡ map simple_output (map (λ (a : Asked). a.output) outs)
outputs_simple [] = refl
outputs_simple (a ∷ outs) = ap (λ os. simple_output a.output ∷ os) (outputs_simple outs)

plain_simple : (columns : Columns) (outs : List Asked) → plain_outputs columns (simple_outputs outs) ≡ map simple_output (plain_outputs columns outs)
plain_simple columns outs = ap (map (λ (a : Asked). a.output)) (simple_over columns.of_signal outs) ∙ outputs_simple (over_columns columns outs)

-- what the smaller outputs have, where both have it
smaller_has : (P : List Asked → Type 0) (columns : Columns) (outs : List Asked) → P (simple_outputs outs) → P outs → P (smaller_outputs columns outs)
unfolding smaller_outputs
smaller_has P columns outs h k = go (are_smaller (over_columns columns (simple_outputs outs)) (over_columns columns outs))
  where
    go : (b : Bool) → P (if b then simple_outputs outs else outs)
    go true = h
    go false = k

smaller_tensed : (columns : Columns) (outs : List Asked) → All IsTensed outs → All IsTensed (smaller_outputs columns outs)
smaller_tensed columns outs h = smaller_has (All IsTensed) columns outs (simple_tensed outs h) h

smaller_reads : (columns : Columns) (signals : List Signal) (outs : List Asked) → All (ReadsSignals (kinds_of signals)) outs → All (ReadsSignals (kinds_of signals)) (smaller_outputs columns outs)
smaller_reads columns signals outs h = smaller_has (All (ReadsSignals (kinds_of signals))) columns outs (simple_kinds (kinds_of signals) outs h) h

-- a program tells the smaller outputs over columns
smaller_told : (style : Style) (p : Program) (columns new : Columns) (outs : List Asked) (rows : List Row) (k : ℕ) (o : Output) → All IsOrderedOutput outs
    → slice_get (plain_outputs new outs) k ≡ Some o → reports style (outputs p) rows ≡ reports style (plain_outputs new (smaller_outputs columns outs)) rows → TellsSettled style p k o rows
smaller_told style p columns new outs rows k o ordered is =
    smaller_has (λ xs. reports style (outputs p) rows ≡ reports style (plain_outputs new xs) rows → TellsSettled style p k o rows) columns outs
    (λ same. told_for style p (plain_outputs new (simple_outputs outs)) rows k (simple_output o) o same
    (ap (λ os. slice_get os k) (plain_simple new outs) ∙ get_map simple_output (plain_outputs new outs) k o is)
    (simple_serves rows o (ordered_at new.of_signal outs k o ordered is)))
    (λ same. told_for style p (plain_outputs new outs) rows k o o same is (serves_itself rows o))

-- ---- of a text

text_ordered : (text : List ℕ) → All IsOrderedOutput (outputs_in text)
text_ordered text = outputs_ordered (items_in text)

-- the simplified image of a text tells its plain outputs
pub simple_image_told : (style : Style) (text : List ℕ) (columns : Columns) (rows : List Row) (k : ℕ) (o : Output) → first_refusal text ≡ None
    → slice_get (plain_outputs columns (outputs_in text)) k ≡ Some o → TellsSettled style (compile_simplified_over text columns) k o rows
simple_image_told style text columns rows k o none at =
    let outs = smaller_outputs columns (outputs_in text) in
    smaller_told style (compile_simplified_over text columns) columns columns (outputs_in text) rows k o (text_ordered text) at
    (image_tells style (signals_in text) columns outs (compile_simplified_over text columns) rows (smaller_tensed columns (outputs_in text) (tensed text none)) (image_of columns (signals_in text) outs))

pub simple_told : (style : Style) (text : List ℕ) (header : Option (List ℕ)) (columns : Columns) (p : Program) (rows : List Row) (k : ℕ) (o : Output)
    → compile_simplified text header ≡ Ok p → columns_by (signals_in text) header ≡ Ok columns → slice_get (plain_outputs columns (outputs_in text)) k ≡ Some o
    → TellsSettled style p k o rows
simple_told style text header columns p rows k o is found at =
    let has = simple_found text header columns p is found in
    subst (λ q. TellsSettled style q k o rows) (sym has.1) (simple_image_told style text columns rows k o has.0 at)

pub moved_told : (style : Style) (text : List ℕ) (old new : Columns) (rows : List Row) (k : ℕ) (o : Output) → CanMoveSimple text old new
    → slice_get (plain_outputs new (outputs_in text)) k ≡ Some o → TellsSettled style (compile_simplified_and_move text old new) k o rows
moved_told style text old new rows k o can at =
    let outs = smaller_outputs old (outputs_in text) in
    let signals = signals_in text in
    let tenses = smaller_tensed old (outputs_in text) (tensed text can.faultless) in
    smaller_told style (compile_simplified_and_move text old new) old new (outputs_in text) rows k o (text_ordered text) at
    (ap (λ (os : List Output). reports style os rows)
    (moved_image_outputs signals outs old new tenses (smaller_reads old signals (outputs_in text) (outputs-read (items_in text))) can.serve can.one_each can.layout can.well_formed)
    ∙ image_tells style signals new outs (image new signals outs) rows tenses (image_of new signals outs))

-- its outputs have their names
names_simple : (outs : List Asked) → map (λ (a : Asked). a.name) (simple_outputs outs) ≡ map (λ (a : Asked). a.name) outs
names_simple [] = refl
names_simple (a ∷ outs) = ap (λ names. a.name ∷ names) (names_simple outs)

pub simple_image_called : (text : List ℕ) (columns : Columns) → output_names (compile_simplified_over text columns) ≡ map (λ (a : Asked). a.name) (outputs_in text)
simple_image_called text columns =
    let outs = smaller_outputs columns (outputs_in text) in
    image_names (signals_in text) columns outs (compile_simplified_over text columns) (image_of columns (signals_in text) outs)
    ∙ smaller_has (λ xs. map (λ (a : Asked). a.name) xs ≡ map (λ (a : Asked). a.name) (outputs_in text)) columns (outputs_in text) (names_simple (outputs_in text)) refl

pub simple_named : (text : List ℕ) (header : Option (List ℕ)) (columns : Columns) (p : Program) → compile_simplified text header ≡ Ok p → columns_by (signals_in text) header ≡ Ok columns
    → output_names p ≡ map (λ (a : Asked). a.name) (outputs_in text)
simple_named text header columns p is found = ap output_names (simple_found text header columns p is found).1 ∙ simple_image_called text columns

-- moved to other columns too
pub moved_simple_called : (text : List ℕ) (old new : Columns) → output_names (compile_simplified_and_move text old new) ≡ map (λ (a : Asked). a.name) (outputs_in text)
moved_simple_called text old new = simple_image_called text old
