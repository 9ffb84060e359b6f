-- Outputs over nodes, and what they ask for.

use Rattle.std.proofs.Common.{◌≡◌, ℕ, Some, None, Option, List, [], ◌∷◌, ◌++◌, map, refl, sym, ap, subst, ◌∙◌}
use Rattle.std.specs.Prelude.{slice_get, All}
use Rattle.std.proofs.lemmas.List.{map-append}
use Rattle.std.proofs.lemmas.List.Elements.{All-nil, All-cons, All-head, All-tail, All-push}
use Rattle.mltl_base.specs.Reports as output
use Rattle.mltl_base.specs.Subformulas.{Asked}
use Rattle.c2po_ast.specs.declared.nodes.Plain.{Plain}
use Rattle.c2po_ast.specs.declared.nodes.PlainOut.{PlainOut}
use Rattle.c2po_ast.specs.declared.nodes.PlainOut.TheVariants as out
use Rattle.c2po_ast.specs.Nodes.{Tree, number, formula, trees, formula_in, IsFormula, Grows}
use Rattle.c2po_ast.specs.Outputs.{asked_by, NamesFormulas}
use Rattle.set_expand.specs.Unfolded.{AskFor}

-- no outputs
pub asks-none : (nodes : List Plain) → AskFor nodes [] []
asks-none nodes = record { formulas = All-nil (NamesFormulas (trees nodes)); asked = refl }

-- a formula stays at its place
stays : (old new : List Plain) (n : ℕ) (found : Option Tree) → Grows old new → slice_get (trees old) n ≡ found → IsFormula found
    → slice_get (trees new) n ≡ found
stays old new n (Some (formula p)) g e h = (g.kept n (formula p) (record { found = e })).found
stays old new n (Some (number a)) g e h = absurd h
stays old new n None g e h = absurd h

kept : (old new : List Plain) (n : ℕ) → Grows old new → IsFormula (slice_get (trees old) n) → slice_get (trees new) n ≡ slice_get (trees old) n
kept old new n g h = stays old new n (slice_get (trees old) n) g refl h

out-kept : (old new : List Plain) (o : PlainOut) → Grows old new → NamesFormulas (trees old) o
    → NamesFormulas (trees new) o × (asked_by (trees new) o ≡ asked_by (trees old) o)
out-kept old new (out.Formula engine n name) g h =
    let e = kept old new n g h in (
      subst IsFormula (sym e) h,
      ap (λ (found : Option Tree). record { engine = engine; name = name; output = output.formula (formula_in found) }) e,
    )
out-kept old new (out.Contract engine n m name) g h =
    let e = kept old new n g h.0 in
    let f = kept old new m g h.1 in (
      (subst IsFormula (sym e) h.0, subst IsFormula (sym f) h.1),
      ap (λ (found : Option Tree). record { engine = engine; name = name; output = output.contract (formula_in found) (formula_in (slice_get (trees new) m)) }) e
          ∙ ap (λ (found : Option Tree). record { engine = engine; name = name; output = output.contract (formula_in (slice_get (trees old) n)) (formula_in found) }) f,
    )

outs-kept : (old new : List Plain) (outs : List PlainOut) → Grows old new → All (NamesFormulas (trees old)) outs
    → All (NamesFormulas (trees new)) outs × (map (asked_by (trees new)) outs ≡ map (asked_by (trees old)) outs)
outs-kept old new [] g h = (All-nil (NamesFormulas (trees new)), refl)
outs-kept old new (o ∷ outs) g h =
    let one = out-kept old new o g (All-head (NamesFormulas (trees old)) o outs h) in
    let rest = outs-kept old new outs g (All-tail (NamesFormulas (trees old)) o outs h) in (
      All-cons (NamesFormulas (trees new)) o outs one.0 rest.0,
      ap (λ (a : Asked). a ∷ map (asked_by (trees new)) outs) one.1 ∙ ap (λ (more : List Asked). asked_by (trees old) o ∷ more) rest.1,
    )

-- more nodes
pub asks-later : (old new : List Plain) (outs : List PlainOut) (told : List Asked) → Grows old new → AskFor old outs told → AskFor new outs told
asks-later old new outs told g h =
    let k = outs-kept old new outs g h.formulas in
    record { formulas = k.0; asked = k.1 ∙ h.asked }

-- one more output
pub asks-push : (nodes : List Plain) (outs : List PlainOut) (told : List Asked) (o : PlainOut) (a : Asked) → AskFor nodes outs told
    → NamesFormulas (trees nodes) o → asked_by (trees nodes) o ≡ a → AskFor nodes (outs ++ o ∷ []) (told ++ a ∷ [])
asks-push nodes outs told o a h names e = record {
  formulas = All-push (NamesFormulas (trees nodes)) outs o h.formulas names;
  asked = map-append (asked_by (trees nodes)) outs (o ∷ [])
      ∙ (ap (λ (more : List Asked). more ++ asked_by (trees nodes) o ∷ []) h.asked ∙ ap (λ (b : Asked). told ++ b ∷ []) e);
}
