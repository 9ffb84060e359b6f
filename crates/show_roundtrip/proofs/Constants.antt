-- The constants of a program that is the image of natural outputs are numbers of the language.

use Rattle.std.specs.Prelude.{⊤}
use Rattle.std.proofs.Common.{ℕ, Bool, true, false, List, [], ◌∷◌, ◌++◌, map, fold, All, if◌then◌else◌}
use Rattle.std.proofs.lemmas.List.Elements.{All-map, All-weaker}
use Rattle.mltl_base.specs.declared.program.Columns.{Columns}
use Rattle.mltl_base.specs.Atoms.{Term, column, constant, negative, plus, minus, times, quotient, remainder, Atom, is_true, equal, less, at_most, different, greater, at_least, term_over, atom_over}
use Rattle.mltl_base.specs.Formula.{Formula, truth, falsity, atom, negation, conjunction, disjunction, implication, equivalence, finally, globally, until, release, once, historically, since, Core, ctrue, catom, cnot, cand, cuntil, csince, neg, core_atom, core, formula_over}
use Rattle.mltl_base.specs.Programs as programs
use Rattle.mltl_base.specs.Programs.{Expression, whole}
use Rattle.mltl_base.specs.Reports.{Output, formula, contract}
use Rattle.mltl_base.specs.Subformulas.{same_expression, listed, add_new, add_terms, add_operands, add_expressions, Asked, cores_of_output, formulas_of, all_cores, bz_expressions, bz_instruction, bz_list}
use Rattle.mltl_base.proofs.Unfolding.{Each, each_from_all, all_push}
use Rattle.mltl_base.proofs.Members.{all_from_each, each_append}
use Rattle.c2po_ast.specs.Outputs.{asked_over, output_over}
use Rattle.mltl_simplify.specs.Outputs.{simple_asked, simple_outputs}
use Rattle.mltl_simplify.specs.Simplify.{simp}
use Rattle.mltl_simplify.proofs.Ending.{kept_by}
use Rattle.mltl_simplify.proofs.Forms.{simp_each_atom}
use Rattle.c2po_compile.specs.Simplified.{are_smaller, smaller_outputs}
use Rattle.c2po_compile.specs.Image.{over_columns}
use Rattle.show_roundtrip.specs.Named.{HaveNoNegatives}
use Rattle.show_roundtrip.proofs.Naturals.{TermNatural, AtomNatural, Natural, IsNaturalOutput}

-- ---- core forms

abbrev CoreNatural : Core → Type 0
CoreNatural ctrue = ⊤
CoreNatural (catom a) = AtomNatural a
CoreNatural (cnot p) = CoreNatural p
CoreNatural (cand p q) = CoreNatural p × CoreNatural q
CoreNatural (cuntil i p q) = CoreNatural p × CoreNatural q
CoreNatural (csince i p q) = CoreNatural p × CoreNatural q

neg_natural : (p : Core) → CoreNatural p → CoreNatural (neg p)
unfolding neg
neg_natural ctrue h = tt
neg_natural _ h = h

atom_natural : (a : Atom) → AtomNatural a → CoreNatural (core_atom a)
atom_natural (is_true c) h = tt
atom_natural (greater a b) h = (h.1, h.0)
atom_natural (at_least a b) h = (h.1, h.0)
atom_natural _ h = h

core_natural : (p : Formula) → Natural p → CoreNatural (core p)
unfolding core
core_natural truth h = tt
core_natural falsity h = tt
core_natural (atom a) h = atom_natural a h
core_natural (negation p) h = neg_natural (core p) (core_natural p h)
core_natural (conjunction p q) h = (core_natural p h.0, core_natural q h.1)
core_natural (disjunction p q) h = neg_natural (cand (neg (core p)) (neg (core q))) (neg_natural (core p) (core_natural p h.0), neg_natural (core q) (core_natural q h.1))
core_natural (implication p q) h = neg_natural (cand (core p) (neg (core q))) (core_natural p h.0, neg_natural (core q) (core_natural q h.1))
core_natural (equivalence p q) h = (
  neg_natural (cand (core p) (neg (core q))) (core_natural p h.0, neg_natural (core q) (core_natural q h.1)),
  neg_natural (cand (core q) (neg (core p))) (core_natural q h.1, neg_natural (core p) (core_natural p h.0)),
)
core_natural (finally i p) h = (tt, core_natural p h)
core_natural (globally i p) h = neg_natural (cuntil i ctrue (neg (core p))) (tt, neg_natural (core p) (core_natural p h))
core_natural (until i p q) h = (core_natural p h.0, core_natural q h.1)
core_natural (release i p q) h = neg_natural (cuntil i (neg (core p)) (neg (core q))) (neg_natural (core p) (core_natural p h.0), neg_natural (core q) (core_natural q h.1))
core_natural (once i p) h = (tt, core_natural p h)
core_natural (historically i p) h = neg_natural (csince i ctrue (neg (core p))) (tt, neg_natural (core p) (core_natural p h))
core_natural (since i p q) h = (core_natural p h.0, core_natural q h.1)

-- ---- expressions

abbrev ExpressionNatural : Expression → Type 0
ExpressionNatural (whole a) = TermNatural a
ExpressionNatural (programs.truth a) = AtomNatural a

abbrev AreNatural : List Expression → Type 0
AreNatural es = Each ExpressionNatural es

new_natural : (e : Expression) (es : List Expression) → ExpressionNatural e → AreNatural es → AreNatural (add_new same_expression e es)
new_natural e es h g = go (listed same_expression e es)
  where
    go : (b : Bool) → AreNatural (if b then es else es ++ e ∷ [])
    go true = g
    go false = all_push ExpressionNatural es e g h

terms_natural : (a : Term) (es : List Expression) → TermNatural a → AreNatural es → AreNatural (add_terms a es)
unfolding add_terms
terms_natural (column c) es h g = new_natural (whole (column c)) es h g
terms_natural (constant n) es h g = new_natural (whole (constant n)) es h g
terms_natural (negative a) es h g = new_natural (whole (negative a)) _ h (terms_natural a es h g)
terms_natural (plus a b) es h g = new_natural (whole (plus a b)) _ h (terms_natural b _ h.1 (terms_natural a es h.0 g))
terms_natural (minus a b) es h g = new_natural (whole (minus a b)) _ h (terms_natural b _ h.1 (terms_natural a es h.0 g))
terms_natural (times a b) es h g = new_natural (whole (times a b)) _ h (terms_natural b _ h.1 (terms_natural a es h.0 g))
terms_natural (quotient a b) es h g = new_natural (whole (quotient a b)) _ h (terms_natural b _ h.1 (terms_natural a es h.0 g))
terms_natural (remainder a b) es h g = new_natural (whole (remainder a b)) _ h (terms_natural b _ h.1 (terms_natural a es h.0 g))

operands_natural : (a : Atom) (es : List Expression) → AtomNatural a → AreNatural es → AreNatural (add_operands a es)
operands_natural (is_true c) es h g = g
operands_natural _ es h g = terms_natural _ _ h.1 (terms_natural _ es h.0 g)

expressions_natural : (p : Core) (es : List Expression) → CoreNatural p → AreNatural es → AreNatural (add_expressions p es)
unfolding add_expressions
expressions_natural ctrue es h g = g
expressions_natural (catom a) es h g = new_natural (programs.truth a) _ h (operands_natural a es h g)
expressions_natural (cnot p) es h g = expressions_natural p es h g
expressions_natural (cand p q) es h g = expressions_natural q _ h.1 (expressions_natural p es h.0 g)
expressions_natural (cuntil i p q) es h g = expressions_natural q _ h.1 (expressions_natural p es h.0 g)
expressions_natural (csince i p q) es h g = expressions_natural q _ h.1 (expressions_natural p es h.0 g)

fold_natural : (cs : List Core) (es : List Expression) → Each CoreNatural cs → AreNatural es → AreNatural (fold (λ ds p. add_expressions p ds) es cs)
fold_natural [] es h g = g
fold_natural (c ∷ cs) es h g = fold_natural cs (add_expressions c es) h.1 (expressions_natural c es h.0 g)

output_cores : (o : Output) → Each Natural (formulas_of o) → Each CoreNatural (cores_of_output o)
output_cores (formula p) h = (core_natural p h.0, tt)
output_cores (contract p q) h = (core_natural p h.0, (core_natural q h.1.0, tt))

cores_natural : (outs : List Asked) → Each IsNaturalOutput outs → Each CoreNatural (all_cores outs)
cores_natural [] h = tt
cores_natural (a ∷ outs) h = each_append CoreNatural (cores_of_output a.output) (all_cores outs) (output_cores a.output (each_from_all Natural (formulas_of a.output) h.0)) (cores_natural outs h.1)

instructions_counted : (all es : List Expression) → AreNatural es → HaveNoNegatives (map (bz_instruction all) es)
instructions_counted all [] h = tt
instructions_counted all (whole (constant n) ∷ es) h = (h.0, instructions_counted all es h.1)
instructions_counted all (programs.truth (is_true c) ∷ es) h = (tt, instructions_counted all es h.1)
instructions_counted all (e ∷ es) h = (tt, instructions_counted all es h.1)

-- ---- columns

term_natural_over : (columns : List ℕ) (a : Term) → TermNatural a → TermNatural (term_over columns a)
unfolding term_over
term_natural_over columns (column s) h = tt
term_natural_over columns (constant n) h = h
term_natural_over columns (negative a) h = term_natural_over columns a h
term_natural_over columns (plus a b) h = (term_natural_over columns a h.0, term_natural_over columns b h.1)
term_natural_over columns (minus a b) h = (term_natural_over columns a h.0, term_natural_over columns b h.1)
term_natural_over columns (times a b) h = (term_natural_over columns a h.0, term_natural_over columns b h.1)
term_natural_over columns (quotient a b) h = (term_natural_over columns a h.0, term_natural_over columns b h.1)
term_natural_over columns (remainder a b) h = (term_natural_over columns a h.0, term_natural_over columns b h.1)

atom_natural_over : (columns : List ℕ) (a : Atom) → AtomNatural a → AtomNatural (atom_over columns a)
unfolding atom_over
atom_natural_over columns (is_true s) h = tt
atom_natural_over columns (equal a b) h = (term_natural_over columns a h.0, term_natural_over columns b h.1)
atom_natural_over columns (less a b) h = (term_natural_over columns a h.0, term_natural_over columns b h.1)
atom_natural_over columns (at_most a b) h = (term_natural_over columns a h.0, term_natural_over columns b h.1)
atom_natural_over columns (different a b) h = (term_natural_over columns a h.0, term_natural_over columns b h.1)
atom_natural_over columns (greater a b) h = (term_natural_over columns a h.0, term_natural_over columns b h.1)
atom_natural_over columns (at_least a b) h = (term_natural_over columns a h.0, term_natural_over columns b h.1)

natural_over : (columns : List ℕ) (p : Formula) → Natural p → Natural (formula_over columns p)
unfolding formula_over
natural_over columns truth h = tt
natural_over columns falsity h = tt
natural_over columns (atom a) h = atom_natural_over columns a h
natural_over columns (negation p) h = natural_over columns p h
natural_over columns (conjunction p q) h = (natural_over columns p h.0, natural_over columns q h.1)
natural_over columns (disjunction p q) h = (natural_over columns p h.0, natural_over columns q h.1)
natural_over columns (implication p q) h = (natural_over columns p h.0, natural_over columns q h.1)
natural_over columns (equivalence p q) h = (natural_over columns p h.0, natural_over columns q h.1)
natural_over columns (finally i p) h = natural_over columns p h
natural_over columns (globally i p) h = natural_over columns p h
natural_over columns (until i p q) h = (natural_over columns p h.0, natural_over columns q h.1)
natural_over columns (release i p q) h = (natural_over columns p h.0, natural_over columns q h.1)
natural_over columns (once i p) h = natural_over columns p h
natural_over columns (historically i p) h = natural_over columns p h
natural_over columns (since i p q) h = (natural_over columns p h.0, natural_over columns q h.1)

output_natural_over : (columns : List ℕ) (o : Output) → Each Natural (formulas_of o) → Each Natural (formulas_of (output_over columns o))
output_natural_over columns (formula p) h = (natural_over columns p h.0, tt)
output_natural_over columns (contract p q) h = (natural_over columns p h.0, (natural_over columns q h.1.0, tt))

each_natural_over : (columns : List ℕ) (outs : List Asked) → Each IsNaturalOutput outs → Each IsNaturalOutput (map (asked_over columns) outs)
each_natural_over columns [] h = tt
each_natural_over columns (a ∷ outs) h =
    (all_from_each Natural (formulas_of (output_over columns a.output)) (output_natural_over columns a.output (each_from_all Natural (formulas_of a.output) h.0)), each_natural_over columns outs h.1)

-- ---- simplified forms

simp_natural : (p : Formula) → Natural p → Natural (simp p)
simp_natural = simp_each_atom AtomNatural

pub simple_natural : (outs : List Asked) → All IsNaturalOutput outs → All IsNaturalOutput (simple_outputs outs)
simple_natural outs h = All-map IsNaturalOutput simple_asked outs (All-weaker IsNaturalOutput (λ a. IsNaturalOutput (simple_asked a)) (λ a k. kept_by Natural simp_natural a.output k) outs h)

smaller_natural : (columns : Columns) (outs : List Asked) → All IsNaturalOutput outs → All IsNaturalOutput (smaller_outputs columns outs)
unfolding smaller_outputs
smaller_natural columns outs h = go (are_smaller (over_columns columns (simple_outputs outs)) (over_columns columns outs))
  where
    go : (b : Bool) → All IsNaturalOutput (if b then simple_outputs outs else outs)
    go true = simple_natural outs h
    go false = h

-- ---- programs

pub image_counted : (columns : Columns) (outs : List Asked) → All IsNaturalOutput outs → HaveNoNegatives (bz_list (over_columns columns outs))
image_counted columns outs h =
    let over : Each IsNaturalOutput (over_columns columns outs) = each_natural_over columns.of_signal outs (each_from_all IsNaturalOutput outs h) in
    let es : List Expression = bz_expressions (over_columns columns outs) in
    instructions_counted es es (fold_natural (all_cores (over_columns columns outs)) [] (cores_natural (over_columns columns outs) over) tt)

pub simple_counted : (columns : Columns) (outs : List Asked) → All IsNaturalOutput outs → HaveNoNegatives (bz_list (over_columns columns (smaller_outputs columns outs)))
simple_counted columns outs h = image_counted columns (smaller_outputs columns outs) (smaller_natural columns outs h)
