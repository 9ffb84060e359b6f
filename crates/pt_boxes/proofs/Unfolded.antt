-- The formula of a past-time instruction is made of the formulas of its operands.
use Rattle.std.proofs.Common.{◌≡◌, ℕ, zero, suc, ◌+◌, ◌<◌, List, [], ◌∷◌, ◌++◌, length, arith, refl, subst, sym, ap, ap₂, ◌∙◌, length-append}
use Rattle.std.proofs.lemmas.List.{get_or_append_left, get_or_push}
use Rattle.mltl_base.specs.declared.operators.PtOp.{PtOp}
use Rattle.mltl_base.specs.declared.operators.PtOp.TheVariants.{True, Load, Not, And, Since}
use Rattle.mltl_base.specs.Atoms.{Atom}
use Rattle.mltl_base.specs.Formula.{Core, ctrue, cnot, cand, csince}
use Rattle.mltl_base.specs.Programs.{core_at, past_formula_of, past_formulas_after, past_formulas}
use Rattle.pt_boxes.specs.Nodes.{op_at}
use Rattle.obs_verify.specs.Running.{ArePastInOrder, IsAfterPastOperands}

-- the formulas before stay
formulas_keep : (loaded : List Atom) (before : List Core) (ops : List PtOp) (g : ℕ) → g < length before → core_at (past_formulas_after loaded before ops) g ≡ core_at before g
unfolding past_formulas_after
formulas_keep loaded before [] g h = refl
formulas_keep loaded before (op ∷ ops) g h =
    formulas_keep loaded (before ++ past_formula_of loaded before op ∷ []) ops g (omega (arith, length-append before (past_formula_of loaded before op ∷ [])))
    ∙ get_or_append_left before (past_formula_of loaded before op ∷ []) ctrue g h

-- a formula over more formulas is the same where its operands are
formula_same : (loaded : List Atom) (before all : List Core) (i : ℕ) (op : PtOp) → IsAfterPastOperands i op → ((g : ℕ) → g < i → core_at all g ≡ core_at before g) → past_formula_of loaded before op ≡ past_formula_of loaded all op
formula_same loaded before all i True b same = refl
formula_same loaded before all i (Load k) b same = refl
formula_same loaded before all i (Not g) b same = ap (λ (p : Core). cnot p) (sym (same g b))
formula_same loaded before all i (And l r) b same = ap₂ (λ (p q : Core). cand p q) (sym (same l b.0)) (sym (same r b.1))
formula_same loaded before all i (Since l r window) b same = ap₂ (λ (p q : Core). csince window p q) (sym (same l b.0)) (sym (same r b.1))

unfolds_after : (loaded : List Atom) (before : List Core) (ops : List PtOp) → ((i : ℕ) → i < length ops → IsAfterPastOperands (length before + i) (op_at ops i)) → (i : ℕ) → i < length ops
    → core_at (past_formulas_after loaded before ops) (length before + i) ≡ past_formula_of loaded (past_formulas_after loaded before ops) (op_at ops i)
unfolding past_formulas_after
unfolds_after loaded before [] b i h = absurd (omega arith)
unfolds_after loaded before (op ∷ ops) b zero h =
    let more : List Core = before ++ past_formula_of loaded before op ∷ [] in
    let place : length before + 0 ≡ length before = omega arith in
    let size : length more ≡ length before + 1 = length-append before (past_formula_of loaded before op ∷ []) in
    ap (λ (j : ℕ). core_at (past_formulas_after loaded more ops) j) place
    ∙ formulas_keep loaded more ops (length before) (omega arith)
    ∙ get_or_push before (past_formula_of loaded before op) ctrue (length before) refl
    ∙ formula_same loaded before (past_formulas_after loaded more ops) (length before) op (subst (λ (j : ℕ). IsAfterPastOperands j op) place (b 0 h))
    (λ g g_in. formulas_keep loaded more ops g (omega arith) ∙ get_or_append_left before (past_formula_of loaded before op ∷ []) ctrue g g_in)
unfolds_after loaded before (op ∷ ops) b (suc i) h =
    let more : List Core = before ++ past_formula_of loaded before op ∷ [] in
    let size : length more ≡ length before + 1 = length-append before (past_formula_of loaded before op ∷ []) in
    let place : length before + suc i ≡ length more + i = omega arith in
    ap (λ (j : ℕ). core_at (past_formulas_after loaded more ops) j) place
    ∙ unfolds_after loaded more ops (λ j j_in. let there : length before + suc j ≡ length more + j = omega arith in subst (λ (k : ℕ). IsAfterPastOperands k (op_at ops j)) there (b (suc j) (omega arith))) i (omega arith)

-- instruction i unfolds to its operator over what its operands unfold to
pub unfolds_at : (loaded : List Atom) (ops : List PtOp) → ArePastInOrder ops → (i : ℕ) → i < length ops
    → core_at (past_formulas loaded ops) i ≡ past_formula_of loaded (past_formulas loaded ops) (op_at ops i)
unfolds_at loaded ops order i h =
    let place : 0 + i ≡ i = omega arith in
    ap (λ (j : ℕ). core_at (past_formulas loaded ops) j) (sym place)
    ∙ unfolds_after loaded [] ops (λ j j_in. let there : j ≡ 0 + j = omega arith in subst (λ (k : ℕ). IsAfterPastOperands k (op_at ops j)) there (order j j_in)) i h
