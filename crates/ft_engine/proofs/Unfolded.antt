-- The formula of an instruction is made of the formulas of its operands.
use Rattle.std.specs.Prelude.{⊤}
use Rattle.std.proofs.Common.{◌≡◌, ℕ, zero, suc, ◌+◌, ◌<◌, List, [], ◌∷◌, ◌++◌, length, arith, refl, subst, sym, ap, ap₂, ◌∙◌, length-append}
use Rattle.std.proofs.lemmas.List.{get_or_append_left, get_or_push}
use Rattle.mltl_base.specs.declared.operators.FtOp.{FtOp}
use Rattle.mltl_base.specs.declared.operators.FtOp.TheVariants.{True, Load, Not, And, Until}
use Rattle.mltl_base.specs.Atoms.{Atom}
use Rattle.mltl_base.specs.Formula.{Core, ctrue, cnot, cand, cuntil}
use Rattle.mltl_base.specs.Programs.{core_at, op_formula, formulas_after, formulas}
use Rattle.ft_engine.specs.Queues.{op_at}
use Rattle.ft_engine.specs.Plans.{Plan, IsSeated}

-- operands stand before index i
abbrev pub IsBefore : ℕ → FtOp → Type 0
IsBefore i True = ⊤
IsBefore i (Load k) = ⊤
IsBefore i (Not g) = g < i
IsBefore i (And l r) = (l < i) × (r < i)
IsBefore i (Until l r window) = (l < i) × (r < i)

pub seated_before : (plan : Plan) (i : ℕ) (op : FtOp) → IsSeated plan i op → IsBefore i op
seated_before plan i (Not g) s = s.0
seated_before plan i (And l r) s = (s.0, s.1)
seated_before plan i (Until l r window) s = (s.0, s.1)
seated_before plan i _ s = tt

-- the formulas before stay
formulas_keep : (loaded : List Atom) (before : List Core) (ops : List FtOp) (g : ℕ) → g < length before → core_at (formulas_after loaded before ops) g ≡ core_at before g
unfolding formulas_after
formulas_keep loaded before [] g h = refl
formulas_keep loaded before (op ∷ ops) g h =
    formulas_keep loaded (before ++ op_formula loaded before op ∷ []) ops g (omega (arith, length-append before (op_formula loaded before op ∷ [])))
    ∙ get_or_append_left before (op_formula loaded before op ∷ []) ctrue g h

-- a formula over more formulas is the same where its operands are
formula_same : (loaded : List Atom) (before all : List Core) (i : ℕ) (op : FtOp) → IsBefore i op → ((g : ℕ) → g < i → core_at all g ≡ core_at before g) → op_formula loaded before op ≡ op_formula loaded all op
formula_same loaded before all i (Not g) b same = ap (λ (p : Core). cnot p) (sym (same g b))
formula_same loaded before all i (And l r) b same = ap₂ (λ (p q : Core). cand p q) (sym (same l b.0)) (sym (same r b.1))
formula_same loaded before all i (Until l r window) b same = ap₂ (λ (p q : Core). cuntil window p q) (sym (same l b.0)) (sym (same r b.1))
formula_same loaded before all i _ b same = refl

unfolds_after : (loaded : List Atom) (before : List Core) (ops : List FtOp) → ((i : ℕ) → i < length ops → IsBefore (length before + i) (op_at ops i)) → (i : ℕ) → i < length ops
    → core_at (formulas_after loaded before ops) (length before + i) ≡ op_formula loaded (formulas_after loaded before ops) (op_at ops i)
unfolding formulas_after
unfolds_after loaded before [] b i h = absurd (omega arith)
unfolds_after loaded before (op ∷ ops) b zero h =
    let more : List Core = before ++ op_formula loaded before op ∷ [] in
    let reads_at : length before + 0 ≡ length before = omega arith in
    let size : length more ≡ length before + 1 = length-append before (op_formula loaded before op ∷ []) in
    ap (λ (j : ℕ). core_at (formulas_after loaded more ops) j) reads_at
    ∙ formulas_keep loaded more ops (length before) (omega arith)
    ∙ get_or_push before (op_formula loaded before op) ctrue (length before) refl
    ∙ formula_same loaded before (formulas_after loaded more ops) (length before) op (subst (λ (j : ℕ). IsBefore j op) reads_at (b 0 h))
    (λ g g_in. formulas_keep loaded more ops g (omega arith) ∙ get_or_append_left before (op_formula loaded before op ∷ []) ctrue g g_in)
unfolds_after loaded before (op ∷ ops) b (suc i) h =
    let more : List Core = before ++ op_formula loaded before op ∷ [] in
    let size : length more ≡ length before + 1 = length-append before (op_formula loaded before op ∷ []) in
    let reads_at : length before + suc i ≡ length more + i = omega arith in
    ap (λ (j : ℕ). core_at (formulas_after loaded more ops) j) reads_at
    ∙ unfolds_after loaded more ops (λ j j_in. let there : length before + suc j ≡ length more + j = omega arith in subst (λ (k : ℕ). IsBefore k (op_at ops j)) there (b (suc j) (omega arith))) i (omega arith)

-- instruction i unfolds to its operator over what its operands unfold to
pub unfolds_at : (loaded : List Atom) (ops : List FtOp) → ((i : ℕ) → i < length ops → IsBefore i (op_at ops i)) → (i : ℕ) → i < length ops
    → core_at (formulas loaded ops) i ≡ op_formula loaded (formulas loaded ops) (op_at ops i)
unfolds_at loaded ops b i h =
    let reads_at : 0 + i ≡ i = omega arith in
    ap (λ (j : ℕ). core_at (formulas loaded ops) j) (sym reads_at)
    ∙ unfolds_after loaded [] ops (λ j j_in. let there : j ≡ 0 + j = omega arith in subst (λ (k : ℕ). IsBefore k (op_at ops j)) there (b j j_in)) i h
