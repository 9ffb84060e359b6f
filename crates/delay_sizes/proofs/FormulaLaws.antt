-- The delays of instructions and those of the formulas that they unfold to.
use Rattle.std.proofs.Common.{◌≡◌, ℕ, List, [], ◌∷◌, ◌++◌, zero, suc, map, slice_index, refl, arith, ap, sym, ◌∙◌}
use Rattle.std.proofs.lemmas.List.{map_push}
use Rattle.mltl_base.specs.declared.operators.FtOp.{FtOp}
use Rattle.mltl_base.specs.declared.operators.FtOp.TheVariants.{True, Load, Not, And, Until}
use Rattle.mltl_base.specs.Atoms.{Atom}
use Rattle.mltl_base.specs.Formula.{Core, ctrue, bpd, core_wpd, wpd, plain}
use Rattle.mltl_base.specs.Programs.{op_formula, formulas, formulas_after, core_at}
use Rattle.mltl_base.specs.Queues.{numbered_after, best_of, worst_of, best_delays, worst_delays}

-- a number of each formula that is 0 of `true`: that of a place past the end is 0 too
index-map : (f : Core → ℕ) → f ctrue ≡ 0 → (before : List Core) (g : ℕ) → slice_index (map f before) g ≡ f (core_at before g)
index-map f none [] g = sym none
index-map f none (p ∷ ps) zero = refl
index-map f none (p ∷ ps) (suc g) = index-map f none ps g

best_of_formula : (loaded : List Atom) (before : List Core) (op : FtOp) → best_of (map bpd before) op ≡ bpd (op_formula loaded before op)
unfolding bpd
best_of_formula loaded before (Not g) = index-map bpd refl before g
best_of_formula loaded before (And l r) = omega (arith, index-map bpd refl before l, index-map bpd refl before r)
best_of_formula loaded before (Until l r i) = omega (arith, index-map bpd refl before l, index-map bpd refl before r)
best_of_formula loaded before _ = refl

worst_of_formula : (loaded : List Atom) (before : List Core) (op : FtOp) → worst_of (map core_wpd before) op ≡ core_wpd (op_formula loaded before op)
unfolding wpd plain
worst_of_formula loaded before (Not g) = index-map core_wpd refl before g
worst_of_formula loaded before (And l r) = omega (arith, index-map core_wpd refl before l, index-map core_wpd refl before r)
worst_of_formula loaded before (Until l r i) = omega (arith, index-map core_wpd refl before l, index-map core_wpd refl before r)
worst_of_formula loaded before _ = refl

numbers_of_formulas : (number : List ℕ → FtOp → ℕ) (f : Core → ℕ) (loaded : List Atom) → ((before : List Core) (op : FtOp) → number (map f before) op ≡ f (op_formula loaded before op))
    → (before : List Core) (ops : List FtOp) → numbered_after number (map f before) ops ≡ map f (formulas_after loaded before ops)
unfolding numbered_after formulas_after
numbers_of_formulas number f loaded each before [] = refl
numbers_of_formulas number f loaded each before (op ∷ ops) =
    ap (λ ns. numbered_after number ns ops) (ap (λ n. map f before ++ n ∷ []) (each before op) ∙ sym (map_push f before (op_formula loaded before op)))
    ∙ numbers_of_formulas number f loaded each (before ++ op_formula loaded before op ∷ []) ops

-- the best-case delays of instructions are those of their formulas
pub best_of_formulas : (loaded : List Atom) (ops : List FtOp) → best_delays ops ≡ map bpd (formulas loaded ops)
best_of_formulas loaded ops = numbers_of_formulas best_of bpd loaded (best_of_formula loaded) [] ops

-- and so are the worst-case delays
pub worst_of_formulas : (loaded : List Atom) (ops : List FtOp) → worst_delays ops ≡ map core_wpd (formulas loaded ops)
worst_of_formulas loaded ops = numbers_of_formulas worst_of core_wpd loaded (worst_of_formula loaded) [] ops
