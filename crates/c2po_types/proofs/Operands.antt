-- Operands one by one.
use Rattle.std.proofs.Common.{◌≡◌, ℕ, zero, suc, ◌+◌, ◌≤◌, ◌<◌, true, ◌&&◌, List, [], ◌∷◌, ◌++◌, length, drop, get_or, Some, slice_get, option_map, Ok, Err, refl, sym, ap, subst, ◌∙◌, arith, append_assoc, Vec, Global}
use Rattle.std.proofs.Math.ListN.{drop_of_length-le}
use Rattle.std.proofs.Math.Nat.{suc-add}
use Rattle.std.proofs.lemmas.List.{append-nil}
use Rattle.c2po_ast.specs.declared.tree.Expr.{Expr}
use Rattle.c2po_ast.specs.declared.tree.Node.{Node, Build, Group, Number, Truth, Ref, Build', Group', Pick', Minus', Not', Arith', Compare', Logic', Window', Between', Each', Exists', Count'}
use Rattle.c2po_ast.specs.Shape.{shape, node_shape, shapes}
use Rattle.c2po_ast.proofs.Rows.{shape_of-Build, shape_of-Group}
use Rattle.c2po_types.specs.declared.kind.Kind.{Kind}
use Rattle.c2po_types.specs.declared.fault.TypeFault.{TypeFault}
use Rattle.mltl_base.specs.Tables.{Table}
use Rattle.c2po_types.specs.declared.fault.TypeFault.TheVariants.{Memory}
use Rattle.c2po_types.specs.Checking.{Checked, ◌>>=◌, Fails}
use Rattle.c2po_types.proofs.Turns.{drop-first, fails-bind}
use Rattle.c2po_types.specs.Kinds.{Placed, same_kind, fit, known_built, set_of_elements}
use Rattle.c2po_types.specs.Scopes.{Visible, meaning_of}
use Rattle.c2po_types.specs.Expressions.{line_of, kind_of, operand_kinds}

-- no operands fit any fields
pub fit-end : (fs : Table Kind) (ps : List Placed) (n : ℕ) → length ps ≤ n → fit (drop n fs) (drop n ps) ≡ true
fit-end [] [] zero h = refl
fit-end [] [] (suc n) h = refl
fit-end (f ∷ fs) [] zero h = refl
fit-end (f ∷ fs) [] (suc n) h = fit-none (drop n fs)
  where
    fit-none : (gs : Table Kind) → fit gs [] ≡ true
    fit-none [] = refl
    fit-none (g ∷ gs) = refl
fit-end fs (p ∷ ps) zero h = absurd (omega arith)
fit-end [] (p ∷ ps) (suc n) h = refl
fit-end (f ∷ fs) (p ∷ ps) (suc n) h = fit-end fs ps n (omega arith)

-- one operand more
pub fit-step : (fs : Table Kind) (ps : List Placed) (n : ℕ) (k : Kind) (other : Placed) → option_map (λ (f : List ℕ × Kind). f.1) (slice_get fs n) ≡ Some k → n < length ps
    → fit (drop n fs) (drop n ps) ≡ (same_kind (get_or ps n other).1 k && fit (drop (n + 1) fs) (drop (n + 1) ps))
fit-step fs [] n k other h less = absurd (omega arith)
fit-step [] (p ∷ ps) n k other h less = absurd (cc)
fit-step (f ∷ fs) (p ∷ ps) zero k other h less = ap (λ j. same_kind p.1 j && fit fs ps) (cc)
fit-step (f ∷ fs) (p ∷ ps) (suc n) k other h less = rw suc-add (fit-step fs ps n k other h (omega arith))

-- the line of an expression stands in its shape
pub line_of-shape : (e : Expr) → line_of (shape e) ≡ e.line
line_of-shape e = at e.line e.node
  where
    at : (line : ℕ) (node : Node) → line_of (node_shape line node) ≡ line
    at line (Number n) = refl
    at line (Truth b) = refl
    at line (Ref x) = refl
    at line (Build' x _ es) = refl
    at line (Group' _ es) = refl
    at line (Pick' _ l e x) = refl
    at line (Minus' _ l e) = refl
    at line (Not' _ l e) = refl
    at line (Arith' op _ l e _ m f) = refl
    at line (Compare' op _ l e _ m f) = refl
    at line (Logic' op _ l e _ m f) = refl
    at line (Window' op a b _ l e) = refl
    at line (Between' op a b _ l e _ m f) = refl
    at line (Each' x _ l s _ m e) = refl
    at line (Exists' x _ l s _ m e) = refl
    at line (Count' op x _ l s n _ m e) = refl

-- operands before the others
abbrev pub ahead : List Placed → Checked (List Placed) → Checked (List Placed)
ahead ps (Ok qs) = Ok (ps ++ qs)
ahead ps (Err fault) = Err fault

ahead-more : (ps : List Placed) (p : Placed) (m : Checked (List Placed)) → ahead ps (m >>= λ qs. Ok (p ∷ qs)) ≡ ahead (ps ++ p ∷ []) m
ahead-more ps p (Ok qs) = ap Ok (sym (append_assoc ps (p ∷ []) qs))
ahead-more ps p (Err fault) = refl

-- one operand more
pub kinds-more : (es : List Expr) (n : ℕ) (seen : Visible) (ps : List Placed) (e : Expr) (k : Kind) → n < length es → e ≡ get_or es n e → kind_of (shape e) seen ≡ Ok k
    → ahead ps (operand_kinds (shapes (drop n es)) seen) ≡ ahead (ps ++ (e.line, k) ∷ []) (operand_kinds (shapes (drop (n + 1) es)) seen)
kinds-more es n seen ps e k less here h =
    ap (λ rest. ahead ps (operand_kinds (shapes rest) seen)) (drop-first es n e less here)
    ∙ ap (λ r. ahead ps (r >>= λ j. operand_kinds (shapes (drop (n + 1) es)) seen >>= λ qs. Ok ((line_of (shape e), j) ∷ qs))) h
    ∙ ap (λ line. ahead ps (operand_kinds (shapes (drop (n + 1) es)) seen >>= λ qs. Ok ((line, k) ∷ qs))) (line_of-shape e)
    ∙ ahead-more ps (e.line, k) (operand_kinds (shapes (drop (n + 1) es)) seen)

-- an operand with a fault
pub kinds-fail : (es : List Expr) (n : ℕ) (seen : Visible) (ps : List Placed) (e : Expr) (fault : TypeFault) → n < length es → e ≡ get_or es n e → Fails fault (kind_of (shape e) seen)
    → Fails fault (ahead ps (operand_kinds (shapes (drop n es)) seen))
kinds-fail es n seen ps e fault less here h = subst (λ rest. Fails fault (ahead ps (operand_kinds (shapes rest) seen))) (sym (drop-first es n e less here))
    (fails-ahead fault ps _ (fails-bind fault (kind_of (shape e) seen) (λ j. operand_kinds (shapes (drop (n + 1) es)) seen >>= λ qs. Ok ((line_of (shape e), j) ∷ qs)) h))
  where
    fails-ahead : (fault : TypeFault) (ps : List Placed) (m : Checked (List Placed)) → Fails fault m → Fails fault (ahead ps m)
    fails-ahead Memory ps m h = tt
    fails-ahead fault ps m h = ap (ahead ps) h

-- braces and calls hold operands
module _ (e : Expr) (es : Vec Expr Global) (inner : List Expr) (seen : Visible) (same : inner ≡ es.items) where
  pub build-fails : (x : List ℕ) (fault : TypeFault) → e.node ≡ Build x es → Fails fault (operand_kinds (shapes inner) seen) → Fails fault (kind_of (shape e) seen)
  build-fails x fault node h = subst (λ s. Fails fault (kind_of s seen)) (sym (shape_of-Build e x es node))
      (fails-bind fault (operand_kinds (shapes es.items) seen) _ (subst (λ fs. Fails fault (operand_kinds (shapes fs) seen)) same h))

  pub group-fails : (fault : TypeFault) → e.node ≡ Group es → Fails fault (operand_kinds (shapes inner) seen) → Fails fault (kind_of (shape e) seen)
  group-fails fault node h = subst (λ s. Fails fault (kind_of s seen)) (sym (shape_of-Group e es node))
      (fails-bind fault (operand_kinds (shapes es.items) seen) _ (subst (λ fs. Fails fault (operand_kinds (shapes fs) seen)) same h))

  pub build-kind : (x : List ℕ) (ps qs : List Placed) → e.node ≡ Build x es → operand_kinds (shapes inner) seen ≡ Ok qs
      → ps ≡ qs → known_built e.line seen.declared ps (meaning_of x seen) ≡ kind_of (shape e) seen
  build-kind x ps qs node h p =
      ap (λ y. known_built e.line seen.declared y (meaning_of x seen)) p
      ∙ sym (ap (λ s. kind_of s seen) (shape_of-Build e x es node)
      ∙ ap (λ r. r >>= λ ps. known_built e.line seen.declared ps (meaning_of x seen)) (ap (λ fs. operand_kinds (shapes fs) seen) (sym same) ∙ h))

  pub group-kind : (ps qs : List Placed) → e.node ≡ Group es → operand_kinds (shapes inner) seen ≡ Ok qs → ps ≡ qs → set_of_elements e.line ps ≡ kind_of (shape e) seen
  group-kind ps qs node h p =
      ap (set_of_elements e.line) p ∙ sym (ap (λ s. kind_of s seen) (shape_of-Group e es node)
      ∙ ap (λ r. r >>= set_of_elements e.line) (ap (λ fs. operand_kinds (shapes fs) seen) (sym same) ∙ h))
