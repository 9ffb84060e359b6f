-- What each node becomes, given what the nodes before it became.

use Rattle.std.proofs.Common.{◌≡◌, ℕ, ℤ, ◌+◌, ◌<◌, Bool, true, false, Option, Some, None, List, [], ◌∷◌, ◌++◌, length, take, get_or, slice_get, refl, sym, subst, ap, ap₂, ◌∙◌, arith, inl, inr}
use Rattle.std.specs.Prelude.{Result, Ok, Err, IfOk, OnOk}
use Rattle.std.proofs.lemmas.List.{length_push}
use Rattle.std.proofs.Math.Seq.{take-length}
use Rattle.std.proofs.lemmas.Option.{slice_get-get_or}
use Rattle.std.proofs.lemmas.Result.{IfOk-weaker}
use Rattle.mltl_base.specs.declared.interval.Interval.{Interval}
use Rattle.mltl_base.specs.declared.operators.ArithOp as arith_op
use Rattle.mltl_base.specs.declared.operators.CompareOp as compare
use Rattle.mltl_base.specs.declared.operators.LogicOp as logic
use Rattle.mltl_base.specs.declared.operators.WindowOp as window
use Rattle.mltl_base.specs.declared.operators.BetweenOp as between
use Rattle.mltl_base.specs.Atoms.{Term, is_true}
use Rattle.mltl_base.specs.Formula as plain
use Rattle.c2po_ast.specs.declared.nodes.Plain.{Plain}
use Rattle.c2po_ast.specs.declared.nodes.Plain.TheVariants as node
use Rattle.c2po_ast.specs.Faults.{formula_fault}
use Rattle.c2po_ast.specs.Nodes.{Tree, number, formula, node_term, node_formula, tree_of, trees, arithmetic, comparison, connected, windowed, ranged, constant_formula, Has, Grows, IsNumber, IsFormula, IsFormed, AreSound}
use Rattle.c2po_ast.proofs.NoFaults.{neither}
use Rattle.c2po_ast.proofs.Places.{at_push}
use Rattle.c2po_ast.proofs.Pushing.{has_new, grows_append, sound_push, number_at, is_number, formula_in_place, is_formula}
use Rattle.mltl_simplify.specs.declared.proxies.Proxy.{Proxy}
use Rattle.mltl_simplify.specs.Numbers.{compared_numbers}
use Rattle.mltl_simplify.specs.Nodes as simplified
use Rattle.mltl_simplify.specs.Nodes.{AreFormed, ProxiesAreNumbered, AreSimplified, IsNumbered, IsPlaced, IsSimplified, Places, AddsNodes, simple_between, simple_logic, simple_window}
use Rattle.mltl_simplify.specs.Simplify.{has_signal, of_truth, simp}
use Rattle.mltl_simplify.proofs.Reading.{formula_below, formula_operand, has_place, head, node_has, number_below, number_operand}
use Rattle.mltl_simplify.proofs.Putting.{put}
use Rattle.mltl_simplify.proofs.Numbering.{IsKnown, by_found, compared_simple, computed_known, constant_is, constant_known, negated_known}

-- ---- proxies of operands

record HasPart (proxies : List Proxy) (a : ℕ) : Type 0 where
  the : Proxy
  is : slice_get proxies a ≡ Some the

has_part : (proxies : List Proxy) (a : ℕ) → a < length proxies → HasPart proxies a
has_part proxies a l = let d : Proxy = record { place = 0; number = None } in record { the = get_or proxies a d; is = slice_get-get_or proxies a d l }

-- the number of an operand, and of a node, is known
pub known_operand : (nodes : List Plain) (proxies : List Proxy) (i a : ℕ) → length proxies ≡ i → i < length nodes → ProxiesAreNumbered nodes proxies → IsNumber (slice_get (trees (take i nodes)) a) →
    IsKnown (simplified.known_number proxies a) (node_term (trees (take i nodes)) a)
known_operand nodes proxies i a each l numbered h =
    let below : a < i = number_below nodes i a l h in
    let proxy = has_part proxies a (omega arith) in
    subst (λ x. IsKnown x (node_term (trees (take i nodes)) a)) (sym (ap simplified.proxy_number proxy.is)) (numbered.known a proxy.the _ proxy.is (number_operand nodes i a h))

pub numbered_as : (found : Option ℤ) (a : Term) (tree : Tree) → number a ≡ tree → IsKnown found a → IsNumbered found tree
numbered_as found a tree e h = subst (λ t. IsNumbered found t) e h

-- of another node nothing is asked
numbered_none : (ts : List Tree) (n : Plain) → ((k : ℤ) → n ≡ node.Number k → ⊥) → ((a : ℕ) → n ≡ node.Minus a → ⊥) → ((op : arith_op.ArithOp) (a b : ℕ) → n ≡ node.Arith op a b → ⊥) →
    IsNumbered None (tree_of ts n)
numbered_none ts (node.Number k) x y z = absurd (x k refl)
numbered_none ts (node.Minus a) x y z = absurd (y a refl)
numbered_none ts (node.Arith op a b) x y z = absurd (z op a b refl)
numbered_none ts (node.Signal s) x y z = Rattle.mltl_simplify.proofs.Numbering.column_known s
numbered_none ts _ x y z = tt

pub other_numbered : (ts : List Tree) (n : Plain) (tree : Tree) → tree_of ts n ≡ tree → ((k : ℤ) → n ≡ node.Number k → ⊥) → ((a : ℕ) → n ≡ node.Minus a → ⊥) →
    ((op : arith_op.ArithOp) (a b : ℕ) → n ≡ node.Arith op a b → ⊥) → IsNumbered None tree
other_numbered ts n tree e x y z = subst (λ t. IsNumbered None t) e (numbered_none ts n x y z)

-- the node that stands for an operand
module _ (nodes simple : List Plain) (proxies : List Proxy) (i : ℕ) (l : i < length nodes) (before : AreSimplified nodes i simple proxies) where
  pub formula_there : (a : ℕ) → IsFormula (slice_get (trees (take i nodes)) a) → IsSimplified simple (simplified.place_at proxies a) (node_formula (trees (take i nodes)) a)
  formula_there a h =
      let below : a < i = formula_below nodes i a l h in
      let proxy = has_part proxies a (omega (arith, before.each)) in
      subst (λ n. IsSimplified simple n (node_formula (trees (take i nodes)) a)) (sym (ap simplified.place_in proxy.is)) (before.placed a proxy.the _ proxy.is (formula_operand nodes i a h))

  pub number_there : (a : ℕ) → IsNumber (slice_get (trees (take i nodes)) a) → Has simple (simplified.place_at proxies a) (number (node_term (trees (take i nodes)) a))
  number_there a h =
      let below : a < i = number_below nodes i a l h in
      let proxy = has_part proxies a (omega (arith, before.each)) in
      subst (λ n. Has simple n (number (node_term (trees (take i nodes)) a))) (sym (ap simplified.place_in proxy.is)) (before.placed a proxy.the _ proxy.is (number_operand nodes i a h))

-- ---- one more node

-- a node that is put after the others is placed
pub place_put : {E : Type 0} (result : Result ℕ E) (nodes old new : List Plain) (n : Plain) (tree : Tree) → OnOk result (new ≡ old ++ n ∷ []) → IfOk result (λ k. k ≡ length old) →
    ((k : ℕ) → Has new k (tree_of (trees old) n) → IsPlaced new k tree) → ((signals : ℕ) → AreSound signals nodes → IsFormed signals (trees old) n) → IfOk result (λ k. Places nodes old new k tree)
place_put (Err e) nodes old new n tree pushed place placed formed = tt
place_put (Ok k) nodes old new n tree pushed place placed formed = record {
  placed = placed k (subst (λ m. Has new m (tree_of (trees old) n)) (sym place) (subst (λ ns. Has ns (length old) (tree_of (trees old) n)) (sym pushed) (has_new old n)));
  grows = subst (λ ns. Grows old ns) (sym pushed) (grows_append old (n ∷ []));
  sound = λ signals s t. subst (λ ns. AreSound signals ns) (sym pushed) (sound_push signals old n t (formed signals s));
}

-- a formula that is put, or found, is placed
pub place_formula : (nodes old new : List Plain) (n : ℕ) (p q : plain.Formula) → AddsNodes old new n q → (formula_fault p ≡ None → q ≡ simp p) → Places nodes old new n (formula p)
place_formula nodes old new n p q put same = record {
  placed = record { the = q; has = put.has; simple = same };
  grows = put.grows;
  sound = λ signals s t. put.sound signals t;
}

constant_simple : (v : Bool) → constant_formula v ≡ simp (constant_formula v)
unfolding simp
constant_simple true = refl
constant_simple false = refl

pub truth_placed : (new : List Plain) (k : ℕ) (v : Bool) → Has new k (formula (constant_formula v)) → IsPlaced new k (formula (constant_formula v))
truth_placed new k v h = record { the = constant_formula v; has = h; simple = λ none. constant_simple v }

pub flag_placed : (new : List Plain) (k s : ℕ) → Has new k (formula (plain.atom (is_true s))) → IsPlaced new k (formula (plain.atom (is_true s)))
unfolding simp has_signal
flag_placed new k s h = record { the = plain.atom (is_true s); has = h; simple = λ none. refl }

-- a node without operands stays
pub record IsLeaf (n : Plain) : Type 0 where
  pub no_minus : (a : ℕ) → n ≡ node.Minus a → ⊥
  pub no_arith : (op : arith_op.ArithOp) (a b : ℕ) → n ≡ node.Arith op a b → ⊥
  pub no_compare : (op : compare.CompareOp) (a b : ℕ) → n ≡ node.Compare op a b → ⊥
  pub no_not : (a : ℕ) → n ≡ node.Not a → ⊥
  pub no_logic : (op : logic.LogicOp) (a b : ℕ) → n ≡ node.Logic op a b → ⊥
  pub no_window : (op : window.WindowOp) (i : Interval) (a : ℕ) → n ≡ node.Window op i a → ⊥
  pub no_between : (op : between.BetweenOp) (i : Interval) (a b : ℕ) → n ≡ node.Between op i a b → ⊥

leaf_placed : (ts us : List Tree) (new : List Plain) (k : ℕ) (n : Plain) → IsLeaf n → Has new k (tree_of us n) → IsPlaced new k (tree_of ts n)
leaf_placed ts us new k (node.Truth v) l h = truth_placed new k v h
leaf_placed ts us new k (node.Flag s) l h = flag_placed new k s h
leaf_placed ts us new k (node.Minus a) l h = absurd (l.no_minus a refl)
leaf_placed ts us new k (node.Arith op a b) l h = absurd (l.no_arith op a b refl)
leaf_placed ts us new k (node.Compare op a b) l h = absurd (l.no_compare op a b refl)
leaf_placed ts us new k (node.Not a) l h = absurd (l.no_not a refl)
leaf_placed ts us new k (node.Logic op a b) l h = absurd (l.no_logic op a b refl)
leaf_placed ts us new k (node.Window op i a) l h = absurd (l.no_window op i a refl)
leaf_placed ts us new k (node.Between op i a b) l h = absurd (l.no_between op i a b refl)
leaf_placed ts us new k _ l h = h

leaf_formed : (signals : ℕ) (ts us : List Tree) (n : Plain) → IsLeaf n → IsFormed signals ts n → IsFormed signals us n
leaf_formed signals ts us (node.Flag s) l h = h
leaf_formed signals ts us (node.Signal s) l h = h
leaf_formed signals ts us (node.Minus a) l h = absurd (l.no_minus a refl)
leaf_formed signals ts us (node.Arith op a b) l h = absurd (l.no_arith op a b refl)
leaf_formed signals ts us (node.Compare op a b) l h = absurd (l.no_compare op a b refl)
leaf_formed signals ts us (node.Not a) l h = absurd (l.no_not a refl)
leaf_formed signals ts us (node.Logic op a b) l h = absurd (l.no_logic op a b refl)
leaf_formed signals ts us (node.Window op i a) l h = absurd (l.no_window op i a refl)
leaf_formed signals ts us (node.Between op i a b) l h = absurd (l.no_between op i a b refl)
leaf_formed signals ts us _ l h = tt

pub place_leaf : {E : Type 0} (result : Result ℕ E) (nodes old new : List Plain) (i : ℕ) (n : Plain) (tree : Tree) → OnOk result (new ≡ old ++ n ∷ []) → IfOk result (λ k. k ≡ length old) →
    slice_get nodes i ≡ Some n → Has nodes i tree → IsLeaf n → IfOk result (λ k. Places nodes old new k tree)
place_leaf result nodes old new i n tree pushed place there h leaf = place_put result nodes old new n tree pushed place
    (λ k g. subst (λ t. IsPlaced new k t) (head nodes i n tree there h) (leaf_placed (trees (take i nodes)) (trees old) new k n leaf g))
    (λ signals s. leaf_formed signals (trees (take i nodes)) (trees old) n leaf (s.formed i n there))

-- a whole number over operands stays over their places
pub place_minus : {E : Type 0} (result : Result ℕ E) (nodes old new : List Plain) (a : ℕ) (x : Term) (tree : Tree) → OnOk result (new ≡ old ++ node.Minus a ∷ []) → IfOk result (λ k. k ≡ length old) →
    Has old a (number x) → number (Rattle.mltl_base.specs.Atoms.negative x) ≡ tree → IfOk result (λ k. Places nodes old new k tree)
place_minus result nodes old new a x tree pushed place h e = place_put result nodes old new (node.Minus a) tree pushed place
    (λ k g. subst (λ t. IsPlaced new k t) e (subst (λ y. Has new k (number (Rattle.mltl_base.specs.Atoms.negative y))) (number_at old a x h) g))
    (λ signals s. is_number old a x h)

pub place_arith : {E : Type 0} (result : Result ℕ E) (nodes old new : List Plain) (op : arith_op.ArithOp) (a b : ℕ) (x y : Term) (tree : Tree) → OnOk result (new ≡ old ++ node.Arith op a b ∷ []) → IfOk result (λ k. k ≡ length old) →
    Has old a (number x) → Has old b (number y) → number (arithmetic op x y) ≡ tree → IfOk result (λ k. Places nodes old new k tree)
place_arith result nodes old new op a b x y tree pushed place h k e = place_put result nodes old new (node.Arith op a b) tree pushed place
    (λ m g. subst (λ t. IsPlaced new m t) e (subst (λ t. Has new m (number t)) (ap₂ (arithmetic op) (number_at old a x h) (number_at old b y k)) g))
    (λ signals s. (is_number old a x h, is_number old b y k))

-- a comparison becomes what is found of its numbers
pub place_truth : {E : Type 0} (result : Result ℕ E) (nodes old new : List Plain) (op : compare.CompareOp) (x y : Term) (u w : Option ℤ) (v : Bool) (tree : Tree) → OnOk result (new ≡ old ++ node.Truth v ∷ []) → IfOk result (λ k. k ≡ length old) →
    IsKnown u x → IsKnown w y → Some v ≡ compared_numbers op u w → formula (plain.atom (comparison op x y)) ≡ tree → IfOk result (λ k. Places nodes old new k tree)
place_truth result nodes old new op x y u w v tree pushed place known_x known_y found e = place_put result nodes old new (node.Truth v) tree pushed place
    (λ k g. subst (λ t. IsPlaced new k t) e (record {
      the = constant_formula v;
      has = g;
      simple = λ none. ap (λ o. by_found o (plain.atom (comparison op x y))) found ∙ compared_simple op x y u w known_x known_y none;
    }))
    (λ signals s. tt)

pub place_compare : {E : Type 0} (result : Result ℕ E) (nodes old new : List Plain) (op : compare.CompareOp) (a b : ℕ) (x y : Term) (u w : Option ℤ) (tree : Tree) → OnOk result (new ≡ old ++ node.Compare op a b ∷ []) → IfOk result (λ k. k ≡ length old) →
    Has old a (number x) → Has old b (number y) → IsKnown u x → IsKnown w y → None ≡ compared_numbers op u w → formula (plain.atom (comparison op x y)) ≡ tree → IfOk result (λ k. Places nodes old new k tree)
place_compare result nodes old new op a b x y u w tree pushed place h k known_x known_y found e = place_put result nodes old new (node.Compare op a b) tree pushed place
    (λ m g. subst (λ t. IsPlaced new m t) e (record {
      the = plain.atom (comparison op x y);
      has = subst (λ p. Has new m (formula (plain.atom p))) (ap₂ (comparison op) (number_at old a x h) (number_at old b y k)) g;
      simple = λ none. ap (λ o. by_found o (plain.atom (comparison op x y))) found ∙ compared_simple op x y u w known_x known_y none;
    }))
    (λ signals s. (is_number old a x h, is_number old b y k))

-- operators over operands that are simplified
logic_simple : (op : logic.LogicOp) (p q x y : plain.Formula) → (formula_fault p ≡ None → x ≡ simp p) → (formula_fault q ≡ None → y ≡ simp q) → formula_fault (connected op p q) ≡ None → simple_logic op x y ≡ simp (connected op p q)
unfolding simp formula_fault
logic_simple logic.TheVariants.And p q x y h k f = let n = neither (formula_fault p) (formula_fault q) f in ap₂ (simple_logic logic.TheVariants.And) (h n.0) (k n.1)
logic_simple z p q x y h k f = let n = neither (formula_fault p) (formula_fault q) f in ap₂ (simple_logic z) (h n.0) (k n.1)

window_simple : (op : window.WindowOp) (i : Interval) (p x : plain.Formula) → (formula_fault p ≡ None → x ≡ simp p) → formula_fault (windowed op i p) ≡ None → simple_window op i x ≡ simp (windowed op i p)
unfolding simp formula_fault
window_simple window.TheVariants.F i p x h f = ap (simple_window window.TheVariants.F i) (h f)
window_simple y i p x h f = ap (simple_window y i) (h f)

between_simple : (op : between.BetweenOp) (i : Interval) (p q x y : plain.Formula) → (formula_fault p ≡ None → x ≡ simp p) → (formula_fault q ≡ None → y ≡ simp q) → formula_fault (ranged op i p q) ≡ None → simple_between op i x y ≡ simp (ranged op i p q)
unfolding simp formula_fault
between_simple between.TheVariants.U i p q x y h k f = let n = neither (formula_fault p) (formula_fault q) f in ap₂ (simple_between between.TheVariants.U i) (h n.0) (k n.1)
between_simple z i p q x y h k f = let n = neither (formula_fault p) (formula_fault q) f in ap₂ (simple_between z i) (h n.0) (k n.1)

not_simple : (p x : plain.Formula) → (formula_fault p ≡ None → x ≡ simp p) → formula_fault (plain.negation p) ≡ None → Rattle.mltl_simplify.specs.Simplify.simple_not x ≡ simp (plain.negation p)
unfolding simp formula_fault
not_simple p x h f = ap Rattle.mltl_simplify.specs.Simplify.simple_not (h f)

module _ {E : Type 0} (result : Result ℕ E) (nodes old new : List Plain) (tree : Tree) where
  pub logic_placed : (op : logic.LogicOp) (p q : plain.Formula) (a b : ℕ) (x : IsSimplified old a p) (y : IsSimplified old b q) → formula (connected op p q) ≡ tree →
      IfOk result (λ n. AddsNodes old new n (simple_logic op x.the y.the)) → IfOk result (λ n. Places nodes old new n tree)
  logic_placed op p q a b x y e h = IfOk-weaker result _ _
      (λ n w. subst (λ t. Places nodes old new n t) e (place_formula nodes old new n (connected op p q) _ w (logic_simple op p q x.the y.the x.simple y.simple))) h

  pub window_placed : (op : window.WindowOp) (i : Interval) (p : plain.Formula) (a : ℕ) (x : IsSimplified old a p) → formula (windowed op i p) ≡ tree →
      IfOk result (λ n. AddsNodes old new n (simple_window op i x.the)) → IfOk result (λ n. Places nodes old new n tree)
  window_placed op i p a x e h = IfOk-weaker result _ _
      (λ n w. subst (λ t. Places nodes old new n t) e (place_formula nodes old new n (windowed op i p) _ w (window_simple op i p x.the x.simple))) h

  pub between_placed : (op : between.BetweenOp) (i : Interval) (p q : plain.Formula) (a b : ℕ) (x : IsSimplified old a p) (y : IsSimplified old b q) → formula (ranged op i p q) ≡ tree →
      IfOk result (λ n. AddsNodes old new n (simple_between op i x.the y.the)) → IfOk result (λ n. Places nodes old new n tree)
  between_placed op i p q a b x y e h = IfOk-weaker result _ _
      (λ n w. subst (λ t. Places nodes old new n t) e (place_formula nodes old new n (ranged op i p q) _ w (between_simple op i p q x.the y.the x.simple y.simple))) h

  pub not_placed : (p : plain.Formula) (a : ℕ) (x : IsSimplified old a p) → formula (plain.negation p) ≡ tree →
      IfOk result (λ n. AddsNodes old new n (Rattle.mltl_simplify.specs.Simplify.simple_not x.the)) → IfOk result (λ n. Places nodes old new n tree)
  not_placed p a x e h = IfOk-weaker result _ _
      (λ n w. subst (λ t. Places nodes old new n t) e (place_formula nodes old new n (plain.negation p) _ w (not_simple p x.the x.simple))) h

-- what is placed goes on to be
placed_kept : (old new : List Plain) (n : ℕ) (tree : Tree) → Grows old new → IsPlaced old n tree → IsPlaced new n tree
placed_kept old new n (number a) g h = g.kept n (number a) h
placed_kept old new n (formula p) g h = record { the = h.the; has = g.kept n (formula h.the) h.has; simple = h.simple }

-- one more proxy
pub one_more : (nodes old new : List Plain) (i : ℕ) (proxies more : List Proxy) (proxy : Proxy) → i < length nodes → AreSimplified nodes i old proxies →
    ((tree : Tree) → Has nodes i tree → Places nodes old new proxy.place tree) → ((tree : Tree) → Has nodes i tree → IsNumbered proxy.number tree) → more ≡ proxies ++ proxy ∷ [] → AreSimplified nodes (i + 1) new more
one_more nodes old new i proxies more proxy l before here told e =
    let n : Plain = get_or nodes i (node.Truth false) in
    let there : Has nodes i (tree_of (trees (take i nodes)) n) = node_has nodes i n (slice_get-get_or nodes i (node.Truth false) l) in
    let placed = here _ there in
    let whole : AreSimplified nodes (i + 1) new (proxies ++ proxy ∷ []) = record {
      each = length_push proxies proxy ∙ ap (λ k. k + 1) before.each;
      placed = λ k one tree a b. elim (at_push proxies proxy k one a) [
        | inl p ↦ placed_kept old new one.place tree placed.grows (before.placed k one tree p.1 b)
        | inr p ↦ subst (λ (x : Proxy). IsPlaced new x.place tree) p.1 (here tree (subst (λ m. Has nodes m tree) (p.0 ∙ before.each) b)).placed
      ];
      numbered = record {
        known = λ k one tree a b. elim (at_push proxies proxy k one a) [
          | inl p ↦ before.numbered.known k one tree p.1 b
          | inr p ↦ subst (λ (x : Proxy). IsNumbered x.number tree) p.1 (told tree (subst (λ m. Has nodes m tree) (p.0 ∙ before.each) b))
        ];
      };
      sound = λ signals s. placed.sound signals s (before.sound signals s);
    } in
    subst (λ ps. AreSimplified nodes (i + 1) new ps) (sym e) whole

-- ---- outputs

record Named (nodes simple : List Plain) (proxies : List Proxy) (n : ℕ) : Type 0 where
  below : n < length proxies
  stands : IsSimplified simple (simplified.place_at proxies n) (node_formula (trees nodes) n)

named : (nodes simple : List Plain) (proxies : List Proxy) → AreSimplified nodes (length nodes) simple proxies → (n : ℕ) → IsFormula (slice_get (trees nodes) n) → Named nodes simple proxies n
named nodes simple proxies done n h =
    let all : take (length nodes) nodes ≡ nodes = take-length nodes in
    let there : Has nodes n (formula (node_formula (trees nodes) n)) = subst (λ ns. Has nodes n (formula (node_formula (trees ns) n))) all
    (formula_operand nodes (length nodes) n (subst (λ ns. IsFormula (slice_get (trees ns) n)) (sym all) h)) in
    let inside : n < length nodes = has_place nodes n _ there in
    let proxy = has_part proxies n (omega (arith, done.each)) in
    record {
      below = omega (arith, done.each);
      stands = subst (λ m. IsSimplified simple m (node_formula (trees nodes) n)) (sym (ap simplified.place_in proxy.is)) (done.placed n proxy.the _ proxy.is there);
    }

pub place_of_formula : (nodes simple : List Plain) (proxies : List Proxy) → AreSimplified nodes (length nodes) simple proxies → (n : ℕ) → IsFormula (slice_get (trees nodes) n) → formula_fault (node_formula (trees nodes) n) ≡ None →
    node_formula (trees simple) (simplified.place_at proxies n) ≡ simp (node_formula (trees nodes) n)
place_of_formula nodes simple proxies done n h k =
    let s = (named nodes simple proxies done n h).stands in
    formula_in_place simple (simplified.place_at proxies n) s.the s.has ∙ s.simple k

pub formula_names : (nodes simple : List Plain) (proxies : List Proxy) → AreSimplified nodes (length nodes) simple proxies → (n : ℕ) → IsFormula (slice_get (trees nodes) n) →
    IsFormula (slice_get (trees simple) (simplified.place_at proxies n)) × (n < length proxies)
formula_names nodes simple proxies done n h =
    let w = named nodes simple proxies done n h in
    (is_formula simple (simplified.place_at proxies n) w.stands.the w.stands.has, w.below)

-- the node that stands for an operand is a formula
pub is_there : (nodes simple : List Plain) (proxies : List Proxy) (i : ℕ) → i < length nodes → AreSimplified nodes i simple proxies → (a : ℕ) → IsFormula (slice_get (trees (take i nodes)) a) →
    simplified.IsFormulaAt simple (simplified.place_at proxies a)
is_there nodes simple proxies i l before a h = let w = formula_there nodes simple proxies i l before a h in record { the = w.the; has = w.has }
