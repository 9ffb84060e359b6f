-- The meanings of past-time instructions are a table of those instructions, which later rows leave as it is.
use Rattle.std.proofs.Common.{◌≡◌, ℕ, zero, suc, ◌-◌, ◌<◌, ◌≤◌, Bool, not, ◌&&◌, List, [], ◌∷◌, ◌++◌, length, get_or, arith, refl, sym, ap, ap₂, ◌∙◌}
use Rattle.std.proofs.lemmas.List.{get_or_append_left, get_or_push}
use Rattle.mltl_base.specs.declared.operators.PtOp.{PtOp}
use Rattle.mltl_base.specs.declared.operators.PtOp.TheVariants.{True, Load, Not, And, Since}
use Rattle.mltl_base.specs.declared.program.Program.{Program}
use Rattle.mltl_base.specs.Atoms.{Row, Atom, holds, is_true}
use Rattle.mltl_base.specs.Formula.{Core, plain}
use Rattle.mltl_base.specs.Meaning.{sat}
use Rattle.mltl_base.specs.Programs.{atoms, core_at, past_formula_of, past_formulas}
use Rattle.pt_boxes.specs.declared.boxes.Span.{Span}
use Rattle.pt_boxes.specs.declared.rows.Node.{Node}
use Rattle.pt_boxes.specs.Nodes.{boxes_in, node_at, op_at}
use Rattle.obs_verify.specs.Running.{ArePastInOrder, IsAfterPastOperands}
use Rattle.pt_boxes.specs.Standing.{formula_meaning}
use Rattle.pt_boxes.specs.Tables.{HasTable, IsTruthTable, BoxesRepresent, TruthTable, op_truth}
use Rattle.pt_boxes.proofs.Sinces.{since_after_same}
use Rattle.pt_boxes.proofs.Unfolded.{unfolds_at}

-- the truths of the atoms that instructions load, by row
abbrev pub loaded_of : Program → List Row → TruthTable
loaded_of program rows k t = holds (get_or (atoms program.bz) k (is_true 0)) (get_or rows t [])

-- those of the row that comes last
pub loaded_last : (program : Program) (rows : List Row) (row : Row) (k : ℕ) → loaded_of program (rows ++ row ∷ []) k (length rows) ≡ holds (get_or (atoms program.bz) k (is_true 0)) row
loaded_last program rows row k = ap (λ (r : Row). holds (get_or (atoms program.bz) k (is_true 0)) r) (get_or_push rows row [] (length rows) refl)

-- the meaning of an operator
sat_of : (rows : List Row) (loaded : List Atom) (all : List Core) (op : PtOp) (t : ℕ)
    → sat rows (plain (past_formula_of loaded all op)) t ≡ op_truth op (λ k t. holds (get_or loaded k (is_true 0)) (get_or rows t [])) (λ i t. sat rows (plain (core_at all i)) t) t
unfolding plain sat
sat_of rows loaded all True t = refl
sat_of rows loaded all _ t = refl

-- the meanings are a table
meaning_at : (program : Program) (rows : List Row) → ArePastInOrder program.pt → (i t : ℕ) → i < length program.pt
    → formula_meaning program rows i t ≡ op_truth (op_at program.pt i) (loaded_of program rows) (formula_meaning program rows) t
meaning_at program rows order i t h =
    let loaded : List Atom = atoms program.bz in
    ap (λ (p : Core). sat rows (plain p) t) (unfolds_at loaded program.pt order i h)
    ∙ sat_of rows loaded (past_formulas loaded program.pt) (op_at program.pt i) t

pub meaning_table : (program : Program) (rows : List Row) (n : ℕ) → ArePastInOrder program.pt → IsTruthTable program.pt (loaded_of program rows) n (formula_meaning program rows)
meaning_table program rows n order = λ i t h t_in. meaning_at program rows order i t h

-- the truth of an operator where what it reads is the same up to that time
truth_same : (i : ℕ) (op : PtOp) (loaded loaded' table table' : TruthTable) (t : ℕ) → IsAfterPastOperands i op → ((k : ℕ) → loaded' k t ≡ loaded k t) → ((g : ℕ) → g < i → (s : ℕ) → s ≤ t → table' g s ≡ table g s)
    → op_truth op loaded' table' t ≡ op_truth op loaded table t
truth_same i True loaded loaded' table table' t after same_loads same = refl
truth_same i (Load k) loaded loaded' table table' t after same_loads same = same_loads k
truth_same i (Not g) loaded loaded' table table' t after same_loads same = ap (λ (b : Bool). not b) (same g after t (omega arith))
truth_same i (And l r) loaded loaded' table table' t after same_loads same = ap₂ (λ (x y : Bool). x && y) (same l after.0 t (omega arith)) (same r after.1 t (omega arith))
truth_same i (Since l r window) loaded loaded' table table' t after same_loads same =
    since_after_same window (table' l) (table l) (table' r) (table r) (suc t) t (λ s s_in. same l after.0 s (omega arith)) (λ s s_in. same r after.1 s (omega arith))

-- later rows leave the meanings at earlier times
stays_below : (program : Program) (rows more : List Row) → ArePastInOrder program.pt → (k i t : ℕ) → i < k → i < length program.pt → t < length rows → formula_meaning program (rows ++ more) i t ≡ formula_meaning program rows i t
stays_below program rows more order zero i t i_in h t_in = absurd (omega arith)
stays_below program rows more order (suc k) i t i_in h t_in =
    meaning_at program (rows ++ more) order i t h
    ∙ truth_same i (op_at program.pt i) (loaded_of program rows) (loaded_of program (rows ++ more)) (formula_meaning program rows) (formula_meaning program (rows ++ more)) t (order i h)
    (λ a. ap (λ (r : Row). holds (get_or (atoms program.bz) a (is_true 0)) r) (get_or_append_left rows more [] t t_in))
    (λ g g_in s s_in. stays_below program rows more order k g s (omega arith) (omega arith) (omega arith))
    ∙ sym (meaning_at program rows order i t h)

pub meaning_stays : (program : Program) (rows more : List Row) → ArePastInOrder program.pt → (i t : ℕ) → i < length program.pt → t < length rows → formula_meaning program (rows ++ more) i t ≡ formula_meaning program rows i t
meaning_stays program rows more order i t h t_in = stays_below program rows more order (suc i) i t (omega arith) h t_in

-- boxes that tell one table tell another one which is the same so far
told_same : (k : ℕ) (op : PtOp) (table table' : TruthTable) (n : ℕ) (boxes : List Span) → IsAfterPastOperands k op → ((g t : ℕ) → g < k → t < n → table' g t ≡ table g t) → BoxesRepresent op table n boxes → BoxesRepresent op table' n boxes
told_same k (Since l r window) table table' n boxes after same t = record {
  each = λ u h. t.each u h ∙ since_after_same window (table l) (table' l) (table r) (table' r) n u (λ s s_in. sym (same l s after.0 s_in)) (λ s s_in. sym (same r s after.1 s_in));
}
told_same k _ table table' n boxes after same t = tt

pub has_same : (ops : List PtOp) (table table' : TruthTable) (n : ℕ) (nodes : List Node) (slab : List Span) → ArePastInOrder ops → ((g t : ℕ) → g < length ops → t < n → table' g t ≡ table g t)
    → HasTable ops table n nodes slab → HasTable ops table' n nodes slab
has_same ops table table' n nodes slab order same has = record {
  told = λ i h. told_same i (op_at ops i) table table' n (boxes_in slab (node_at nodes i)) (order i h) (λ g t g_in t_in. same g t (omega arith) t_in) (has.told i h);
  truths = λ i h some. has.truths i h some ∙ sym (same i (n - 1) h (omega arith));
}
