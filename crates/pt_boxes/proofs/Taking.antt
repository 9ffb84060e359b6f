-- The engine one row on.
use Rattle.std.proofs.Common.{◌≡◌, ℕ, ◌+◌, ℤ, List, [], ◌∷◌, ◌++◌, length, map, fold, get_or, sum_by, refl, subst, sym, ◌∙◌}
use Rattle.std.proofs.lemmas.List.{length_push}
use Rattle.mltl_base.specs.declared.operators.PtOp.{PtOp}
use Rattle.mltl_base.specs.declared.program.Program.{Program}
use Rattle.mltl_base.specs.Atoms.{Row, is_true}
use Rattle.mltl_base.specs.Programs.{atoms, expressions}
use Rattle.mltl_base.specs.Queues.{boxes_of}
use Rattle.booleanizer.specs.Evaluation.{numbers_on}
use Rattle.pt_boxes.specs.declared.boxes.Span.{Span}
use Rattle.pt_boxes.specs.declared.engine.Pt.{Pt}
use Rattle.pt_boxes.specs.declared.rows.Node.{Node}
use Rattle.pt_boxes.specs.Nodes.{AreKept}
use Rattle.obs_verify.specs.Running.{RunsPast}
use Rattle.pt_boxes.specs.Standing.{PtHasTaken, formula_meaning}
use Rattle.pt_boxes.specs.Tables.{LoadsMatchTable, HasTable, IsTruthTable, TruthTable}
use Rattle.pt_boxes.proofs.Meanings.{has_same, loaded_last, loaded_of, meaning_stays, meaning_table}
use Rattle.pt_boxes.proofs.Standings.{stands_with, table_of, total_of}
use Rattle.obs_verify.proofs.Truths.{truth_there}

-- nodes have taken a row after n others
pub record TakesRow (ops : List PtOp) (numbers : List ℤ) (n : ℕ) (nodes : List Node) (slab : List Span) (nodes' : List Node) (slab' : List Span) : Type 0 where
  pub kept : AreKept ops (n + 1) nodes' slab'
  pub table : (loaded table : TruthTable) → IsTruthTable ops loaded (n + 1) table → LoadsMatchTable ops numbers loaded n → HasTable ops table n nodes slab → HasTable ops table (n + 1) nodes' slab'

pub kept_as : (ops ops' : List PtOp) (n n' : ℕ) (nodes nodes' : List Node) (slab slab' : List Span) → ops ≡ ops' → n ≡ n' → nodes ≡ nodes' → slab ≡ slab' → AreKept ops' n' nodes' slab' → AreKept ops n nodes slab
kept_as ops ops' n n' nodes nodes' slab slab' same_ops same_n same_nodes same_slab k =
    subst (λ (x : List PtOp). AreKept x n nodes slab) (sym same_ops)
    (subst (λ (x : ℕ). AreKept ops' x nodes slab) (sym same_n)
    (subst (λ (x : List Node). AreKept ops' n' x slab) (sym same_nodes)
    (subst (λ (x : List Span). AreKept ops' n' nodes' x) (sym same_slab) k)))

pub takes_as : (ops ops' : List PtOp) (numbers : List ℤ) (n n' : ℕ) (nodes nodes' : List Node) (slab slab' : List Span) (new new' : List Node) (new_slab new_slab' : List Span)
    → ops ≡ ops' → n ≡ n' → nodes ≡ nodes' → slab ≡ slab' → new ≡ new' → new_slab ≡ new_slab' → TakesRow ops' numbers n' nodes' slab' new' new_slab' → TakesRow ops numbers n nodes slab new new_slab
takes_as ops ops' numbers n n' nodes nodes' slab slab' new new' new_slab new_slab' same_ops same_n same_nodes same_slab same_new same_new_slab t =
    subst (λ (x : List PtOp). TakesRow x numbers n nodes slab new new_slab) (sym same_ops)
    (subst (λ (x : ℕ). TakesRow ops' numbers x nodes slab new new_slab) (sym same_n)
    (subst (λ (x : List Node). TakesRow ops' numbers n' x slab new new_slab) (sym same_nodes)
    (subst (λ (x : List Span). TakesRow ops' numbers n' nodes' x new new_slab) (sym same_slab)
    (subst (λ (x : List Node). TakesRow ops' numbers n' nodes' slab' x new_slab) (sym same_new)
    (subst (λ (x : List Span). TakesRow ops' numbers n' nodes' slab' new' x) (sym same_new_slab) t)))))

-- what the program loads on the last row
agree_last : (program : Program) (rows : List Row) (row : Row) (numbers : List ℤ) → RunsPast program → numbers ≡ numbers_on row program.bz → LoadsMatchTable program.pt numbers (loaded_of program (rows ++ row ∷ [])) (length rows)
agree_last program rows row numbers runs given = λ i k v i_in is gives.
    gives row program.bz (get_or (atoms program.bz) k (is_true 0)) given (truth_there (expressions program.bz) k (runs.loads i k i_in is))
    ∙ sym (loaded_last program rows row k)

pub row_stands : (program : Program) (rows : List Row) (row : Row) (old new : Pt) (numbers : List ℤ) → RunsPast program → numbers ≡ numbers_on row program.bz → new.rows ≡ length rows + 1
    → TakesRow program.pt numbers (length rows) old.nodes old.slab new.nodes new.slab → length new.slab ≡ length old.slab → PtHasTaken program rows old → PtHasTaken program (rows ++ row ∷ []) new
row_stands program rows row old new numbers runs given taken takes long stands =
    let more : List Row = rows ++ row ∷ [] in
    let size : length more ≡ length rows + 1 = length_push rows row in
    let has : HasTable program.pt (formula_meaning program more) (length rows) old.nodes old.slab =
    has_same program.pt (formula_meaning program rows) (formula_meaning program more) (length rows) old.nodes old.slab runs.order
    (λ g t g_in t_in. meaning_stays program rows (row ∷ []) runs.order g t g_in t_in) (table_of program rows old stands) in
    let table : HasTable program.pt (formula_meaning program more) (length rows + 1) new.nodes new.slab =
    takes.table (loaded_of program more) (formula_meaning program more) (meaning_table program more (length rows + 1) runs.order) (agree_last program rows row numbers runs given) has in
    stands_with program more new
    (subst (λ (k : ℕ). AreKept program.pt k new.nodes new.slab) (sym size) takes.kept)
    (taken ∙ sym size)
    (subst (λ (k : ℕ). HasTable program.pt (formula_meaning program more) k new.nodes new.slab) (sym size) table)
    (long ∙ total_of program rows old stands)

-- the work of a row by the sizes that the program stores
work_from : (start : ℕ) (ops : List PtOp) → fold (λ (n size : ℕ). n + (size + 2)) start (map boxes_of ops) ≡ fold (λ (n : ℕ) (op : PtOp). n + (boxes_of op + 2)) start ops
work_from start [] = refl
work_from start (op ∷ ops) = work_from (start + (boxes_of op + 2)) ops

pub work_by_boxes : (ops : List PtOp) → sum_by (λ size. size + 2) (map boxes_of ops) ≡ sum_by (λ op. boxes_of op + 2) ops
work_by_boxes ops = work_from 0 ops
