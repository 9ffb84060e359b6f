-- The engine one row on.
use Rattle.std.proofs.Common.{◌≡◌, ℕ, ◌+◌, ◌<◌, ◌^◌, ℤ, List, [], ◌∷◌, ◌++◌, length, get_or, subst, sym, ◌∙◌}
use Rattle.std.proofs.lemmas.List.{length_push}
use Rattle.mltl_base.specs.declared.operators.FtOp.{FtOp}
use Rattle.mltl_base.specs.declared.program.Program.{Program}
use Rattle.mltl_base.specs.Atoms.{Row, Atom, is_true}
use Rattle.mltl_base.specs.Programs.{atoms, expressions}
use Rattle.obs_verify.specs.Running.{RunsFuture}
use Rattle.obs_verify.proofs.Truths.{truth_there}
use Rattle.booleanizer.specs.Evaluation.{numbers_on}
use Rattle.scq_ring.specs.declared.Slot.{Slot}
use Rattle.ft_engine.specs.declared.engine.Ft.{Ft}
use Rattle.ft_engine.specs.declared.queue.Queue.{Queue}
use Rattle.ft_engine.specs.Plans.{IsPaced, Plan, plan_of}
use Rattle.ft_engine.specs.Standing.{FtHasTaken}
use Rattle.ft_engine.specs.Tables.{AgreeOnLoads, HaveVerdicts, IsTable, Loads, VerdictTable, QueuesTake, known_table, truth_at}
use Rattle.ft_engine.proofs.Standings.{program_planned, stands_with, total_of}
use Rattle.ft_engine.proofs.Tabled.{extends, is_table, truth_of_last}

-- queues have taken a row after n others
pub record TookRow (plan : Plan) (ops : List FtOp) (numbers : List ℤ) (n : ℕ) (queues : List Queue) (slab : List Slot) (queues' : List Queue) (slab' : List Slot) : Type 0 where
  pub paced : IsPaced plan ops queues slab n → IsPaced plan ops queues' slab' (n + 1)
  pub verdicts : (truth : Loads) (old new : VerdictTable) → QueuesTake plan truth n ops queues slab old new → AgreeOnLoads ops (truth n) numbers → HaveVerdicts ops new queues' slab'

pub paced_as : (plan : Plan) (ops ops' : List FtOp) (queues queues' : List Queue) (slab slab' : List Slot) (n : ℕ) → ops ≡ ops' → queues ≡ queues' → slab ≡ slab' → IsPaced plan ops' queues' slab' n → IsPaced plan ops queues slab n
paced_as plan ops ops' queues queues' slab slab' n same_ops same_queues same_slab p =
    subst (λ (x : List FtOp). IsPaced plan x queues slab n) (sym same_ops)
    (subst (λ (x : List Queue). IsPaced plan ops' x slab n) (sym same_queues)
    (subst (λ (x : List Slot). IsPaced plan ops' queues' x n) (sym same_slab) p))

pub took_as : (plan : Plan) (ops ops' : List FtOp) (numbers : List ℤ) (n : ℕ) (queues queues' : List Queue) (slab slab' : List Slot) (new new' : List Queue) (new_slab new_slab' : List Slot)
    → ops ≡ ops' → queues ≡ queues' → slab ≡ slab' → new ≡ new' → new_slab ≡ new_slab' → TookRow plan ops' numbers n queues' slab' new' new_slab' → TookRow plan ops numbers n queues slab new new_slab
took_as plan ops ops' numbers n queues queues' slab slab' new new' new_slab new_slab' same_ops same_queues same_slab same_new same_new_slab t =
    subst (λ (x : List FtOp). TookRow plan x numbers n queues slab new new_slab) (sym same_ops)
    (subst (λ (x : List Queue). TookRow plan ops' numbers n x slab new new_slab) (sym same_queues)
    (subst (λ (x : List Slot). TookRow plan ops' numbers n queues' x new new_slab) (sym same_slab)
    (subst (λ (x : List Queue). TookRow plan ops' numbers n queues' slab' x new_slab) (sym same_new)
    (subst (λ (x : List Slot). TookRow plan ops' numbers n queues' slab' new' x) (sym same_new_slab) t))))

-- what the program loads on the last row
agree_last : (program : Program) (rows : List Row) (row : Row) (numbers : List ℤ) → RunsFuture program → numbers ≡ numbers_on row program.bz
    → AgreeOnLoads program.ft (truth_at (rows ++ row ∷ []) (atoms program.bz) (length rows)) numbers
agree_last program rows row numbers runs given = λ i i_in k v is gives.
    truth_of_last rows row (atoms program.bz) k
    ∙ sym (gives row program.bz (get_or (atoms program.bz) k (is_true 0)) given (truth_there (expressions program.bz) k (runs.loads i k i_in is)))

pub row_stands : (program : Program) (rows : List Row) (row : Row) (old new : Ft) (numbers : List ℤ) → RunsFuture program → length rows < 2 ^ 40 → numbers ≡ numbers_on row program.bz
    → TookRow (plan_of program.ft program.outs) program.ft numbers (length rows) old.queues old.slab new.queues new.slab
    → length new.slab ≡ length old.slab → FtHasTaken program rows old → FtHasTaken program (rows ++ row ∷ []) new
row_stands program rows row old new numbers runs few given took long stands =
    let plan : Plan = plan_of program.ft program.outs in
    let loaded : List Atom = atoms program.bz in
    let more : List Row = rows ++ row ∷ [] in
    let size : length more ≡ length rows + 1 = length_push rows row in
    let before : VerdictTable = known_table rows loaded program.ft in
    let after : VerdictTable = known_table more loaded program.ft in
    let table : IsTable program.ft (truth_at more loaded) (length rows + 1) after =
    subst (λ (m : ℕ). IsTable program.ft (truth_at more loaded) m after) size (is_table plan more loaded program.ft (program_planned program runs).planned) in
    stands_with program more new runs
    (subst (λ (m : ℕ). IsPaced plan program.ft new.queues new.slab m) (sym size) (took.paced stands.paced))
    (took.verdicts (truth_at more loaded) before after
    (record { few = few; paced = stands.paced; table = table; extends = extends rows (row ∷ []) loaded program.ft; verdicts = stands.table })
    (agree_last program rows row numbers runs given))
    (long ∙ total_of program rows old stands)
