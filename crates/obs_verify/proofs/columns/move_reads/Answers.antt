use Rattle.std.proofs.Common.{◌≡◌, ◌<◌, ◌≤◌, ◌∙◌, ◌+◌, ◌++◌, ap, arith, refl, sym, None, Some, List, ℕ, drop, length, map, take, slice_index_or, slice_set}
use Rattle.mltl_base.specs.declared.operators.BzOp.{BzOp}
use Rattle.mltl_base.specs.declared.operators.BzOp.TheVariants.{Neg}
use Rattle.mltl_base.specs.declared.program.Program.{Program}
use Rattle.obs_verify.specs.Bound.{bound_op}
use Rattle.obs_verify.specs.SignalNumbers.{signal_read}
use Rattle.obs_verify.proofs.BoundLaws.{length-mapped, mapped_all, mapped_kept, mapped_more, still_there}
use Rattle.obs_verify.proofs.ReaderLaws.{read_inside, read_moves, signal_number_at, signal_numbers_long, unread_stays}
use Rattle.obs_verify.proofs.columns.move_reads.Goals.{in-Some, in_default}
use Rattle.obs_verify.proofs.columns.move_reads.Goals as goal

pub loop-i-init : goal.loop-i-init
loop-i-init c = refl

pub get-requires : goal.get-requires
get-requires c =
    let old : Program = c.args.program.now in
    let move : BzOp → BzOp = bound_op old.signals c.args.columns.now in
    let inside : c.loop-i.i < length old.bz = omega (arith, c.loop-i-test.true, signal_numbers_long old c.args.signal_numbers.now c.requires.signal_numbers) in
    omega (arith, ap (λ (p : Program). length p.bz) c.loop-i.invariant, length-mapped move old.bz c.loop-i.i (omega arith))

pub bounds-columns-k : goal.bounds-columns-k
bounds-columns-k c =
    let old : Program = c.args.program.now in
    let read = sym (signal_number_at old c.args.signal_numbers.now c.loop-i.i c.get.result.now c.requires.signal_numbers c.loop-i-test.true) ∙ c.in-Some.is in
    omega (arith, read_inside old.signals (slice_index_or old.bz c.loop-i.i c.get.result.now) c.in-Some.k read, c.requires.one_each)

pub put-requires : goal.put-requires
put-requires c = omega (
  arith,
  ap (λ (p : Program). length p.bz) c.loop-i.invariant,
  length-mapped (bound_op c.args.program.now.signals c.args.columns.now) c.args.program.now.bz c.loop-i.i (omega (arith, c.loop-i-test.true, signal_numbers_long c.args.program.now c.args.signal_numbers.now c.requires.signal_numbers)),
  c.loop-i-test.true,
  signal_numbers_long c.args.program.now c.args.signal_numbers.now c.requires.signal_numbers,
)

pub loop-i-preserved : goal.loop-i-preserved
loop-i-preserved c =
    let old : Program = c.args.program.now in
    let i : ℕ = c.loop-i.i in
    let columns : List ℕ = c.args.columns.now in
    let move : BzOp → BzOp = bound_op old.signals columns in
    let inside : i < length old.bz = omega (arith, c.loop-i-test.true, signal_numbers_long old c.args.signal_numbers.now c.requires.signal_numbers) in
    let done = ap (λ (p : Program). p.bz) c.loop-i.invariant in
    let next : List BzOp = map move (take (i + 1) old.bz) ++ drop (i + 1) old.bz in
    elim c.match-signal_number.branch [
      | in-Some w ↦
          let op : BzOp = w.get.result.now in
          let is : op ≡ slice_index_or old.bz i op = still_there move old.bz c.loop-i.program.bz i op op inside done w.get.ensures in
          let read : signal_read old.signals op ≡ Some w.in-Some.k =
          ap (signal_read old.signals) is ∙ sym (signal_number_at old c.args.signal_numbers.now i op c.requires.signal_numbers c.loop-i-test.true) ∙ w.in-Some.is in
          let moves : move op ≡ w.moved_to-op.result =
          read_moves old.signals columns op w.moved_to-op.result w.in-Some.k c.requires.one_each read w.moved_to-op.ensures.whole w.moved_to-op.ensures.truth in
          let more = w.put.ensures.replaced ∙ ap (slice_set c.loop-i.program.bz i) (sym moves) ∙ mapped_more move old.bz c.loop-i.program.bz i op inside done w.get.ensures in
          w.program-is ∙ ap (λ ops. record c.loop-i.program { bz = ops }) more ∙ ap (λ (p : Program). record p { bz = next }) c.loop-i.invariant
      | in_default w ↦
          let op : BzOp = slice_index_or old.bz i (Neg 0) in
          let unread : signal_read old.signals op ≡ None = sym (signal_number_at old c.args.signal_numbers.now i (Neg 0) c.requires.signal_numbers c.loop-i-test.true) ∙ w.in_default.is in
          w.program-is ∙ c.loop-i.invariant ∙ ap (λ ops. record old { bz = ops }) (mapped_kept move old.bz i (Neg 0) inside (unread_stays old.signals columns op unread))
    ]

pub returns : goal.returns
returns c =
    let old : Program = c.args.program.now in
    let all : length old.bz ≤ c.loop-i.i = omega (arith, c.loop-i-test.false, signal_numbers_long old c.args.signal_numbers.now c.requires.signal_numbers) in
    c.loop-i.invariant ∙ ap (λ ops. record old { bz = ops }) (mapped_all (bound_op old.signals c.args.columns.now) old.bz c.loop-i.i all)
