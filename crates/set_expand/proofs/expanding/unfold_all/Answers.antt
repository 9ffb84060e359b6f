use Rattle.std.proofs.Common.{◌+◌, map, drop, subst}
use Rattle.c2po_ast.specs.ItemShape.{item_shape}
use Rattle.set_expand.specs.Unfolded.{Leaves}
use Rattle.set_expand.proofs.Lightness.{are-light}
use Rattle.set_expand.proofs.Stepping.{first-few, leaves-all, leaves-less, left-first, left-none}
use Rattle.set_expand.proofs.expanding.unfold_all.Goals as goal

pub loop-i-init : goal.loop-i-init
loop-i-init c =
    let all = map item_shape c.args.items.now in
    leaves-all c.new-unfolded.result all c.new-unfolded.ensures (are-light all c.requires)

pub after-requires-clause-few : goal.after-requires-clause-few
after-requires-clause-few c =
    let items = c.args.items.now in
    let k = c.loop-i.i in
    let item = c.index-items-i.result in
    let old = c.loop-i.unfolded in
    let here = subst (λ left. Leaves old left (map item_shape items)) (left-first items k item c.loop-i-test.true c.index-items-i.is) c.loop-i.invariant in
    first-few old (item_shape item) (map item_shape (drop (k + 1) items)) (map item_shape items) here c.requires

pub loop-i-preserved : goal.loop-i-preserved
loop-i-preserved c =
    let items = c.args.items.now in
    let k = c.loop-i.i in
    let item = c.index-items-i.result in
    let old = c.loop-i.unfolded in
    let here = subst (λ left. Leaves old left (map item_shape items)) (left-first items k item c.loop-i-test.true c.index-items-i.is) c.loop-i.invariant in
    leaves-less old c.in_ok-unfolded.unfolded (item_shape item) (map item_shape (drop (k + 1) items)) (map item_shape items) here
    (c.in_ok-unfolded.ensures here.place here.told here.stands)

pub returns : goal.returns
returns c =
    let items = c.args.items.now in
    subst (λ left. Leaves c.loop-i.unfolded left (map item_shape items)) (left-none items c.loop-i.i c.loop-i-test.false) c.loop-i.invariant
