use Rattle.std.proofs.Common.{◌∙◌, sym}
use Rattle.trace_columns.proofs.PlaceLaws.{places_again, places_kept, places_new}
use Rattle.trace_columns.proofs.names.Places.note.Goals as goal

pub returns-in_ok-add : goal.returns-in_ok-add
returns-in_ok-add c = λ names size known.
    places_new names c.args.self.now c.args.name.now c.args.column c.add.new.self known c.requires.some c.requires.limit size
    (let h = c.contains.ensures in let k = c.if-not-contains.true in sym h ∙ k) c.in_ok-add.ensures.added

pub returns-in_ok-add-2 : goal.returns-in_ok-add-2
returns-in_ok-add-2 c = λ names size known.
    places_again names c.args.self.now c.args.name.now c.args.column c.add-then-not-contains-2.new.self known c.requires.some c.requires.limit
    (let h = c.contains.ensures in let k = c.if-not-contains.false in sym h ∙ k) c.in_ok-add-2.ensures.added

pub returns-else-not-contains-2 : goal.returns-else-not-contains-2
returns-else-not-contains-2 c = λ names size known.
    places_kept names c.args.self.now c.args.name.now known c.requires.some c.requires.limit
    (let h = c.contains.ensures in let k = c.if-not-contains.false in sym h ∙ k)
    (let h = c.contains-else-not-contains.ensures in let k = c.if-not-contains-2.false in sym h ∙ k)
