use Rattle.std.proofs.Common.{◌≡◌, length, ap, sym, ◌∙◌, option_map, slice_get, refl, ◌<◌, arith}
use Rattle.std.proofs.lemmas.Option.{slice_get_read}
use Rattle.mltl_base.proofs.Lookups.{entry_value, length-entries}
use Rattle.mltl_base.proofs.table.NameTable.value_at.Goals as goal

pub index-requires : goal.index-requires
index-requires g c =
    let size : length c.args.self.now ≡ length c.self.inside.values.items =
    ap length (sym c.self.view_is) ∙ length-entries 0 c.self.inside.numbers.entries c.self.inside.values.items in
    omega (arith, size)

pub returns : goal.returns
returns g c =
    let numbers = c.self.inside.numbers.entries in
    let values = c.self.inside.values.items in
    let size : length c.args.self.now ≡ length values = ap length (sym c.self.view_is) ∙ length-entries 0 numbers values in
    let inside : c.args.number < length values = omega (arith, size) in
    ap (λ t. option_map (λ e. e.1) (slice_get t c.args.number)) (sym c.self.view_is) ∙ (entry_value 0 numbers values c.args.number ∙ slice_get_read values (length values) c.args.number c.index.result.now refl inside c.index.ensures)
