use Rattle.std.proofs.Common.{ap, ◌∙◌, is_some}
use Rattle.std.specs.Map.{lookup}
use Rattle.std.specs.Str.{bytes_eq}
use Rattle.mltl_base.specs.Tables.{is_named}
use Rattle.mltl_base.proofs.Lookups.{found_by_order, is_found}
use Rattle.mltl_base.proofs.table.NameTable.contains.Goals as goal

pub returns : goal.returns
returns g c =
    let numbers = c.self.inside.numbers.entries in
    let values = c.self.inside.values.items in
    c.contains_key.ensures
    ∙ (ap is_some (found_by_order c.bytes.result.now numbers ∙ ap (λ q. lookup (λ k. bytes_eq q k.items) numbers) c.bytes.ensures.bytes)
    ∙ (is_found c.args.name.now numbers values c.self.invariant ∙ ap (is_named c.args.name.now) c.self.view_is))
