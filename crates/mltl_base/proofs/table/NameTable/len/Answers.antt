use Rattle.std.proofs.Common.{◌≡◌, length, ap, sym, ◌∙◌, arith}
use Rattle.mltl_base.proofs.Lookups.{length-entries}
use Rattle.mltl_base.proofs.table.NameTable.len.Goals as goal

pub returns : goal.returns
returns g c =
    let size : length c.args.self.now ≡ length c.self.inside.values.items =
    ap length (sym c.self.view_is) ∙ length-entries 0 c.self.inside.numbers.entries c.self.inside.values.items in
    omega (arith, c.len.ensures, size)
