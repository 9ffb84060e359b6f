use Rattle.std.proofs.Common.{◌≡◌, IfOk, refl, subst}
use Rattle.obs_show.proofs.Rows.{parts}
use Rattle.obs_show.proofs.table.instruction_table.Goals as goal

pub returns : goal.returns
returns c = record {
  written = subst (λ text. IfOk c.into_text.result (λ bytes. bytes.items ≡ text)) (parts c.args.checked.now _ refl)
      (c.into_text.ensures _ (c.in_ok-put_pt.ensures _ (c.in_ok-put_ft.ensures _ (c.in_ok-put_bz.ensures _ (c.in_ok-head.ensures _ c.new-lines.ensures)))));
}
