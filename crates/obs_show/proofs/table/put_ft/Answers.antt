use Rattle.std.proofs.Common.{◌≡◌, ℕ, List, [], ◌∷◌, ◌++◌, take, codes, decimal, subst, ap, ◌∙◌}
use Rattle.std.proofs.lemmas.List.{take_all}
use Rattle.obs_show.specs.TableText.{HasText, shown_fields}
use Rattle.obs_show.specs.Table.{ft_record, ft_figure_fields, csv_lines, numbered}
use Rattle.obs_show.proofs.Rows.{lines_more}
use Rattle.obs_show.proofs.table.put_ft.Goals as goal

pub loop-i-preserved : goal.loop-i-preserved
loop-i-preserved c text has =
    let ops = c.as_slice-op-items.result.now in
    subst (HasText c.put.new.self)
    (lines_more (ft_record c.args.checked.now) ops c.loop-i.i _ text _ c.loop-i-test.true (ap (λ fs. codes "ft" ∷ decimal c.loop-i.i ∷ shown_fields c.ft.result ++ fs) c.ft_figures.ensures
    ∙ ap (λ fs. codes "ft" ∷ decimal c.loop-i.i ∷ fs ++ ft_figure_fields c.args.checked.now c.loop-i.i) c.ft.ensures))
    (c.in_ok-put.ensures (text ++ csv_lines (numbered (ft_record c.args.checked.now) (take c.loop-i.i ops))) (c.loop-i.invariant text has))

pub returns : goal.returns
returns c text has =
    let ops = c.as_slice-op-items.result.now in
    let all : take c.loop-i.i ops ≡ c.args.checked.now.ft = take_all c.loop-i.i ops c.loop-i-test.false ∙ c.as_slice-op-items.ensures ∙ ap (λ program. program.ft) c.program.ensures.program in
    subst (λ rows. HasText c.loop-i.lines (text ++ csv_lines (numbered (ft_record c.args.checked.now) rows))) all (c.loop-i.invariant text has)
