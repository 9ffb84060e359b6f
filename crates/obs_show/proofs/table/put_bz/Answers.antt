use Rattle.std.proofs.Common.{◌≡◌, ℕ, List, [], ◌∷◌, ◌++◌, take, codes, decimal, subst, ap, ◌∙◌}
use Rattle.std.proofs.lemmas.List.{take_all}
use Rattle.obs_show.specs.TableText.{HasText, figure_fields}
use Rattle.obs_show.specs.Table.{bz_record, blank, csv_lines, numbered}
use Rattle.obs_show.proofs.Rows.{lines_more}
use Rattle.obs_show.proofs.table.put_bz.Goals as goal

pub loop-i-preserved : goal.loop-i-preserved
loop-i-preserved c text has =
    let ops = c.as_slice-op-items.result.now in
    subst (HasText c.put.new.self)
    (lines_more bz_record ops c.loop-i.i _ text _ c.loop-i-test.true (ap (λ fs. codes "bz" ∷ decimal c.loop-i.i ∷ fs ++ (blank ∷ blank ∷ blank ∷ [])) c.bz.ensures))
    (c.in_ok-put.ensures (text ++ csv_lines (numbered bz_record (take c.loop-i.i ops))) (c.loop-i.invariant text has))

pub returns : goal.returns
returns c text has =
    let ops = c.as_slice-op-items.result.now in
    let all : take c.loop-i.i ops ≡ c.args.checked.now.bz = take_all c.loop-i.i ops c.loop-i-test.false ∙ c.as_slice-op-items.ensures ∙ ap (λ program. program.bz) c.program.ensures.program in
    subst (λ rows. HasText c.loop-i.lines (text ++ csv_lines (numbered bz_record rows))) all (c.loop-i.invariant text has)
