use Rattle.std.specs.Prelude.{⊤}
use Rattle.std.proofs.Common.{◌≡◌, ◌++◌, [], ℕ, List, ap, ◌∙◌, arith, length}
use Rattle.std.proofs.lemmas.List.{append-nil}
use Rattle.std.proofs.lemmas.Result.{err_from_is_err_and}
use Rattle.mltl_base.specs.declared.program.Program.{Program}
use Rattle.obs_show.specs.Text.{text as text_of}
use Rattle.obs_show.specs.Writing.{bz_bytes, ft_bytes, output_bytes, pt_bytes, signal_bytes, written}
use Rattle.obs_show.proofs.TextLaws.{lacking_all, lacking_less, too_long}
use Rattle.obs_show.proofs.text.write.Goals as goal

abbrev outputs_of : Program → List ℕ
outputs_of P = written (output_bytes P) 0 P.outs

-- what is lacking after each part
abbrev from_pt : Program → List ℕ
from_pt P = written (pt_bytes P) 0 P.pt ++ outputs_of P

abbrev from_ft : Program → List ℕ
from_ft P = written (ft_bytes P) 0 P.ft ++ from_pt P

abbrev from_bz : Program → List ℕ
from_bz P = written (bz_bytes P) 0 P.bz ++ from_ft P

pub returns-in_err-add_all-clause-fault : goal.returns-in_err-add_all-clause-fault
returns-in_err-add_all-clause-fault c =
    let P : Program = c.args.checked.now in
    let l0 = lacking_all P c.new-text.result.items c.new-text.ensures.items in
    let p = err_from_is_err_and c.from_residual-in_err-add_all.result c.from_residual-in_err-add_all.ensures.1 in
    rw (p.1, p.2) (too_long ⊤ (text_of P) c.new-text.result.items (written signal_bytes 0 P.signals) (from_bz P) c.add_all.new.text.items c.in_err-add_all.field-0.0 l0 c.in_err-add_all.ensures)

pub returns-in_err-add_all-2-clause-fault : goal.returns-in_err-add_all-2-clause-fault
returns-in_err-add_all-2-clause-fault c =
    let P : Program = c.args.checked.now in
    let l0 = lacking_all P c.new-text.result.items c.new-text.ensures.items in
    let l1 = lacking_less (text_of P) c.new-text.result.items (written signal_bytes 0 P.signals) (from_bz P) c.add_all.new.text.items l0 c.in_ok-add_all.ensures.0 in
    let p = err_from_is_err_and c.from_residual-in_err-add_all-2.result c.from_residual-in_err-add_all-2.ensures.1 in
    rw (p.1, p.2) (too_long ⊤ (text_of P) c.add_all.new.text.items (written (bz_bytes P) 0 P.bz) (from_ft P) c.add_all-2.new.text.items c.in_err-add_all-2.field-0.0 l1 c.in_err-add_all-2.ensures)

pub returns-in_err-add_all-3-clause-fault : goal.returns-in_err-add_all-3-clause-fault
returns-in_err-add_all-3-clause-fault c =
    let P : Program = c.args.checked.now in
    let l0 = lacking_all P c.new-text.result.items c.new-text.ensures.items in
    let l1 = lacking_less (text_of P) c.new-text.result.items (written signal_bytes 0 P.signals) (from_bz P) c.add_all.new.text.items l0 c.in_ok-add_all.ensures.0 in
    let l2 = lacking_less (text_of P) c.add_all.new.text.items (written (bz_bytes P) 0 P.bz) (from_ft P) c.add_all-2.new.text.items l1 c.in_ok-add_all-2.ensures.0 in
    let p = err_from_is_err_and c.from_residual-in_err-add_all-3.result c.from_residual-in_err-add_all-3.ensures.1 in
    rw (p.1, p.2) (too_long ⊤ (text_of P) c.add_all-2.new.text.items (written (ft_bytes P) 0 P.ft) (from_pt P) c.add_all-3.new.text.items c.in_err-add_all-3.field-0.0 l2 c.in_err-add_all-3.ensures)

pub returns-in_err-add_all-4-clause-fault : goal.returns-in_err-add_all-4-clause-fault
returns-in_err-add_all-4-clause-fault c =
    let P : Program = c.args.checked.now in
    let l0 = lacking_all P c.new-text.result.items c.new-text.ensures.items in
    let l1 = lacking_less (text_of P) c.new-text.result.items (written signal_bytes 0 P.signals) (from_bz P) c.add_all.new.text.items l0 c.in_ok-add_all.ensures.0 in
    let l2 = lacking_less (text_of P) c.add_all.new.text.items (written (bz_bytes P) 0 P.bz) (from_ft P) c.add_all-2.new.text.items l1 c.in_ok-add_all-2.ensures.0 in
    let l3 = lacking_less (text_of P) c.add_all-2.new.text.items (written (ft_bytes P) 0 P.ft) (from_pt P) c.add_all-3.new.text.items l2 c.in_ok-add_all-3.ensures.0 in
    let p = err_from_is_err_and c.from_residual-in_err-add_all-4.result c.from_residual-in_err-add_all-4.ensures.1 in
    rw (p.1, p.2) (too_long ⊤ (text_of P) c.add_all-3.new.text.items (written (pt_bytes P) 0 P.pt) (outputs_of P) c.add_all-4.new.text.items c.in_err-add_all-4.field-0.0 l3 c.in_err-add_all-4.ensures)

pub returns-in_err-add_all-5-clause-fault : goal.returns-in_err-add_all-5-clause-fault
returns-in_err-add_all-5-clause-fault c =
    let P : Program = c.args.checked.now in
    let l0 = lacking_all P c.new-text.result.items c.new-text.ensures.items in
    let l1 = lacking_less (text_of P) c.new-text.result.items (written signal_bytes 0 P.signals) (from_bz P) c.add_all.new.text.items l0 c.in_ok-add_all.ensures.0 in
    let l2 = lacking_less (text_of P) c.add_all.new.text.items (written (bz_bytes P) 0 P.bz) (from_ft P) c.add_all-2.new.text.items l1 c.in_ok-add_all-2.ensures.0 in
    let l3 = lacking_less (text_of P) c.add_all-2.new.text.items (written (ft_bytes P) 0 P.ft) (from_pt P) c.add_all-3.new.text.items l2 c.in_ok-add_all-3.ensures.0 in
    let l4 = lacking_less (text_of P) c.add_all-3.new.text.items (written (pt_bytes P) 0 P.pt) (outputs_of P) c.add_all-4.new.text.items l3 c.in_ok-add_all-4.ensures.0 in
    let p = err_from_is_err_and c.from_residual-in_err-add_all-5.result c.from_residual-in_err-add_all-5.ensures.1 in
    rw (p.1, p.2) (too_long ⊤ (text_of P) c.add_all-4.new.text.items (written (output_bytes P) 0 P.outs) [] c.add_all-5.new.text.items c.in_err-add_all-5.field-0.0 (ap (λ ts. c.add_all-4.new.text.items ++ ts) (append-nil (outputs_of P)) ∙ l4) c.in_err-add_all-5.ensures)

pub returns-clause-text : goal.returns-clause-text
returns-clause-text c =
    let P : Program = c.args.checked.now in
    let l0 = lacking_all P c.new-text.result.items c.new-text.ensures.items in
    let l1 = lacking_less (text_of P) c.new-text.result.items (written signal_bytes 0 P.signals) (from_bz P) c.add_all.new.text.items l0 c.in_ok-add_all.ensures.0 in
    let l2 = lacking_less (text_of P) c.add_all.new.text.items (written (bz_bytes P) 0 P.bz) (from_ft P) c.add_all-2.new.text.items l1 c.in_ok-add_all-2.ensures.0 in
    let l3 = lacking_less (text_of P) c.add_all-2.new.text.items (written (ft_bytes P) 0 P.ft) (from_pt P) c.add_all-3.new.text.items l2 c.in_ok-add_all-3.ensures.0 in
    let l4 = lacking_less (text_of P) c.add_all-3.new.text.items (written (pt_bytes P) 0 P.pt) (outputs_of P) c.add_all-4.new.text.items l3 c.in_ok-add_all-4.ensures.0 in
    c.in_ok-add_all-5.ensures.0 ∙ l4

pub returns-clause-short : goal.returns-clause-short
returns-clause-short c =
    let P : Program = c.args.checked.now in
    let l0 = lacking_all P c.new-text.result.items c.new-text.ensures.items in
    let l1 = lacking_less (text_of P) c.new-text.result.items (written signal_bytes 0 P.signals) (from_bz P) c.add_all.new.text.items l0 c.in_ok-add_all.ensures.0 in
    let l2 = lacking_less (text_of P) c.add_all.new.text.items (written (bz_bytes P) 0 P.bz) (from_ft P) c.add_all-2.new.text.items l1 c.in_ok-add_all-2.ensures.0 in
    let l3 = lacking_less (text_of P) c.add_all-2.new.text.items (written (ft_bytes P) 0 P.ft) (from_pt P) c.add_all-3.new.text.items l2 c.in_ok-add_all-3.ensures.0 in
    let l4 = lacking_less (text_of P) c.add_all-3.new.text.items (written (pt_bytes P) 0 P.pt) (outputs_of P) c.add_all-4.new.text.items l3 c.in_ok-add_all-4.ensures.0 in
    let whole : c.add_all-5.new.text.items ≡ text_of P = c.in_ok-add_all-5.ensures.0 ∙ l4 in
    omega (arith, c.in_ok-add_all-5.ensures.1, ap length whole)
