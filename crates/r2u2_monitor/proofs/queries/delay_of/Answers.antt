use Rattle.std.proofs.Common.{◌≡◌, Some, List, slice_get, ap, sym, refl, ◌∙◌}
use Rattle.std.specs.Prelude.{option_map}
use Rattle.std.proofs.lemmas.Option.{slice_get-map, slice_get_read}
use Rattle.mltl_base.specs.declared.program.Out.{Out}
use Rattle.mltl_base.specs.declared.program.Program.{Program}
use Rattle.mltl_base.specs.Programs.{output_of}
use Rattle.mltl_base.specs.Reports.{delay}
use Rattle.contract_status.proofs.Placing.{named}
use Rattle.r2u2_monitor.proofs.queries.delay_of.Goals as goal

pub delay_of_output-requires : goal.delay_of_output-requires
delay_of_output-requires c =
    let outs : c.as_slice.result.now ≡ c.args.checked.now.outs = c.as_slice.ensures ∙ ap (λ (p : Program). p.outs) c.program.ensures.program in
    let there : slice_get c.as_slice.result.now c.args.k ≡ Some c.in_ok-out.out.now =
    slice_get_read c.as_slice.result.now _ c.args.k c.in_ok-out.out.now refl c.in_ok-out.ensures.lookup.3.0 c.in_ok-out.ensures.lookup.1 in
    named c.args.checked.now c.args.k c.in_ok-out.out.now c.program.ensures.well_formed (ap (λ (xs : List Out). slice_get xs c.args.k) (sym outs) ∙ there)

pub returns : goal.returns
returns c =
    let outs : c.as_slice.result.now ≡ c.args.checked.now.outs = c.as_slice.ensures ∙ ap (λ (p : Program). p.outs) c.program.ensures.program in
    let there : slice_get c.as_slice.result.now c.args.k ≡ Some c.in_ok-out.out.now =
    slice_get_read c.as_slice.result.now _ c.args.k c.in_ok-out.out.now refl c.in_ok-out.ensures.lookup.3.0 c.in_ok-out.ensures.lookup.1 in
    ap Some c.delay_of_output.ensures
    ∙ sym (ap (option_map delay) (slice_get-map (output_of c.args.checked.now) c.args.checked.now.outs c.args.k
    ∙ ap (option_map (output_of c.args.checked.now)) (ap (λ (xs : List Out). slice_get xs c.args.k) (sym outs) ∙ there)))
