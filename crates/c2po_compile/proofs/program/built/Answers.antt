use Rattle.std.proofs.Common.{◌∙◌, ◌<◌, ◌^◌, map, length, ap, subst}
use Rattle.std.specs.List.{flat_map, list_all}
use Rattle.std.proofs.lemmas.List.Elements.{All-map}
use Rattle.c2po_ast.specs.ItemShape.{spec_shape}
use Rattle.c2po_ast.specs.Names.{IsPlainName}
use Rattle.c2po_ast.specs.Outputs.{asked}
use Rattle.mltl_base.specs.Letters.{is_in_word}
use Rattle.obs_binary.specs.Layout.{out_names, signal_name, signal_names}
use Rattle.c2po_compile.specs.Images.{stored_signals}
use Rattle.c2po_compile.proofs.Tenses.{image_names}
use Rattle.c2po_compile.specs.Image.{image}
use Rattle.c2po_compile.proofs.ImageLaws.{image_is}
use Rattle.c2po_compile.proofs.NameLaws.{output_letters, signal_letters}
use Rattle.c2po_compile.proofs.program.built.Goals as goal

pub build-requires : goal.build-requires
build-requires c = record {
  sound = rw c.signals_of.ensures.signals c.requires.unfolded.sound;
  faultless = c.requires.unfolded.ranged;
  kinds = rw c.signals_of.ensures.signals c.requires.unfolded.kinds;
  named = c.signals_of.ensures.named;
  one_each = rw c.signals_of.ensures.signals c.requires.columns.one_each;
  below = c.requires.columns.below;
  different = c.requires.columns.different;
  narrow = c.requires.columns.narrow;
}

pub returns-clause-image : goal.returns-clause-image
returns-clause-image c =
    image_is c.args.columns.now c.signals_of.result.now (asked c.args.expanded.now) c.in_ok-checked.checked c.in_ok-checked.ensures.image
    ∙ ap (λ signals. image c.args.columns.now signals (asked c.args.expanded.now)) c.signals_of.ensures.signals

pub returns-clause-names : goal.returns-clause-names
returns-clause-names c =
    let checked = c.in_ok-checked.checked in
    let outs = asked c.args.expanded.now in
    let columns = c.args.columns.now.of_signal in
    let built = c.in_ok-checked.ensures.image in
    let counted = subst (λ p. (length (out_names p) < 2 ^ 32) × (length (signal_names p) < 2 ^ 32)) c.program.ensures.program
    (c.are_countable.ensures.0 c.if-not-are_countable.false) in
    record {
      out_letters = output_letters checked.outs (map (λ a. a.name) outs) (image_names c.signals_of.result.now c.args.columns.now outs checked built)
          (All-map IsPlainName (λ a. a.name) outs c.requires.unfolded.named);
      out_bytes = counted.0;
      signal_letters = ap (λ signals. list_all is_in_word (flat_map signal_name signals)) (built.inputs ∙ ap (λ signals. stored_signals signals columns) c.signals_of.ensures.signals)
          ∙ signal_letters (spec_shape c.args.spec.now) columns c.signals_of.ensures.plain;
      signal_bytes = counted.1;
    }
