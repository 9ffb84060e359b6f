use Rattle.std.proofs.Common.{sym, map, ap, ◌∙◌, [], ◌∷◌}
use Rattle.std.proofs.lemmas.List.{map-append}
use Rattle.std.proofs.lemmas.Result.{err_from_is_err_and}
use Rattle.c2po_ast.specs.ItemShape.{item_shape}
use Rattle.c2po_parse.specs.Specification.{reads_on}
use Rattle.c2po_parse.proofs.Spans.{reads_section, reads-item, reads-fault}
use Rattle.c2po_parse.proofs.parser.read_front.Goals as goal

pub returns-in-Some-clause-read : goal.returns-in-Some-clause-read
returns-in-Some-clause-read c =
    reads_section (map item_shape c.args.items.now) c.args.section.now c.args.tokens.now c.index-tokens-0.result c.in-Some.next c.requires (sym c.in-Some.ensures)

pub returns-clause-read : goal.returns-clause-read
returns-clause-read c =
    reads-item (map item_shape c.args.items.now) c.args.section.now c.args.tokens.now c.in_ok-item.rest.now (item_shape c.in_ok-item.item) c.in_ok-item.ensures.item
    ∙ ap (λ is. reads_on is c.args.section.now c.in_ok-item.rest.now)
    (sym (ap (map item_shape) c.in_ok-push.ensures.pushed ∙ map-append item_shape c.args.items.now (c.in_ok-item.item ∷ [])))

pub returns-in_err-item-clause-fault : goal.returns-in_err-item-clause-fault
returns-in_err-item-clause-fault c =
    let p = err_from_is_err_and c.from_residual.result c.from_residual.ensures.1 in
    rw (p.1, p.2) (λ other. reads-fault (map item_shape c.args.items.now) c.args.section.now c.args.tokens.now c.in_err-item.field-0.0 (c.in_err-item.ensures.fault other))
