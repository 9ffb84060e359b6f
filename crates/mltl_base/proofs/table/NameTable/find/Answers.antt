use Rattle.std.proofs.Common.{◌≡◌, ◌<◌, None, Some, length, refl, ap, sym, ◌∙◌, arith}
use Rattle.std.proofs.lemmas.Option.{slice_get_read}
use Rattle.std.specs.Map.{lookup}
use Rattle.std.specs.Str.{bytes_eq}
use Rattle.mltl_base.specs.Tables.{entry_of}
use Rattle.mltl_base.proofs.Lookups.{found_by_order, found_value, found_within, missing}
use Rattle.mltl_base.proofs.table.NameTable.find.Goals as goal

pub index-requires : goal.index-requires
index-requires g c =
    let numbers = c.self.inside.numbers.entries in
    let values = c.self.inside.values.items in
    let found : lookup (λ k. bytes_eq c.args.name.now k.items) numbers ≡ Some c.in-Some.number.now =
    sym (c.in-Some.ensures.value ∙ (found_by_order c.bytes.result.now numbers ∙ ap (λ q. lookup (λ k. bytes_eq q k.items) numbers) c.bytes.ensures.bytes)) in
    let inside : c.in-Some.number.now < length values = found_within c.args.name.now numbers values c.in-Some.number.now c.self.invariant found in
    omega (arith, inside)

pub returns-in-Some : goal.returns-in-Some
returns-in-Some g c =
    let numbers = c.self.inside.numbers.entries in
    let values = c.self.inside.values.items in
    let found : lookup (λ k. bytes_eq c.args.name.now k.items) numbers ≡ Some c.in-Some.number.now =
    sym (c.in-Some.ensures.value ∙ (found_by_order c.bytes.result.now numbers ∙ ap (λ q. lookup (λ k. bytes_eq q k.items) numbers) c.bytes.ensures.bytes)) in
    let inside : c.in-Some.number.now < length values = found_within c.args.name.now numbers values c.in-Some.number.now c.self.invariant found in
    sym (slice_get_read values (length values) c.in-Some.number.now c.index.result.now refl inside c.index.ensures)
    ∙ (found_value c.args.name.now numbers values c.in-Some.number.now c.self.invariant found ∙ ap (entry_of c.args.name.now) c.self.view_is)

pub returns-in-None : goal.returns-in-None
returns-in-None g c =
    let numbers = c.self.inside.numbers.entries in
    let values = c.self.inside.values.items in
    let found : lookup (λ k. bytes_eq c.args.name.now k.items) numbers ≡ None =
    sym (c.in-None.ensures.value ∙ (found_by_order c.bytes.result.now numbers ∙ ap (λ q. lookup (λ k. bytes_eq q k.items) numbers) c.bytes.ensures.bytes)) in
    sym (missing c.args.name.now numbers values c.self.invariant found) ∙ ap (entry_of c.args.name.now) c.self.view_is
