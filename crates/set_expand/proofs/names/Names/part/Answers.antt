use Rattle.std.proofs.Common.{◌≡◌, ℕ, List, sym, subst, refl, ap, ◌∙◌}
use Rattle.c2po_ast.specs.Shape.{shape}
use Rattle.c2po_types.specs.Values.{picked}
use Rattle.c2po_types.specs.Environment.{fields_in}
use Rattle.c2po_types.proofs.Members.{found_at}
use Rattle.set_expand.specs.Heads.{IsReached, env_in, named_value}
use Rattle.set_expand.proofs.Heading.{unbuilt_picked}
use Rattle.c2po_types.proofs.StoredParts.{picked_open, picked_past}
use Rattle.set_expand.proofs.names.Names.part.Goals as goal

pub returns-in-Some-get-clause-value : goal.returns-in-Some-get-clause-value
returns-in-Some-get-clause-value c =
    let names = c.args.self.now in
    let env = env_in names c.args.scope.now in
    picked_open c.in-Some.parts.now (env_in names c.in-Open.within) c.in-Some.name.now c.in-Some-field_place.place c.in-Some-get.part.now
    (λ y. fields_in (env y)) c.args.field.now (named_value names c.args.whole)
    (ap (named_value names) c.in-Open.is ∙ c.in-Some.ensures.built (env_in names c.in-Open.within))
    (sym c.in-Some-field_place.ensures) (found_at _ _ _ _ refl c.in-Some-get.ensures.lookup.3.0 c.in-Some-get.ensures.lookup.1)

pub returns-in-None-clause-value : goal.returns-in-None-clause-value
returns-in-None-clause-value c =
    let names = c.args.self.now in
    let env = env_in names c.args.scope.now in
    picked_past c.in-Some.parts.now (env_in names c.in-Open.within) c.in-Some.name.now c.in-Some-field_place.place
    (λ y. fields_in (env y)) c.args.field.now (named_value names c.args.whole)
    (ap (named_value names) c.in-Open.is ∙ c.in-Some.ensures.built (env_in names c.in-Open.within))
    (sym c.in-Some-field_place.ensures) c.in-None.ensures.lookup.3

pub returns-in_default-built_parts-clause-value : goal.returns-in_default-built_parts-clause-value
returns-in_default-built_parts-clause-value c =
    let names = c.args.self.now in
    let env = env_in names c.args.scope.now in
    let fields : List ℕ → List (List ℕ) = λ y. fields_in (env y) in
    subst (λ m. named_value names m ≡ picked fields c.args.field.now (named_value names m)) (sym c.in-Open.is)
    (unbuilt_picked (shape c.in-Open.expr.now) (env_in names c.in-Open.within) fields c.args.field.now
    (subst IsReached c.in-Open.is c.requires) (c.built_parts.ensures.none c.in_default-built_parts.is))
