use Rattle.std.proofs.Common.{ap, sym, subst, refl, ◌∙◌, IfOk}
use Rattle.c2po_ast.specs.Shape.{shapes}
use Rattle.c2po_ast.proofs.Rows.{shape_of-Build, shape_of-Group}
use Rattle.c2po_types.specs.Values.{built, grouped}
use Rattle.c2po_types.specs.Environment.{value_of, values_of, fields_in}
use Rattle.c2po_types.specs.Heads.{Heads}
use Rattle.c2po_types.proofs.Members.{found_at}
use Rattle.c2po_types.proofs.StoredParts.{picked_open, picked_past, other_picked}
use Rattle.c2po_types.proofs.unfolding.Unfolding.+heading.Goals as goal

pub head-returns-in-Build-clause-head : goal.head-returns-in-Build-clause-head
head-returns-in-Build-clause-head t c = λ env h. (
  env,
  h,
  ap (λ s. value_of s env) (shape_of-Build c.args.e.now c.in-Build.name c.in-Build.parts c.in-Build.is)
      ∙ ap (λ es. built c.in-Build.name (values_of (shapes es) env)) (sym c.as_slice.ensures.value),
  refl,
)

pub head-returns-in-Group-clause-head : goal.head-returns-in-Group-clause-head
head-returns-in-Group-clause-head t c = λ env h. (
  env,
  h,
  ap (λ s. value_of s env) (shape_of-Group c.args.e.now c.in-Group.members c.in-Group.is)
      ∙ ap (λ es. grouped (values_of (shapes es) env)) (sym c.as_slice-in-Group.ensures.value),
  refl,
)

pub part-returns-in-Some-get-clause-head : goal.part-returns-in-Some-get-clause-head
part-returns-in-Some-get-clause-head t c = λ env v f k.
    let g = subst (λ h. Heads c.args.self.now h v) c.in-Struct.is k in
    subst (λ w. IfOk c.head.result (λ h. Heads c.args.self.now h w))
    (picked_open c.in-Struct.parts.now g.0 c.in-Struct.name.now c.in-Some.place c.in-Some-get.part.now (λ y. fields_in (env y)) c.args.field.now v g.2
    (sym (c.in-Some.ensures env f)) (found_at _ _ _ _ refl c.in-Some-get.ensures.lookup.3.0 c.in-Some-get.ensures.lookup.1))
    (c.head.ensures.head g.0 g.1)

pub part-returns-in-None-clause-head : goal.part-returns-in-None-clause-head
part-returns-in-None-clause-head t c = λ env v f k.
    let g = subst (λ h. Heads c.args.self.now h v) c.in-Struct.is k in
    subst (λ w. Heads c.args.self.now c.args.whole w)
    (picked_past c.in-Struct.parts.now g.0 c.in-Struct.name.now c.in-Some.place (λ y. fields_in (env y)) c.args.field.now v g.2
    (sym (c.in-Some.ensures env f)) c.in-None.ensures.lookup.3) k

pub part-returns-in-Nothing : goal.part-returns-in-Nothing
part-returns-in-Nothing t c = record {
  head = λ env v f k. subst (λ w. Heads c.args.self.now c.args.whole w)
      (sym (other_picked c.args.self.now c.args.whole v (λ y. fields_in (env y)) c.args.field.now c.in-Nothing.is k)) k;
  memory = tt;
}
