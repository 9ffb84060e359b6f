use Rattle.std.proofs.Common.{◌≡◌, ◌∙◌, ◌++◌, ◌∷◌, [], None, ap, length, sym, subst}
use Rattle.mltl_base.specs.Tables.{entry_of}
use Rattle.c2po_types.proofs.Finding.{placed_more}
use Rattle.c2po_types.proofs.meanings.Meanings.add.Goals as goal

pub invariant_of-self-2 : goal.invariant_of-self-2
invariant_of-self-2 g c =
    let names = c.self.inside.names in
    let table = c.self.inside.table in
    let longer : c.push.new.self ≡ names ++ record { name = c.args.name.now; number = length table } ∷ [] =
    c.in_ok-push.ensures.pushed
    ∙ (ap (λ ns. ns ++ record { name = c.copy.result; number = c.len-number.result } ∷ []) c.replace-names.ensures.value
    ∙ (ap (λ x. names ++ record { name = x; number = c.len-number.result } ∷ []) c.copy.ensures
    ∙ ap (λ k. names ++ record { name = c.args.name.now; number = k } ∷ []) c.len-number.ensures)) in
    placed_more names c.push.new.self table c.add.new.self c.args.name.now c.args.meaning c.self.invariant
    (subst (λ t. entry_of c.args.name.now t ≡ None) (sym c.self.view_is) c.requires) c.in_ok-add.ensures.added longer
