use Rattle.std.proofs.Common.{◌≡◌, ◌∙◌, ℕ, Some, List, map, slice_get, ap, sym, subst}
use Rattle.c2po_ast.specs.ItemShape.{field_shape}
use Rattle.c2po_types.proofs.Members.{at_place}
use Rattle.set_expand.specs.declared.names.Entry.TheVariants.{Struct}
use Rattle.set_expand.specs.Nodes.{HaveNodes}
use Rattle.set_expand.specs.Names.{AreNumbered, SignalsBelow, env_now, with_name}
use Rattle.set_expand.proofs.Naming.{now_with, numbered_with, below_with, kept_with, more_structs}
use Rattle.set_expand.proofs.names.Names.with_struct.Goals as goal

pub invariant_of-result : goal.invariant_of-result
invariant_of-result c =
    let names = c.args.self in
    let structs = c.self.inside.structs in
    let x = c.args.name.now in
    let e = Struct c.args.decls c.len-number.result in
    let numbered : AreNumbered names structs = subst (λ ns. AreNumbered ns structs) c.self.view_is c.self.invariant in
    let put : c.put.new.table ≡ with_name x e names = c.in_ok-put.ensures ∙ ap (with_name x e) c.self.view_is in
    let new = c.push.new.self in
    let own : c.in_ok-own.own ≡ map (λ f. f.name) (map field_shape c.args.decls.now) =
    c.in_ok-own.ensures ∙ (c.in_ok-names.ensures ∙ ap (λ fs. map (λ f. f.name) (map field_shape fs)) c.as_slice.ensures) in
    let there : slice_get new c.len-number.result ≡ Some (map (λ f. f.name) (map field_shape c.args.decls.now)) =
    at_place structs new c.in_ok-own.own c.len-number.result c.in_ok-push.ensures.pushed c.len-number.ensures ∙ ap Some own in
    let more : AreNumbered names new =
    subst (λ (all : List (List (List ℕ))). AreNumbered names all) (sym c.in_ok-push.ensures.pushed) (more_structs names structs numbered c.in_ok-own.own) in
    subst (λ ns. AreNumbered ns new) (sym put) (numbered_with names new more x e tt there)

pub returns-clause-env : goal.returns-clause-env
returns-clause-env c =
    let names = c.args.self in
    let structs = c.self.inside.structs in
    let x = c.args.name.now in
    let e = Struct c.args.decls c.len-number.result in
    let numbered : AreNumbered names structs = subst (λ ns. AreNumbered ns structs) c.self.view_is c.self.invariant in
    let put : c.put.new.table ≡ with_name x e names = c.in_ok-put.ensures ∙ ap (with_name x e) c.self.view_is in
    ap env_now put ∙ now_with names structs numbered x e tt

pub returns-clause-below : goal.returns-clause-below
returns-clause-below c = λ n h.
    let names = c.args.self in
    let structs = c.self.inside.structs in
    let x = c.args.name.now in
    let e = Struct c.args.decls c.len-number.result in
    let put : c.put.new.table ≡ with_name x e names = c.in_ok-put.ensures ∙ ap (with_name x e) c.self.view_is in
    subst (SignalsBelow n) (sym put) (below_with n names x e h tt)

pub returns-clause-kept : goal.returns-clause-kept
returns-clause-kept c = λ nodes h.
    let names = c.args.self in
    let structs = c.self.inside.structs in
    let x = c.args.name.now in
    let e = Struct c.args.decls c.len-number.result in
    let numbered : AreNumbered names structs = subst (λ ns. AreNumbered ns structs) c.self.view_is c.self.invariant in
    let put : c.put.new.table ≡ with_name x e names = c.in_ok-put.ensures ∙ ap (with_name x e) c.self.view_is in
    subst (HaveNodes nodes) (sym put) (kept_with nodes names structs x e numbered tt h tt)
