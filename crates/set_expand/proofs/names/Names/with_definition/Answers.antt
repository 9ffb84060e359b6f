use Rattle.std.proofs.Common.{◌≡◌, ◌∙◌, ap, sym, subst}
use Rattle.c2po_types.specs.Environment.{declare}
use Rattle.set_expand.specs.Nodes.{HaveNodes}
use Rattle.set_expand.specs.Names.{AreNumbered, SignalsBelow, env_now, with_name}
use Rattle.set_expand.proofs.Naming.{now_with, numbered_with, below_with, kept_with}
use Rattle.set_expand.proofs.names.Names.with_definition.Goals as goal

pub invariant_of-result : goal.invariant_of-result
invariant_of-result c =
    let names = c.args.self in
    let structs = c.self.inside.structs in
    let x = c.args.name.now in
    let e = c.in_ok-entry.entry in
    let numbered : AreNumbered names structs = subst (λ ns. AreNumbered ns structs) c.self.view_is c.self.invariant in
    let put : c.put.new.table ≡ with_name x e names = c.in_ok-put.ensures ∙ ap (with_name x e) c.self.view_is in
    subst (λ ns. AreNumbered ns structs) (sym put)
    (numbered_with names structs numbered x e c.in_ok-entry.ensures.early (c.in_ok-entry.ensures.fields structs))

pub returns-clause-env : goal.returns-clause-env
returns-clause-env c =
    let names = c.args.self in
    let structs = c.self.inside.structs in
    let x = c.args.name.now in
    let e = c.in_ok-entry.entry in
    let numbered : AreNumbered names structs = subst (λ ns. AreNumbered ns structs) c.self.view_is c.self.invariant in
    let put : c.put.new.table ≡ with_name x e names = c.in_ok-put.ensures ∙ ap (with_name x e) c.self.view_is in
    ap env_now put ∙ now_with names structs numbered x e c.in_ok-entry.ensures.early
    ∙ ap (λ k. declare x k (env_now names)) c.in_ok-entry.ensures.means

pub returns-clause-below : goal.returns-clause-below
returns-clause-below c = λ n h.
    let names = c.args.self in
    let structs = c.self.inside.structs in
    let x = c.args.name.now in
    let e = c.in_ok-entry.entry in
    let put : c.put.new.table ≡ with_name x e names = c.in_ok-put.ensures ∙ ap (with_name x e) c.self.view_is in
    subst (SignalsBelow n) (sym put) (below_with n names x e h (c.in_ok-entry.ensures.below n h))

pub returns-clause-kept : goal.returns-clause-kept
returns-clause-kept c = λ nodes h made.
    let names = c.args.self in
    let structs = c.self.inside.structs in
    let x = c.args.name.now in
    let e = c.in_ok-entry.entry in
    let numbered : AreNumbered names structs = subst (λ ns. AreNumbered ns structs) c.self.view_is c.self.invariant in
    let put : c.put.new.table ≡ with_name x e names = c.in_ok-put.ensures ∙ ap (with_name x e) c.self.view_is in
    subst (HaveNodes nodes) (sym put) (kept_with nodes names structs x e numbered c.in_ok-entry.ensures.early h (c.in_ok-entry.ensures.kept nodes h made))
