use Rattle.std.proofs.Common.{◌≡◌, ◌∙◌, length, ap, sym, subst}
use Rattle.set_expand.specs.Names.{AreNumbered, env_now, env_of}
use Rattle.set_expand.proofs.Naming.{all_names}
use Rattle.set_expand.proofs.names.Names.count.Goals as goal

pub returns-clause-all : goal.returns-clause-all
returns-clause-all c =
    let names = c.args.self.now in
    let structs = c.self.inside.structs in
    let numbered : AreNumbered names structs = subst (λ ns. AreNumbered ns structs) c.self.view_is c.self.invariant in
    subst (λ n. env_of names n ≡ env_now names) (sym (c.len.ensures ∙ ap length c.self.view_is)) (all_names names structs numbered)
