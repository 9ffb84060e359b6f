use Rattle.std.proofs.Common.{◌≡◌, ◌∙◌, true, Some, sym, subst}
use Rattle.std.specs.Str.{bytes_eq}
use Rattle.c2po_types.proofs.Members.{found_at}
use Rattle.mltl_base.specs.Tables.{entry_of}
use Rattle.c2po_types.proofs.Finding.{found_means, found_within}
use Rattle.c2po_types.proofs.meanings.Meanings.near.Goals as goal

pub value_at-requires : goal.value_at-requires
value_at-requires g c =
    found_within c.self.inside.names c.self.inside.table _ c.in_ok-own.own.now c.self.invariant
    (found_at _ _ _ _ c.as_slice.ensures c.in_ok-own.ensures.lookup.3.0 c.in_ok-own.ensures.lookup.1)

pub returns-then-eq : goal.returns-then-eq
returns-then-eq g c =
    let own = c.in_ok-own.own.now in
    let same : bytes_eq own.name c.args.name.now ≡ true =
    subst (λ x. bytes_eq own.name x ≡ true) c.bytes-2.ensures.bytes
    (subst (λ y. bytes_eq y c.bytes-2.result.now ≡ true) c.bytes.ensures.bytes (sym c.eq.ensures ∙ c.if-eq.true)) in
    subst (λ t. entry_of c.args.name.now t ≡ Some c.value_at.result) c.self.view_is
    (found_means c.self.inside.names c.self.inside.table _ own c.args.name.now c.value_at.result c.self.invariant
    (found_at _ _ _ _ c.as_slice.ensures c.in_ok-own.ensures.lookup.3.0 c.in_ok-own.ensures.lookup.1) same c.value_at.ensures)
