use Rattle.std.proofs.Common.{◌≡◌, ◌++◌, ◌∷◌, [], None, List, ℕ, length, ap, subst, sym, arith, ◌∙◌}
use Rattle.std.specs.BTreeMap.{insert_entry}
use Rattle.std.specs.Cmp.Lexicographic.{slice_cmp}
use Rattle.std.specs.Map.{lookup}
use Rattle.std.specs.Ordering.{nat_cmp}
use Rattle.std.specs.Str.{bytes_eq}
use Rattle.mltl_base.specs.Entries.{AreNumbered, entries_from}
use Rattle.mltl_base.specs.Tables.{entry_of}
use Rattle.mltl_base.proofs.Lookups.{entries_more, not_found, numbered_more}
use Rattle.mltl_base.proofs.table.NameTable.add.Goals as goal

pub invariant_of-self-2 : goal.invariant_of-self-2
invariant_of-self-2 g c =
    let numbers = c.self.inside.numbers.entries in
    let values = c.self.inside.values.items in
    let key = c.in_ok-key.key in
    let bytes : key.items ≡ c.args.name.now = c.in_ok-key.ensures.items ∙ c.bytes.ensures.bytes in
    let absent : lookup (λ k. bytes_eq key.items k.items) numbers ≡ None = not_found key.items numbers values c.self.invariant
    (ap (λ q. entry_of q (entries_from 0 numbers values)) bytes ∙ (ap (entry_of c.args.name.now) c.self.view_is ∙ c.requires)) in
    let kept : length c.reserve.new.self.items ≡ length values = ap length c.in_ok-reserve.ensures.items in
    let number : c.len.result ≡ length values = omega (arith, c.len.ensures, kept) in
    let put : c.insert.new.self.entries ≡ insert_entry (λ a b. slice_cmp nat_cmp a.items b.items) numbers key (length values) =
    c.in_ok-insert.ensures.entries ∙ ap (insert_entry (λ a b. slice_cmp nat_cmp a.items b.items) numbers key) number in
    let pushed : c.push.new.self.items ≡ values ++ c.args.value ∷ [] = c.in_ok-push.ensures.items ∙ ap (λ vs. vs ++ c.args.value ∷ []) c.in_ok-reserve.ensures.items in
    subst (λ ns. AreNumbered ns c.push.new.self.items) (sym put)
    (subst (λ vs. AreNumbered (insert_entry (λ a b. slice_cmp nat_cmp a.items b.items) numbers key (length values)) vs) (sym pushed)
    (numbered_more key c.args.value numbers values c.self.invariant absent))

pub returns : goal.returns
returns g c =
    let numbers = c.self.inside.numbers.entries in
    let values = c.self.inside.values.items in
    let key = c.in_ok-key.key in
    let bytes : key.items ≡ c.args.name.now = c.in_ok-key.ensures.items ∙ c.bytes.ensures.bytes in
    let absent : lookup (λ k. bytes_eq key.items k.items) numbers ≡ None = not_found key.items numbers values c.self.invariant
    (ap (λ q. entry_of q (entries_from 0 numbers values)) bytes ∙ (ap (entry_of c.args.name.now) c.self.view_is ∙ c.requires)) in
    let kept : length c.reserve.new.self.items ≡ length values = ap length c.in_ok-reserve.ensures.items in
    let number : c.len.result ≡ length values = omega (arith, c.len.ensures, kept) in
    let put : c.insert.new.self.entries ≡ insert_entry (λ a b. slice_cmp nat_cmp a.items b.items) numbers key (length values) =
    c.in_ok-insert.ensures.entries ∙ ap (insert_entry (λ a b. slice_cmp nat_cmp a.items b.items) numbers key) number in
    let pushed : c.push.new.self.items ≡ values ++ c.args.value ∷ [] = c.in_ok-push.ensures.items ∙ ap (λ vs. vs ++ c.args.value ∷ []) c.in_ok-reserve.ensures.items in
    record {
      added = ap (λ ns. entries_from 0 ns c.push.new.self.items) put
          ∙ (ap (λ vs. entries_from 0 (insert_entry (λ a b. slice_cmp nat_cmp a.items b.items) numbers key (length values)) vs) pushed
          ∙ (entries_more key c.args.value numbers values c.self.invariant absent
          ∙ (ap (λ xs. xs ++ (key.items, c.args.value) ∷ []) c.self.view_is
          ∙ ap (λ (x : List ℕ). c.args.self.now ++ (x, c.args.value) ∷ []) bytes)));
    }
