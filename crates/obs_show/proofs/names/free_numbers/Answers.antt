use Rattle.std.proofs.Common.{◌≡◌, ℕ, Bool, true, false, not, [], ◌∷◌, ◌++◌, ap, ◌∙◌, sym}
use Rattle.obs_verify.specs.Kinds.{has_name}
use Rattle.obs_verify.proofs.NameSets.{found_by_order}
use Rattle.obs_show.specs.Naming.{is_signal_name, numbered_name}
use Rattle.obs_show.proofs.NameLaws.{filter_kept, filter_left}
use Rattle.obs_show.proofs.names.free_numbers.Goals.{then-not-contains+in_ok-push, else-not-contains}
use Rattle.obs_show.proofs.names.free_numbers.Goals as goal

pub loop-n-preserved : goal.loop-n-preserved
loop-n-preserved c =
    let n : ℕ = c.loop-n.n in
    let signals = c.args.signals.now in
    let test : ℕ → Bool = λ k. not (is_signal_name signals (numbered_name k)) in
    let name : c.add_name.new.text.items ≡ numbered_name n = c.in_ok-add_name.ensures ∙ ap (λ xs. xs ++ numbered_name n) c.clear.ensures.items in
    let held : c.contains.result ≡ is_signal_name signals (numbered_name n) =
    c.contains.ensures ∙ found_by_order c.add_name.new.text.items c.in_ok-names.names.keys ∙ ap (has_name c.in_ok-names.names) name ∙ c.in_ok-names.ensures (numbered_name n) in
    let free : not c.contains.result ≡ test n = ap not held in
    elim c.if-not-contains.branch [
      | then-not-contains+in_ok-push w ↦
          let yes : test n ≡ true = sym free ∙ ap not w.if-not-contains.true in
          ap (λ v. v.items) w.numbers-is ∙ w.in_ok-push.ensures.items ∙ ap (λ ns. ns ++ n ∷ []) c.loop-n.invariant ∙ sym (filter_kept test n yes)
      | else-not-contains w ↦
          let no : test n ≡ false = sym free ∙ ap not w.if-not-contains.false in
          ap (λ v. v.items) w.numbers-is ∙ c.loop-n.invariant ∙ sym (filter_left test n no)
    ]
