use Rattle.std.proofs.Common.{◌≡◌, ℕ, ◌+◌, ◌<◌, List, ◌++◌, length, take, arith, subst, ap, ◌∙◌}
use Rattle.obs_show.specs.Writing.{written}
use Rattle.obs_show.proofs.TextLaws.{begun, grown, over_limit}
use Rattle.obs_show.proofs.text.add_all.Goals as goal

pub loop-k-init : goal.loop-k-init
loop-k-init g c = record { text = begun (g.T.Shown.bytes c.args.checked.now) c.args.text.now.items; short = c.requires.short }

pub loop-k-preserved : goal.loop-k-preserved
loop-k-preserved g c =
    let rule = g.T.Shown.bytes c.args.checked.now in
    let now : List ℕ = c.loop-k.text.items in
    record {
      text = grown rule c.args.text.now.items now c.add_line.new.text.items c.args.members.now c.loop-k.k c.index-members-k.result
          c.loop-k-test.true c.loop-k.invariant.text (c.in_ok-add_line.ensures ∙ ap (λ x. now ++ rule c.loop-k.k x) c.index-members-k.is);
      short = omega (arith, c.if-len-gt-MAX_SHOWN_BYTES.false, c.len.ensures, c.add_line.new.text.ok.0);
    }

pub returns-then-len-gt-MAX_SHOWN_BYTES : goal.returns-then-len-gt-MAX_SHOWN_BYTES
returns-then-len-gt-MAX_SHOWN_BYTES g c =
    let rule = g.T.Shown.bytes c.args.checked.now in
    let old : List ℕ = c.args.text.now.items in
    let now : List ℕ = c.loop-k.text.items in
    let new : List ℕ = c.add_line.new.text.items in
    let xs = c.args.members.now in
    let more : new ≡ old ++ written rule 0 (take (c.loop-k.k + 1) xs) = grown rule old now new xs c.loop-k.k c.index-members-k.result c.loop-k-test.true c.loop-k.invariant.text (c.in_ok-add_line.ensures ∙ ap (λ x. now ++ rule c.loop-k.k x) c.index-members-k.is) in
    let long : 1048576 < length new = omega (arith, c.if-len-gt-MAX_SHOWN_BYTES.true, c.len.ensures, c.add_line.new.text.ok.0) in
    subst (λ ys. 1048576 < length (old ++ written rule 0 ys)) c.requires.all (over_limit rule 1048576 old new xs (c.loop-k.k + 1) long more)
