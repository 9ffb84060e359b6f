-- A list of fixed length after its members were written.
use Rattle.std.proofs.Common.{◌≡◌, List, ◌++◌, length, take, drop, ap, sym, ◌∙◌}
use Rattle.std.proofs.Math.Seq.{take-append_seam}
use Rattle.mltl_base.specs.Lending.{with_members}

-- as many members as before are those of the list
pub with_members_is : {X : Type 0} (list members : List X) → length members ≡ length list → with_members list members ≡ members
with_members_is list members same = ap (λ n. take n (members ++ drop (length members) list)) (sym same) ∙ take-append_seam members (drop (length members) list)
