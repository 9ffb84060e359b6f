-- The first offset where the bytes of an entry aren't as they must be.
use Rattle.std.proofs.Common.{◌≡◌, ◌≢◌, ℕ, ◌+◌, ◌<◌, ◌≤◌, true, eqb, List, length, get_or, drop, Some, None, refl, add-one, add-suc, arith}
use Rattle.std.proofs.Math.Seq.{drop-cons}
use Rattle.std.proofs.lemmas.Bool.{ne_eqb}
use Rattle.std.proofs.lemmas.List.{drop_all}
use Rattle.obs_binary.specs.Reading.{first_other}

eqb-same : (a b : ℕ) → a ≡ b → eqb a b ≡ true
eqb-same a b e = grind arith

-- at a byte that is as it must be, the offset is after it
pub first_other-same : (offset i : ℕ) (musts bytes : List ℕ) → i < length musts → i < length bytes → get_or bytes i 0 ≡ get_or musts i 0 → first_other (offset + (i + 1)) (drop (i + 1) musts) (drop (i + 1) bytes) ≡ first_other (offset + i) (drop i musts) (drop i bytes)
unfolding first_other
first_other-same offset i musts bytes im ib same =
    let test = eqb-same _ _ same in
    rw (drop-cons musts i 0, drop-cons bytes i 0, test, add-one, add-suc) refl

-- at another byte, the offset is that of the byte
pub first_other-here : (offset i : ℕ) (musts bytes : List ℕ) → i < length musts → i < length bytes → get_or bytes i 0 ≢ get_or musts i 0 → first_other (offset + i) (drop i musts) (drop i bytes) ≡ Some (offset + i)
unfolding first_other
first_other-here offset i musts bytes im ib other =
    let test = ne_eqb _ _ other in
    rw (drop-cons musts i 0, drop-cons bytes i 0, test) refl

-- after the last byte there is none
pub first_other-end : (offset i : ℕ) (musts bytes : List ℕ) → length musts ≤ i → first_other (offset + i) (drop i musts) (drop i bytes) ≡ None
unfolding first_other
first_other-end offset i musts bytes e = rw (drop_all i musts e) refl
