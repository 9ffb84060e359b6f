-- Numbers in bytes: what a field can hold, and that a written number is read again.
use Rattle.std.proofs.Common.{◌≡◌, ℕ, ◌+◌, ◌^◌, ◌<◌, List, get_or, take, drop, ap, subst, ◌∙◌, arith, inl, inr}
use Rattle.std.specs.Prelude.{ℤ, FitsSigned}
use Rattle.std.specs.Int.{w32, w64, to_le_bytes, from_le_bytes, cast_signed, cast_unsigned}
use mir.ValLaws.{of_z_fits}
use Rattle.std.proofs.Math.Facts.{sfits_to_z}
use Rattle.std.proofs.lemmas.Int.{to_z-of_z}
use Rattle.std.proofs.lemmas.Bool.{cases_lt}
use Rattle.std.proofs.lemmas.List.{get_or-drop, get_or-take, get_or_past, length-take}
use Rattle.std.proofs.lemmas.Nat.{from_le_bytes-to_le_bytes_8}
use Rattle.obs_binary.specs.Reading.{u32_from, signed_at}

abbrev pub IsBytes : List ℕ → Type 0
IsBytes bytes = (i : ℕ) → get_or bytes i 0 < 256

pub IsBytes-drop : (n : ℕ) (bytes : List ℕ) → IsBytes bytes → IsBytes (drop n bytes)
IsBytes-drop n bytes h i = rw get_or-drop (h (n + i))

pub IsBytes-take : (n : ℕ) (bytes : List ℕ) → IsBytes bytes → IsBytes (take n bytes)
IsBytes-take n bytes h i =
    elim (cases_lt i n) [
      | inl lt ↦ rw (get_or-take n bytes i 0 lt) (h i)
      | inr le ↦ rw (get_or_past (take n bytes) i 0 (omega (arith, length-take n bytes))) (omega arith)
    ]

below32 : (bytes : List ℕ) → IsBytes bytes → from_le_bytes w32 bytes < 2 ^ 32
below32 bytes fits = omega (arith, fits 0, fits 1, fits 2, fits 3)

below64 : (bytes : List ℕ) → IsBytes bytes → from_le_bytes w64 bytes < 2 ^ 64
below64 bytes fits = omega (arith, fits 0, fits 1, fits 2, fits 3, fits 4, fits 5, fits 6, fits 7)

pub number-below : (bytes : List ℕ) (k : ℕ) → IsBytes bytes → u32_from bytes k < 2 ^ 32
number-below bytes k fits = below32 (take 4 (drop k bytes)) (IsBytes-take 4 (drop k bytes) (IsBytes-drop k bytes fits))

-- a number that a field gave fits the field
pub field-below : (bytes : List ℕ) (k n : ℕ) → IsBytes bytes → u32_from bytes k ≡ n → n < 2 ^ 32
field-below bytes k n fits e = subst (λ m. m < 2 ^ 32) e (number-below bytes k fits)

pub signed-fits : (bytes : List ℕ) (k : ℕ) (z : ℤ) → IsBytes bytes → signed_at bytes k ≡ z → FitsSigned w64 z
signed-fits bytes k z fits e =
    let below = below64 (take 8 (drop k bytes)) (IsBytes-take 8 (drop k bytes) (IsBytes-drop k bytes fits)) in
    subst (λ x. FitsSigned w64 x) e (sfits_to_z (record { fits = below }))

pub signed-again : (z : ℤ) → FitsSigned w64 z → cast_signed w64 (from_le_bytes w64 (to_le_bytes w64 (cast_unsigned w64 z))) ≡ z
signed-again z fits =
    let below : cast_unsigned w64 z < 2 ^ 64 = (of_z_fits w64 z fits).fits in
    ap (λ n. cast_signed w64 n) (from_le_bytes-to_le_bytes_8 (cast_unsigned w64 z) below) ∙ to_z-of_z w64 z fits
