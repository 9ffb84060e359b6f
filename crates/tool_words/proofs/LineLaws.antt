-- The text of a line is shorter than the longest line.

use Rattle.std.proofs.Common.{◌≡◌, ℕ, ◌-◌, ◌<◌, ◌≤◌, ◌==◌, ◌&&◌, nat_lt, Bool, true, false, if◌then◌else◌, List, [], ◌∷◌, ◌++◌, length, take, slice_index, refl, sym, ◌∙◌, ap, subst, arith, inl, inr}
use Rattle.std.proofs.lemmas.List.{length-append, length-take}
use Rattle.std.proofs.lemmas.Bool.Decides.{nat_tests}
use Rattle.tool_io.specs.Cutting.{IsRow, ends_in, without_end, line_text}

-- the byte at the end of a line
last_byte : (body : List ℕ) → slice_index (body ++ 10 ∷ []) (length body) ≡ 10
last_byte [] = refl
last_byte (byte ∷ body) = last_byte body

ends_line : (body : List ℕ) → ends_in 10 (body ++ 10 ∷ []) ≡ true
ends_line body =
    let size : length (body ++ 10 ∷ []) - 1 ≡ length body = omega (arith, length-append body (10 ∷ [])) in
    let some : nat_lt 0 (length (body ++ 10 ∷ [])) ≡ true = grind (arith, nat_tests, length-append body (10 ∷ [])) in
    ap (λ b. b && (slice_index (body ++ 10 ∷ []) (length (body ++ 10 ∷ []) - 1) == 10)) some
    ∙ ap (λ n. slice_index (body ++ 10 ∷ []) n == 10) size
    ∙ ap (λ n. n == 10) (last_byte body)

without_shorter : (byte : ℕ) (bytes : List ℕ) → length (without_end byte bytes) ≤ length bytes
without_shorter byte bytes =
    elim (ends_in byte bytes) as (λ b. length (if b then take (length bytes - 1) bytes else bytes) ≤ length bytes) [
      | true ↦ omega (arith, length-take (length bytes - 1) bytes)
      | false ↦ omega arith
    ]

-- the text of a line is shorter than the longest line
pub text_short : (raw rest : List ℕ) (ended : Bool) → length raw ≤ 65536 → IsRow raw rest ended → length (line_text raw) < 65536
text_short raw rest ended fits (inl whole) =
    let ends : ends_in 10 raw ≡ true = ap (ends_in 10) whole.is ∙ ends_line whole.body in
    let text : line_text raw ≡ without_end 13 (take (length raw - 1) raw) = ap (λ (b : Bool). if b then without_end 13 (take (length raw - 1) raw) else raw) ends in
    let short : length (without_end 13 (take (length raw - 1) raw)) < 65536 = omega (arith, fits, without_shorter 13 (take (length raw - 1) raw), length-take (length raw - 1) raw) in
    subst (λ t. length t < 65536) (sym text) short
text_short raw rest ended fits (inr last) =
    elim (ends_in 10 raw) as (λ b. length (if b then without_end 13 (take (length raw - 1) raw) else raw) < 65536) [
      | true ↦ omega (arith, fits, without_shorter 13 (take (length raw - 1) raw), length-take (length raw - 1) raw)
      | false ↦ omega (arith, last.short)
    ]
