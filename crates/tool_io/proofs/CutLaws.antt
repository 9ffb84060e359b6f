-- How the lines of bytes follow from their cuts: a row is the first line, and what is pending has the others.
use Rattle.std.proofs.Common.{◌≡◌, ℕ, ◌≤◌, ◌<◌, ◌==◌, ◌⊎◌, ◌&&◌, ◌||◌, not, nat_le, Bool, true, false, if◌then◌else◌, List, [], ◌∷◌, ◌++◌, length, take, refl, sym, ◌∙◌, ap, inl, inr, arith}
use Rattle.std.proofs.lemmas.List.{append_assoc, append-nil, take_all, take_at, length-append}
use Rattle.std.proofs.lemmas.Bool.Decides.{nat_tests}
use Rattle.std.proofs.lemmas.Bool.{eqb-true}
use Rattle.tool_io.proofs.LineLaws.{HasNoNewline-append}
use Rattle.tool_io.specs.Cutting.{HasNoNewline, has_newline, EndsLine, IsLastRow, IsRow, onto, whole_lines, rest_of, last_line, lines_of, is_long}

-- bytes without a newline
pub has_newline-none : (bytes : List ℕ) → HasNoNewline bytes → has_newline bytes ≡ false
has_newline-none [] none = refl
has_newline-none (byte ∷ bytes) none = ap (λ v. v || has_newline bytes) none.0 ∙ has_newline-none bytes none.1

-- bytes with one
pub has_newline-some : (body rest : List ℕ) → has_newline (body ++ 10 ∷ rest) ≡ true
has_newline-some [] rest = refl
has_newline-some (byte ∷ body) rest =
    ap (λ v. (byte == 10) || v) (has_newline-some body rest) ∙ elim (byte == 10) as (λ v. v || true ≡ true) [ true ↦ refl | false ↦ refl ]

pub whole_lines-none : (bytes : List ℕ) → HasNoNewline bytes → whole_lines bytes ≡ []
whole_lines-none [] none = refl
whole_lines-none (byte ∷ bytes) none =
    ap (λ v. if v then (byte ∷ []) ∷ whole_lines bytes else onto byte (whole_lines bytes)) none.0 ∙ ap (onto byte) (whole_lines-none bytes none.1)

pub whole_lines-row : (body rest : List ℕ) → HasNoNewline body → whole_lines (body ++ 10 ∷ rest) ≡ (body ++ 10 ∷ []) ∷ whole_lines rest
whole_lines-row [] rest none = refl
whole_lines-row (byte ∷ body) rest none =
    ap (λ v. if v then (byte ∷ []) ∷ whole_lines (body ++ 10 ∷ rest) else onto byte (whole_lines (body ++ 10 ∷ rest))) none.0 ∙ ap (onto byte) (whole_lines-row body rest none.1)

pub rest_of-none : (bytes : List ℕ) → HasNoNewline bytes → rest_of bytes ≡ bytes
rest_of-none [] none = refl
rest_of-none (byte ∷ bytes) none = ap (λ v. if v then rest_of bytes else byte ∷ bytes) (has_newline-none (byte ∷ bytes) none)

pub rest_of-row : (body rest : List ℕ) → rest_of (body ++ 10 ∷ rest) ≡ rest_of rest
rest_of-row [] rest = refl
rest_of-row (byte ∷ body) rest = ap (λ v. if v then rest_of (body ++ 10 ∷ rest) else byte ∷ (body ++ 10 ∷ rest)) (has_newline-some (byte ∷ body) rest) ∙ rest_of-row body rest

-- a whole line in front is the first line
pub lines_of-row : (ended : Bool) (raw rest : List ℕ) → EndsLine raw → lines_of ended (raw ++ rest) ≡ raw ∷ lines_of ended rest
lines_of-row ended raw rest line =
    let all : raw ++ rest ≡ line.body ++ 10 ∷ rest = ap (λ bytes. bytes ++ rest) line.is ∙ append_assoc line.body (10 ∷ []) rest in
    ap (lines_of ended) all
    ∙ ap (λ lines. lines ++ last_line ended (rest_of (line.body ++ 10 ∷ rest))) (whole_lines-row line.body rest line.one)
    ∙ ap (λ bytes. (line.body ++ 10 ∷ []) ∷ (whole_lines rest ++ last_line ended bytes)) (rest_of-row line.body rest)
    ∙ ap (λ bytes. bytes ∷ lines_of ended rest) (sym line.is)

-- without a newline, only what may stand as the last line is a line
pub lines_of-plain : (ended : Bool) (bytes : List ℕ) → HasNoNewline bytes → lines_of ended bytes ≡ last_line ended bytes
lines_of-plain ended bytes none = ap (λ lines. lines ++ last_line ended (rest_of bytes)) (whole_lines-none bytes none) ∙ ap (last_line ended) (rest_of-none bytes none)

-- fewer bytes than the longest line has, without a newline and an end, are no line
pub lines_of-none : (bytes : List ℕ) → HasNoNewline bytes → length bytes < 65536 → lines_of false bytes ≡ []
lines_of-none bytes none short = lines_of-plain false bytes none ∙ last_line-short bytes short
  where
    last_line-short : (bytes : List ℕ) → length bytes < 65536 → last_line false bytes ≡ []
    last_line-short [] short = refl
    last_line-short (byte ∷ bytes) short =
        let test : nat_le 65536 (length (byte ∷ bytes)) ≡ false = grind (arith, nat_tests) in
        ap (λ v. if v then (byte ∷ bytes) ∷ [] else []) test

-- the last line, at the end
pub lines_of-last : (raw rest : List ℕ) (ended : Bool) → IsLastRow raw rest ended → lines_of ended (raw ++ rest) ≡ raw ∷ []
lines_of-last raw rest ended last =
    let all : raw ++ rest ≡ raw = ap (λ bytes. raw ++ bytes) last.no_rest ∙ append-nil raw in
    ap (lines_of ended) all ∙ lines_of-plain ended raw last.no_newline ∙ ap (λ v. last_line v raw) last.at_end ∙ last_line-ended raw last.some
  where
    last_line-ended : (raw : List ℕ) → 0 < length raw → last_line true raw ≡ raw ∷ []
    last_line-ended [] some = absurd (omega arith)
    last_line-ended (byte ∷ bytes) some = refl

-- a row isn't too long
pub is_long-row : (raw rest : List ℕ) (ended : Bool) → length raw ≤ 65536 → IsRow raw rest ended → is_long raw ≡ false
is_long-row raw rest ended within (inl line) =
    let front : take 65536 raw ≡ raw = take_all 65536 raw within in
    let found : has_newline raw ≡ true = ap has_newline line.is ∙ has_newline-some line.body [] in
    ap (λ bytes. nat_le 65536 (length raw) && not (has_newline bytes)) front
    ∙ ap (λ v. nat_le 65536 (length raw) && not v) found
    ∙ elim (nat_le 65536 (length raw)) as (λ v. v && false ≡ false) [ true ↦ refl | false ↦ refl ]
is_long-row raw rest ended within (inr last) =
    let short = last.short in
    let test : nat_le 65536 (length raw) ≡ false = grind (arith, nat_tests) in
    ap (λ v. v && not (has_newline (take 65536 raw))) test

-- bytes have no newline, or a first one
first_newline : (bytes : List ℕ) → HasNoNewline bytes ⊎ ((body : List ℕ) × (rest : List ℕ) × HasNoNewline body × (bytes ≡ body ++ 10 ∷ rest))
first_newline [] = inl tt
first_newline (byte ∷ bytes) =
    elim (byte == 10) as (λ v. (byte == 10) ≡ v → HasNoNewline (byte ∷ bytes) ⊎ ((body : List ℕ) × (rest : List ℕ) × HasNoNewline body × (byte ∷ bytes ≡ body ++ 10 ∷ rest))) [
      | true ↦ λ is. inr ([], bytes, tt, ap (λ b. b ∷ bytes) (eqb-true byte 10 is))
      | false ↦ λ is.
          elim (first_newline bytes) [
            | inl none ↦ inl (is, none)
            | inr found ↦ inr (byte ∷ found.0, found.1, (is, found.2), ap (λ rest. byte ∷ rest) found.3)
          ]
    ]
    refl

-- the first of some lines, which is too long
pub record StartsLong (lines : List (List ℕ)) : Type 0 where
  pub raw : List ℕ
  pub others : List (List ℕ)
  pub split : lines ≡ raw ∷ others
  pub long : is_long raw ≡ true

is_long-front : (bytes more : List ℕ) → HasNoNewline bytes → length bytes ≡ 65536 → is_long (bytes ++ more) ≡ true
is_long-front bytes more none size =
    let within : 65536 ≤ length (bytes ++ more) = omega (arith, length-append bytes more, size) in
    let test : nat_le 65536 (length (bytes ++ more)) ≡ true = grind (arith, nat_tests) in
    ap (λ front. nat_le 65536 (length (bytes ++ more)) && not (has_newline front)) (take_at bytes more 65536 size)
    ∙ ap (λ v. nat_le 65536 (length (bytes ++ more)) && not v) (has_newline-none bytes none)
    ∙ ap (λ v. v && true) test

last_line-long : (ended : Bool) (bytes : List ℕ) → 65536 ≤ length bytes → last_line ended bytes ≡ bytes ∷ []
last_line-long ended [] long = absurd (omega arith)
last_line-long ended (byte ∷ bytes) long =
    let test : nat_le 65536 (length (byte ∷ bytes)) ≡ true = grind (arith, nat_tests) in
    ap (λ v. if ended || v then (byte ∷ bytes) ∷ [] else []) test ∙ elim ended as (λ v. (if v || true then (byte ∷ bytes) ∷ [] else []) ≡ (byte ∷ bytes) ∷ []) [ true ↦ refl | false ↦ refl ]

-- 65,536 bytes without a newline begin a line that is too long, whatever follows
pub lines_of-long : (ended : Bool) (bytes more : List ℕ) → HasNoNewline bytes → length bytes ≡ 65536 → StartsLong (lines_of ended (bytes ++ more))
lines_of-long ended bytes more none size =
    elim (first_newline more) [
      | inl plain ↦
          record {
            raw = bytes ++ more;
            others = [];
            split = lines_of-plain ended (bytes ++ more) (HasNoNewline-append bytes more none plain) ∙ last_line-long ended (bytes ++ more) (omega (arith, length-append bytes more, size));
            long = is_long-front bytes more none size;
          }
      | inr found ↦
          let line : EndsLine ((bytes ++ found.0) ++ 10 ∷ []) = record { body = bytes ++ found.0; is = refl; one = HasNoNewline-append bytes found.0 none found.2 } in
          let all : bytes ++ more ≡ ((bytes ++ found.0) ++ 10 ∷ []) ++ found.1 = ap (λ rest. bytes ++ rest) found.3 ∙ sym (append_assoc bytes found.0 (10 ∷ found.1)) ∙ sym (append_assoc (bytes ++ found.0) (10 ∷ []) found.1) in
          record {
            raw = (bytes ++ found.0) ++ 10 ∷ [];
            others = lines_of ended found.1;
            split = ap (lines_of ended) all ∙ lines_of-row ended ((bytes ++ found.0) ++ 10 ∷ []) found.1 line;
            long = ap is_long (append_assoc bytes found.0 (10 ∷ [])) ∙ is_long-front bytes (found.0 ++ 10 ∷ []) none size;
          }
    ]
