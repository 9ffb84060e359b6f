-- Headers: what is read is spelled so, and what is spelled so is read.
use Rattle.std.proofs.Common.{◌≡◌, ℕ, zero, suc, ◌+◌, ◌*◌, ◌^◌, ◌≤◌, ◌<◌, Bool, true, false, cond, not, ltb, List, [], ◌∷◌, ◌++◌, length, get_or, take, drop, Result, Ok, Err, refl, sym, ap, subst, ◌∙◌, append_assoc, add-zero, arith, inl, inr, ◌⊎◌}
use Rattle.std.proofs.Math.Seq.{drop-cons}
use Rattle.std.specs.Prelude.{◌||◌, codes, nat_eq, ◌==◌}
use Rattle.std.specs.Int.{w16, w32, from_le_bytes, to_le_bytes}
use Rattle.std.specs.List.{flat_map, starts_with}
use Rattle.std.proofs.lemmas.Bool.{eqb-true, ltb-false, le-ltb, or_cases, not-false}
use Rattle.std.proofs.lemmas.List.{take-append-drop, length-take, length-drop}
use Rattle.std.proofs.lemmas.Nat.{le_bytes_2, le_bytes_4, from_le_bytes-to_le_bytes_4}
use Rattle.std.proofs.lemmas.Grind.{common_steps}
use Rattle.std.proofs.lemmas.Bool.Decides.{Decides-eqb}
use Rattle.std.proofs.lemmas.Slice.Eq.{starts_is}
use Rattle.obs_binary.specs.declared.fault.ReadFault.{ReadFault}
use Rattle.obs_binary.specs.declared.fault.ReadFault.TheVariants.{Short, Magic, Version, Reserved, Trailing}
use Rattle.obs_binary.specs.declared.header.Header.{Header}
use Rattle.obs_binary.specs.Layout.{u16_bytes, u32_bytes, header_len, header_bytes, signal_counts}
use Rattle.obs_binary.specs.Reading.{short_at, u32_from, header_fields, said_len, header_at}
use Rattle.obs_binary.proofs.Numbers.{IsBytes, IsBytes-drop, IsBytes-take, number-below}
use Rattle.obs_binary.proofs.Parts.{ok_is}

-- ---- numbers in a row

seam : (n k : ℕ) (bytes : List ℕ) → drop (k + n) bytes ≡ drop n (drop k bytes)
seam n k bytes = grind (arith, common_steps)

u32-back : (bytes : List ℕ) (k : ℕ) → IsBytes bytes → k + 4 ≤ length bytes → u32_bytes (u32_from bytes k) ++ drop (k + 4) bytes ≡ drop k bytes
unfolding u32_bytes
u32-back bytes k fits room =
    let front = IsBytes-take 4 (drop k bytes) (IsBytes-drop k bytes fits) in
    let len : length (take 4 (drop k bytes)) ≡ 4 = omega (arith, length-take 4 (drop k bytes), length-drop k bytes) in
    let same : to_le_bytes w32 (u32_from bytes k) ≡ take 4 (drop k bytes) = le_bytes_4 (take 4 (drop k bytes)) (u32_from bytes k) len front refl in
    ap (λ x. x ++ drop (k + 4) bytes) same ∙ ap (λ x. take 4 (drop k bytes) ++ x) (seam 4 k bytes) ∙ take-append-drop 4 (drop k bytes)

numbers_from : List ℕ → ℕ → ℕ → List ℕ
numbers_from bytes k zero = []
numbers_from bytes k (suc n) = u32_from bytes k ∷ numbers_from bytes (k + 4) n

numbers-back : (n : ℕ) (bytes : List ℕ) (k : ℕ) → IsBytes bytes → k + 4 * n ≤ length bytes → flat_map u32_bytes (numbers_from bytes k n) ++ drop (k + 4 * n) bytes ≡ drop k bytes
unfolding numbers_from
numbers-back zero bytes k fits room = ap (λ x. drop x bytes) (add-zero k)
numbers-back (suc n) bytes k fits room =
    let next : k + 4 * suc n ≡ (k + 4) + 4 * n = omega arith in
    let others = numbers-back n bytes (k + 4) fits (omega arith) in
    append_assoc (u32_bytes (u32_from bytes k)) (flat_map u32_bytes (numbers_from bytes (k + 4) n)) (drop (k + 4 * suc n) bytes)
    ∙ ap (λ x. u32_bytes (u32_from bytes k) ++ (flat_map u32_bytes (numbers_from bytes (k + 4) n) ++ drop x bytes)) next
    ∙ ap (λ x. u32_bytes (u32_from bytes k) ++ x) others
    ∙ u32-back bytes k fits (omega arith)

-- ---- what is read

guard : {A : Type 0} (b : Bool) (fault : ReadFault) (r : Result A ReadFault) (y : A) → cond b (Err fault) r ≡ Ok y → (b ≡ false) × (r ≡ Ok y)
guard true fault r y e = absurd cc
guard false fault r y e = (refl, e)

-- what the header at the front of the bytes was found to be
record Found (bytes : List ℕ) (h : Header) : Type 0 where
  long : 32 ≤ length bytes
  magic : starts_with nat_eq bytes (codes "MLTL") ≡ true
  version : ((short_at bytes 4 == 1) || (short_at bytes 4 == 2)) ≡ true
  sixth : get_or bytes 6 0 ≡ 0
  seventh : get_or bytes 7 0 ≡ 0
  room : header_len (short_at bytes 4) ≤ length bytes
  fields : header_fields (short_at bytes 4) bytes ≡ h
  said : said_len h ≡ length bytes

found : (bytes : List ℕ) (h : Header) → header_at bytes ≡ Ok h → Found bytes h
unfolding header_at
found bytes h e =
    let v = short_at bytes 4 in
    let made = header_fields v bytes in
    let end : Result Header ReadFault = Ok made in
    let r7 = cond (ltb (said_len made) (length bytes)) (Err Trailing) end in
    let r6 = cond (ltb (length bytes) (said_len made)) (Err Short) r7 in
    let r5 = cond (ltb (length bytes) (header_len v)) (Err Short) r6 in
    let r4 = cond (not (get_or bytes 7 0 == 0)) (Err (Reserved 7)) r5 in
    let r3 = cond (not (get_or bytes 6 0 == 0)) (Err (Reserved 6)) r4 in
    let r2 = cond (not ((v == 1) || (v == 2))) (Err Version) r3 in
    let r1 = cond (not (starts_with nat_eq bytes (codes "MLTL"))) (Err Magic) r2 in
    let g0 = guard (ltb (length bytes) 32) Short r1 h e in
    let g1 = guard (not (starts_with nat_eq bytes (codes "MLTL"))) Magic r2 h g0.1 in
    let g2 = guard (not ((v == 1) || (v == 2))) Version r3 h g1.1 in
    let g3 = guard (not (get_or bytes 6 0 == 0)) (Reserved 6) r4 h g2.1 in
    let g4 = guard (not (get_or bytes 7 0 == 0)) (Reserved 7) r5 h g3.1 in
    let g5 = guard (ltb (length bytes) (header_len v)) Short r6 h g4.1 in
    let g6 = guard (ltb (length bytes) (said_len made)) Short r7 h g5.1 in
    let g7 = guard (ltb (said_len made) (length bytes)) Trailing end h g6.1 in
    let fields : made ≡ h = ok_is made h g7.1 in
    let low : said_len made ≤ length bytes = ltb-false _ _ g6.0 in
    let high : length bytes ≤ said_len made = ltb-false _ _ g7.0 in
    let said : said_len made ≡ length bytes = omega arith in
    record {
      long = ltb-false _ _ g0.0;
      magic = not-false _ g1.0;
      version = not-false _ g2.0;
      sixth = eqb-true _ _ (not-false _ g3.0);
      seventh = eqb-true _ _ (not-false _ g4.0);
      room = ltb-false _ _ g5.0;
      fields = fields;
      said = subst (λ x. said_len x ≡ length bytes) fields said;
    }

-- what the fields of a header can hold
pub record HoldsHeader (h : Header) : Type 0 where
  pub version : ((h.version ≡ 1) × (h.signals ≡ 0) × (h.signal_bytes ≡ 0)) ⊎ (h.version ≡ 2)
  pub width : h.width < 2 ^ 32
  pub bz : h.bz < 2 ^ 32
  pub ft : h.ft < 2 ^ 32
  pub pt : h.pt < 2 ^ 32
  pub outs : h.outs < 2 ^ 32
  pub name_bytes : h.name_bytes < 2 ^ 32
  pub signals : h.signals < 2 ^ 32
  pub signal_bytes : h.signal_bytes < 2 ^ 32

u16-back : (bytes : List ℕ) (k : ℕ) → IsBytes bytes → k + 2 ≤ length bytes → drop k bytes ≡ u16_bytes (short_at bytes k) ++ drop (k + 2) bytes
unfolding u16_bytes
u16-back bytes k fits room =
    let front = IsBytes-take 2 (drop k bytes) (IsBytes-drop k bytes fits) in
    let len : length (take 2 (drop k bytes)) ≡ 2 = omega (arith, length-take 2 (drop k bytes), length-drop k bytes) in
    let same : to_le_bytes w16 (short_at bytes k) ≡ take 2 (drop k bytes) = le_bytes_2 (take 2 (drop k bytes)) (short_at bytes k) len front refl in
    sym (ap (λ x. x ++ drop (k + 2) bytes) same ∙ ap (λ x. take 2 (drop k bytes) ++ x) (seam 2 k bytes) ∙ take-append-drop 2 (drop k bytes))

-- the letters, the version and the two bytes after it
front-is : (bytes : List ℕ) (h : Header) → IsBytes bytes → Found bytes h → bytes ≡ codes "MLTL" ++ (u16_bytes (short_at bytes 4) ++ (0 ∷ 0 ∷ drop 8 bytes))
front-is bytes h fits f =
    let long : 32 ≤ length bytes = f.long in
    let letters : bytes ≡ codes "MLTL" ++ drop 4 bytes = (starts_is Decides-eqb bytes (codes "MLTL") (starts_with nat_eq bytes (codes "MLTL")) refl).0 f.magic in
    let version : drop 4 bytes ≡ u16_bytes (short_at bytes 4) ++ drop 6 bytes = u16-back bytes 4 fits (omega arith) in
    let sixth : drop 6 bytes ≡ 0 ∷ drop 7 bytes = drop-cons bytes 6 0 (omega arith) ∙ ap (λ b. b ∷ drop 7 bytes) f.sixth in
    let seventh : drop 7 bytes ≡ 0 ∷ drop 8 bytes = drop-cons bytes 7 0 (omega arith) ∙ ap (λ b. b ∷ drop 8 bytes) f.seventh in
    letters ∙ ap (λ x. codes "MLTL" ++ x) (version ∙ ap (λ x. u16_bytes (short_at bytes 4) ++ x) (sixth ∙ ap (λ x. 0 ∷ x) seventh))

-- the bytes of a header with others after it
regroup-header : (h : Header) (rest : List ℕ) → header_bytes h ++ rest ≡ codes "MLTL" ++ (u16_bytes h.version ++ (0 ∷ 0 ∷ (flat_map u32_bytes (h.width ∷ h.bz ∷ h.ft ∷ h.pt ∷ h.outs ∷ h.name_bytes ∷ []) ++ (signal_counts h ++ rest))))
unfolding header_bytes
regroup-header h rest =
    let numbers = flat_map u32_bytes (h.width ∷ h.bz ∷ h.ft ∷ h.pt ∷ h.outs ∷ h.name_bytes ∷ []) in
    let after : (u16_bytes h.version ++ (0 ∷ 0 ∷ (numbers ++ signal_counts h))) ++ rest ≡ u16_bytes h.version ++ (0 ∷ 0 ∷ (numbers ++ (signal_counts h ++ rest))) =
    append_assoc (u16_bytes h.version) (0 ∷ 0 ∷ (numbers ++ signal_counts h)) rest ∙ ap (λ x. u16_bytes h.version ++ (0 ∷ 0 ∷ x)) (append_assoc numbers (signal_counts h) rest) in
    ap (λ x. codes "MLTL" ++ x) after

numbers-first : (bytes : List ℕ) → IsBytes bytes → 32 ≤ length bytes → drop 8 bytes ≡ flat_map u32_bytes (u32_from bytes 8 ∷ u32_from bytes 12 ∷ u32_from bytes 16 ∷ u32_from bytes 20 ∷ u32_from bytes 24 ∷ u32_from bytes 28 ∷ []) ++ drop 32 bytes
unfolding numbers_from
numbers-first bytes fits long = sym (numbers-back 6 bytes 8 fits long)

numbers-second : (bytes : List ℕ) → IsBytes bytes → 40 ≤ length bytes → drop 32 bytes ≡ flat_map u32_bytes (u32_from bytes 32 ∷ u32_from bytes 36 ∷ []) ++ drop 40 bytes
unfolding numbers_from
numbers-second bytes fits long = sym (numbers-back 2 bytes 32 fits long)

pub record TakesHeader (bytes : List ℕ) (h : Header) : Type 0 where
  pub parts : bytes ≡ header_bytes h ++ drop (header_len h.version) bytes
  pub holds : HoldsHeader h

in-one : (bytes : List ℕ) (h : Header) → IsBytes bytes → Found bytes h → short_at bytes 4 ≡ 1 → TakesHeader bytes (header_fields 1 bytes)
in-one bytes h fits f one =
    let made = header_fields 1 bytes in
    let front : bytes ≡ codes "MLTL" ++ (u16_bytes 1 ++ (0 ∷ 0 ∷ drop 8 bytes)) = subst (λ v. bytes ≡ codes "MLTL" ++ (u16_bytes v ++ (0 ∷ 0 ∷ drop 8 bytes))) one (front-is bytes h fits f) in
    record {
      parts = front ∙ ap (λ x. codes "MLTL" ++ (u16_bytes 1 ++ (0 ∷ 0 ∷ x))) (numbers-first bytes fits f.long) ∙ sym (regroup-header made (drop 32 bytes));
      holds = record {
        version = inl (refl, refl, refl);
        width = number-below bytes 8 fits;
        bz = number-below bytes 12 fits;
        ft = number-below bytes 16 fits;
        pt = number-below bytes 20 fits;
        outs = number-below bytes 24 fits;
        name_bytes = number-below bytes 28 fits;
        signals = omega arith;
        signal_bytes = omega arith;
      };
    }

in-two : (bytes : List ℕ) (h : Header) → IsBytes bytes → Found bytes h → short_at bytes 4 ≡ 2 → TakesHeader bytes (header_fields 2 bytes)
in-two bytes h fits f two =
    let made = header_fields 2 bytes in
    let long : 40 ≤ length bytes = subst (λ v. header_len v ≤ length bytes) two f.room in
    let front : bytes ≡ codes "MLTL" ++ (u16_bytes 2 ++ (0 ∷ 0 ∷ drop 8 bytes)) = subst (λ v. bytes ≡ codes "MLTL" ++ (u16_bytes v ++ (0 ∷ 0 ∷ drop 8 bytes))) two (front-is bytes h fits f) in
    let numbers = flat_map u32_bytes (made.width ∷ made.bz ∷ made.ft ∷ made.pt ∷ made.outs ∷ made.name_bytes ∷ []) in
    record {
      parts = front ∙ ap (λ x. codes "MLTL" ++ (u16_bytes 2 ++ (0 ∷ 0 ∷ x))) (numbers-first bytes fits f.long ∙ ap (λ x. numbers ++ x) (numbers-second bytes fits long)) ∙ sym (regroup-header made (drop 40 bytes));
      holds = record {
        version = inr refl;
        width = number-below bytes 8 fits;
        bz = number-below bytes 12 fits;
        ft = number-below bytes 16 fits;
        pt = number-below bytes 20 fits;
        outs = number-below bytes 24 fits;
        name_bytes = number-below bytes 28 fits;
        signals = number-below bytes 32 fits;
        signal_bytes = number-below bytes 36 fits;
      };
    }

pub header-takes : (bytes : List ℕ) (h : Header) → IsBytes bytes → header_at bytes ≡ Ok h → TakesHeader bytes h × (said_len h ≡ length bytes)
header-takes bytes h fits e =
    let f = found bytes h e in
    let takes : TakesHeader bytes h = elim (or_cases (short_at bytes 4 == 1) (short_at bytes 4 == 2) f.version) [
      | inl one ↦ let v = eqb-true (short_at bytes 4) 1 one in
          subst (λ x. TakesHeader bytes x) (ap (λ n. header_fields n bytes) (sym v) ∙ f.fields) (in-one bytes h fits f v)
      | inr two ↦ let v = eqb-true (short_at bytes 4) 2 two in
          subst (λ x. TakesHeader bytes x) (ap (λ n. header_fields n bytes) (sym v) ∙ f.fields) (in-two bytes h fits f v)
    ] in
    (takes, f.said)

-- ---- what is spelled

pass : {A : Type 0} (b : Bool) (fault : ReadFault) (r : Result A ReadFault) (y : A) → b ≡ false → r ≡ Ok y → cond b (Err fault) r ≡ Ok y
pass true fault r y h e = absurd cc
pass false fault r y h e = e

passes : (bytes : List ℕ) (h : Header) → Found bytes h → header_at bytes ≡ Ok h
unfolding header_at
passes bytes h f =
    let v = short_at bytes 4 in
    let made = header_fields v bytes in
    let end : Result Header ReadFault = Ok made in
    let r7 = cond (ltb (said_len made) (length bytes)) (Err Trailing) end in
    let r6 = cond (ltb (length bytes) (said_len made)) (Err Short) r7 in
    let r5 = cond (ltb (length bytes) (header_len v)) (Err Short) r6 in
    let r4 = cond (not (get_or bytes 7 0 == 0)) (Err (Reserved 7)) r5 in
    let r3 = cond (not (get_or bytes 6 0 == 0)) (Err (Reserved 6)) r4 in
    let r2 = cond (not ((v == 1) || (v == 2))) (Err Version) r3 in
    let r1 = cond (not (starts_with nat_eq bytes (codes "MLTL"))) (Err Magic) r2 in
    let said : said_len made ≡ length bytes = subst (λ x. said_len x ≡ length bytes) (sym f.fields) f.said in
    let e7 = pass (ltb (said_len made) (length bytes)) Trailing end h (le-ltb (said_len made) (length bytes) (omega arith)) (ap (λ x. Ok x) f.fields) in
    let e6 = pass (ltb (length bytes) (said_len made)) Short r7 h (le-ltb (length bytes) (said_len made) (omega arith)) e7 in
    let e5 = pass (ltb (length bytes) (header_len v)) Short r6 h (le-ltb _ _ f.room) e6 in
    let e4 = pass (not (get_or bytes 7 0 == 0)) (Reserved 7) r5 h (rw f.seventh refl) e5 in
    let e3 = pass (not (get_or bytes 6 0 == 0)) (Reserved 6) r4 h (rw f.sixth refl) e4 in
    let e2 = pass (not ((v == 1) || (v == 2))) Version r3 h (rw f.version refl) e3 in
    let e1 = pass (not (starts_with nat_eq bytes (codes "MLTL"))) Magic r2 h (rw f.magic refl) e2 in
    pass (ltb (length bytes) 32) Short r1 h (le-ltb _ _ f.long) e1

again : (n : ℕ) → n < 2 ^ 32 → from_le_bytes w32 (to_le_bytes w32 n) ≡ n
again n lt = from_le_bytes-to_le_bytes_4 n lt

one : (width bz ft pt outs name_bytes : ℕ) → Header
one width bz ft pt outs name_bytes = record { version = 1; width = width; bz = bz; ft = ft; pt = pt; outs = outs; name_bytes = name_bytes; signals = 0; signal_bytes = 0 }

two : (width bz ft pt outs name_bytes signals signal_bytes : ℕ) → Header
two width bz ft pt outs name_bytes signals signal_bytes = record { version = 2; width = width; bz = bz; ft = ft; pt = pt; outs = outs; name_bytes = name_bytes; signals = signals; signal_bytes = signal_bytes }

one-found : (width bz ft pt outs name_bytes : ℕ) (rest : List ℕ) → HoldsHeader (one width bz ft pt outs name_bytes)
    → let h = one width bz ft pt outs name_bytes in said_len h ≡ length (header_bytes h ++ rest) → Found (header_bytes h ++ rest) h
unfolding one header_bytes u16_bytes u32_bytes
one-found width bz ft pt outs name_bytes rest h said = record {
  long = omega arith;
  magic = refl;
  version = refl;
  sixth = refl;
  seventh = refl;
  room = omega arith;
  fields = rw (again width h.width, again bz h.bz, again ft h.ft, again pt h.pt, again outs h.outs, again name_bytes h.name_bytes) refl;
  said = said;
}

two-found : (width bz ft pt outs name_bytes signals signal_bytes : ℕ) (rest : List ℕ) → HoldsHeader (two width bz ft pt outs name_bytes signals signal_bytes)
    → let h = two width bz ft pt outs name_bytes signals signal_bytes in said_len h ≡ length (header_bytes h ++ rest) → Found (header_bytes h ++ rest) h
unfolding two header_bytes u16_bytes u32_bytes
two-found width bz ft pt outs name_bytes signals signal_bytes rest h said = record {
  long = omega arith;
  magic = refl;
  version = refl;
  sixth = refl;
  seventh = refl;
  room = omega arith;
  fields = rw (again width h.width, again bz h.bz, again ft h.ft, again pt h.pt, again outs h.outs, again name_bytes h.name_bytes, again signals h.signals, again signal_bytes h.signal_bytes) refl;
  said = said;
}

abbrev ReadsAgain : List ℕ → Header → Type 0
ReadsAgain rest h = said_len h ≡ length (header_bytes h ++ rest) → header_at (header_bytes h ++ rest) ≡ Ok h

pub header-again : (h : Header) (rest : List ℕ) → HoldsHeader h → said_len h ≡ length (header_bytes h ++ rest) → header_at (header_bytes h ++ rest) ≡ Ok h
unfolding one two
header-again h rest holds said =
    elim holds.version [
      | inl v ↦
          let same : h ≡ one h.width h.bz h.ft h.pt h.outs h.name_bytes = (λ i. record { version = v.0 i; width = h.width; bz = h.bz; ft = h.ft; pt = h.pt; outs = h.outs; name_bytes = h.name_bytes; signals = v.1 i; signal_bytes = v.2 i }) in
          subst (λ x. ReadsAgain rest x) (sym same) (λ s. passes _ _ (one-found h.width h.bz h.ft h.pt h.outs h.name_bytes rest (subst HoldsHeader same holds) s)) said
      | inr v ↦
          let same : h ≡ two h.width h.bz h.ft h.pt h.outs h.name_bytes h.signals h.signal_bytes = (λ i. record { version = v i; width = h.width; bz = h.bz; ft = h.ft; pt = h.pt; outs = h.outs; name_bytes = h.name_bytes; signals = h.signals; signal_bytes = h.signal_bytes }) in
          subst (λ x. ReadsAgain rest x) (sym same) (λ s. passes _ _ (two-found h.width h.bz h.ft h.pt h.outs h.name_bytes h.signals h.signal_bytes rest (subst HoldsHeader same holds) s)) said
    ]
