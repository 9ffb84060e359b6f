-- Rows that are read from left to right.
use Rattle.std.proofs.Common.{◌≡◌, ◌<◌, ◌≤◌, ◌+◌, ◌-◌, ℕ, ℤ, pos, suc, true, false, cond, zero, List, [], ◌∷◌, ◌++◌, length, take, drop, Ok, Err, refl, arith, sym, ◌∙◌, ap, subst, inl, inr}
use Rattle.std.specs.Prelude.{nat_lt, replicate}
use Rattle.std.specs.List.{before_first, position_or_len}
use Rattle.std.proofs.lemmas.Bool.{cases_lt, lt-ltb, le-ltb}
use Rattle.std.proofs.lemmas.List.{drop-drop, length-drop}
use Rattle.std.proofs.lemmas.List.Splits.{slice_split_first}
use Rattle.trace_feed.specs.Rows.{LineMeaning, IsMeaningOf, row, blank, not_whole, out_of_range, too_few, put_in_front, field_before, row_from, field_value, is_comma, fields_from, fields_of}
use Rattle.trace_feed.specs.Readings.{fields_meaning}
use Rattle.trace_feed.specs.declared.fields.FieldFault.TheVariants.{NotWhole, OutOfRange}
use Rattle.trace_feed.specs.declared.fields.Reading.{Reading}
use Rattle.trace_feed.specs.declared.fields.Reading.TheVariants.{Unread}
use Rattle.trace_feed.specs.declared.rows.RowAnswer as answer
use Rattle.mltl_base.specs.Atoms.{Row}
use Rattle.trace_feed.proofs.Splits.{split_alone, first_alone}

-- numbers in front of a row; a fault stays
unfoldable pub onto : List ℤ → LineMeaning → LineMeaning
onto [] m = m
onto (n ∷ ns) m = put_in_front n (onto ns m)

pub onto_nil : (m : LineMeaning) → onto [] m ≡ m
unfolding onto
onto_nil m = refl

-- one number more
pub onto_push : (ns : List ℤ) (n : ℤ) (m : LineMeaning) → onto (ns ++ n ∷ []) m ≡ onto ns (put_in_front n m)
unfolding onto
onto_push [] n m = refl
onto_push (k ∷ ns) n m = ap (put_in_front k) (onto_push ns n m)

-- a row after numbers, and each fault
pub onto_row : (ns : List ℤ) → onto ns (row []) ≡ row ns
unfolding onto
onto_row [] = refl
onto_row (n ∷ ns) = ap (put_in_front n) (onto_row ns)

pub onto_blank : (ns : List ℤ) → onto ns blank ≡ blank
unfolding onto
onto_blank [] = refl
onto_blank (n ∷ ns) = ap (put_in_front n) (onto_blank ns)

pub onto_too_few : (ns : List ℤ) → onto ns too_few ≡ too_few
unfolding onto
onto_too_few [] = refl
onto_too_few (n ∷ ns) = ap (put_in_front n) (onto_too_few ns)

pub onto_not_whole : (ns : List ℤ) (c : ℕ) → onto ns (not_whole c) ≡ not_whole c
unfolding onto
onto_not_whole [] c = refl
onto_not_whole (n ∷ ns) c = ap (put_in_front n) (onto_not_whole ns c)

pub onto_out_of_range : (ns : List ℤ) (c : ℕ) → onto ns (out_of_range c) ≡ out_of_range c
unfolding onto
onto_out_of_range [] c = refl
onto_out_of_range (n ∷ ns) c = ap (put_in_front n) (onto_out_of_range ns c)

pub no_field : (line : List ℕ) (at : ℕ) → length line < at → fields_from line at ≡ []
no_field line at past = let is : nat_lt (length line) at ≡ true = lt-ltb (length line) at past in rw is refl

pub some_fields : (line : List ℕ) (at : ℕ) → at ≤ length line → fields_from line at ≡ fields_of (drop at line)
some_fields line at inside = let is : nat_lt (length line) at ≡ false = le-ltb (length line) at inside in rw is refl

-- the first field of a list, and those after its comma
first_of_fields : (rest : List ℕ) → fields_of rest ≡ before_first is_comma rest ∷ fields_from rest (position_or_len is_comma rest + 1)
first_of_fields rest =
    elim (cases_lt (position_or_len is_comma rest) (length rest)) [
      | inl inside ↦ slice_split_first is_comma rest 0 inside ∙ ap (λ more. before_first is_comma rest ∷ more) (sym (some_fields rest (position_or_len is_comma rest + 1) (omega arith)))
      | inr past ↦
          split_alone is_comma rest past
          ∙ ap (λ field. field ∷ []) (sym (first_alone is_comma rest past))
          ∙ ap (λ more. before_first is_comma rest ∷ more) (sym (no_field rest (position_or_len is_comma rest + 1) (omega arith)))
    ]

-- the same from a place on
pub next_field : (line : List ℕ) (at size : ℕ) → at ≤ length line → size ≡ position_or_len is_comma (drop at line)
    → fields_of (drop at line) ≡ before_first is_comma (drop at line) ∷ fields_from line (at + (size + 1))
next_field line at size inside is =
    let many : length (drop at line) ≡ length line - at = length-drop at line in
    let parts : fields_of (drop at line) ≡ before_first is_comma (drop at line) ∷ fields_from (drop at line) (size + 1) =
    subst (λ (n : ℕ). fields_of (drop at line) ≡ before_first is_comma (drop at line) ∷ fields_from (drop at line) (n + 1)) (sym is) (first_of_fields (drop at line)) in
    parts ∙ ap (λ more. before_first is_comma (drop at line) ∷ more) (elim (cases_lt (length line) (at + (size + 1))) [
      | inl past ↦ no_field (drop at line) (size + 1) (omega (arith, many)) ∙ sym (no_field line (at + (size + 1)) past)
      | inr within ↦ some_fields (drop at line) (size + 1) (omega (arith, many)) ∙ ap (λ (bytes : List ℕ). fields_of bytes) (drop-drop (size + 1) at line) ∙ sym (some_fields line (at + (size + 1)) within)
    ])

-- one field, and those after it
field_step : (reading : ℕ → Reading) (c n : ℕ) (field : List ℕ) (fields : List (List ℕ)) (v : ℤ) → field_value (reading c) field ≡ Ok v
    → fields_meaning reading c (suc n) (field ∷ fields) ≡ put_in_front v (fields_meaning reading (suc c) n fields)
unfolding row_from
field_step reading c n field fields v good =
    elim (cases_lt (length fields) n) [
      | inl few ↦
          let here : nat_lt (length (field ∷ fields)) (suc n) ≡ true = lt-ltb (length (field ∷ fields)) (suc n) (omega arith) in
          let size : nat_lt (length fields) n ≡ true = lt-ltb (length fields) n few in
          ap (λ b. cond b too_few (row_from reading c (take (suc n) (field ∷ fields)))) here
          ∙ sym (ap (λ b. put_in_front v (cond b too_few (row_from reading (suc c) (take n fields)))) size)
      | inr enough ↦
          let here : nat_lt (length (field ∷ fields)) (suc n) ≡ false = le-ltb (length (field ∷ fields)) (suc n) (omega arith) in
          let size : nat_lt (length fields) n ≡ false = le-ltb (length fields) n enough in
          ap (λ b. cond b too_few (row_from reading c (take (suc n) (field ∷ fields)))) here
          ∙ ap (λ r. field_before c r (row_from reading (suc c) (take n fields))) good
          ∙ sym (ap (λ b. put_in_front v (cond b too_few (row_from reading (suc c) (take n fields)))) size)
    ]

-- no field more is wanted
field_end : (reading : ℕ → Reading) (c : ℕ) (fields : List (List ℕ)) → fields_meaning reading c 0 fields ≡ row []
unfolding row_from
field_end reading c fields =
    let is : nat_lt (length fields) 0 ≡ false = le-ltb (length fields) 0 (omega arith) in
    rw is refl

-- what the numbers so far and the fields from a place on say is what the line says
abbrev pub Says : (ℕ → Reading) → ℕ → ℕ → List ℤ → List ℕ → ℕ → LineMeaning → Type 0
Says reading c left ns line at m = onto ns (fields_meaning reading c left (fields_from line at)) ≡ m

pub says_at_start : (reading : ℕ → Reading) (width : ℕ) (line : List ℕ) → Says reading 0 (width - 0) [] line 0 (fields_meaning reading 0 width (fields_of line))
says_at_start reading width line =
    let all : width - 0 ≡ width = omega arith in
    onto_nil (fields_meaning reading 0 (width - 0) (fields_from line 0))
    ∙ ap (λ n. fields_meaning reading 0 n (fields_from line 0)) all
    ∙ ap (fields_meaning reading 0 width) (some_fields line 0 (omega arith))

-- a field with a number goes to the others
pub says_next : (reading : ℕ → Reading) (c width at size : ℕ) (line : List ℕ) (ns : List ℤ) (v : ℤ) (m : LineMeaning) → c < width → at ≤ length line → size ≡ position_or_len is_comma (drop at line)
    → field_value (reading c) (before_first is_comma (drop at line)) ≡ Ok v → Says reading c (width - c) ns line at m → Says reading (c + 1) (width - (c + 1)) (ns ++ v ∷ []) line (at + (size + 1)) m
says_next reading c width at size line ns v m more inside is good so_far =
    let left : ℕ = width - (c + 1) in
    let here : width - c ≡ suc left = omega arith in
    let next : c + 1 ≡ suc c = omega arith in
    let others : List (List ℕ) = fields_from line (at + (size + 1)) in
    let fields : fields_from line at ≡ before_first is_comma (drop at line) ∷ others = some_fields line at inside ∙ next_field line at size inside is in
    let step : fields_meaning reading c (width - c) (fields_from line at) ≡ put_in_front v (fields_meaning reading (suc c) left others) =
    ap (λ n. fields_meaning reading c n (fields_from line at)) here ∙ ap (fields_meaning reading c (suc left)) fields ∙ field_step reading c left (before_first is_comma (drop at line)) others v good in
    ap (λ k. onto (ns ++ v ∷ []) (fields_meaning reading k left others)) next
    ∙ onto_push ns v (fields_meaning reading (suc c) left others)
    ∙ ap (onto ns) (sym step)
    ∙ so_far

-- fields that are too few
pub fault_few : (reading : ℕ → Reading) (c left : ℕ) (fields : List (List ℕ)) → length fields < left → fields_meaning reading c left fields ≡ too_few
fault_few reading c left fields few = let is : nat_lt (length fields) left ≡ true = lt-ltb (length fields) left few in rw is refl

-- numbers in two parts
pub onto_append : (ns ms : List ℤ) (m : LineMeaning) → onto (ns ++ ms) m ≡ onto ns (onto ms m)
unfolding onto
onto_append [] ms m = refl
onto_append (n ∷ ns) ms m = ap (put_in_front n) (onto_append ns ms m)

onto_more : (n : ℤ) (ns : List ℤ) (m : LineMeaning) → onto (n ∷ ns) m ≡ put_in_front n (onto ns m)
unfolding onto
onto_more n ns m = refl

-- columns that aren't read, before one that is left, say 0 each
unread_fields : (reading : ℕ → Reading) (n c left : ℕ) (fields : List (List ℕ)) → n < left → ((k : ℕ) → k < n → reading (c + k) ≡ Unread)
    → onto (replicate n (pos 0)) (fields_meaning reading (c + n) (left - n) (drop n fields)) ≡ fields_meaning reading c left fields
unread_fields reading zero c left fields more unread =
    let here : c + 0 ≡ c = omega arith in
    let all : left - 0 ≡ left = omega arith in
    onto_nil (fields_meaning reading (c + 0) (left - 0) fields)
    ∙ ap (λ k. fields_meaning reading k (left - 0) fields) here
    ∙ ap (λ m. fields_meaning reading c m fields) all
unread_fields reading (suc n) c left [] more unread =
    ap (onto (replicate (suc n) (pos 0))) (fault_few reading (c + suc n) (left - suc n) [] (omega arith))
    ∙ onto_too_few (replicate (suc n) (pos 0))
    ∙ sym (fault_few reading c left [] (omega arith))
unread_fields reading (suc n) c left (field ∷ fields) more unread =
    let some : left ≡ suc (left - 1) = omega arith in
    let start : c + 0 ≡ c = omega arith in
    let place : c + suc n ≡ suc c + n = omega arith in
    let size : left - suc n ≡ left - 1 - n = omega arith in
    let none : reading c ≡ Unread = ap reading (sym start) ∙ unread 0 (omega arith) in
    let good : field_value (reading c) field ≡ Ok (pos 0) = ap (λ r. field_value r field) none in
    let rest : onto (replicate n (pos 0)) (fields_meaning reading (suc c + n) (left - 1 - n) (drop n fields)) ≡ fields_meaning reading (suc c) (left - 1) fields =
    unread_fields reading n (suc c) (left - 1) fields (omega arith) (λ k below. let at : suc c + k ≡ c + suc k = omega arith in ap reading at ∙ unread (suc k) (omega arith)) in
    ap (λ k. onto (replicate (suc n) (pos 0)) (fields_meaning reading k (left - suc n) (drop n fields))) place
    ∙ ap (λ m. onto (replicate (suc n) (pos 0)) (fields_meaning reading (suc c + n) m (drop n fields))) size
    ∙ onto_more (pos 0) (replicate n (pos 0)) (fields_meaning reading (suc c + n) (left - 1 - n) (drop n fields))
    ∙ ap (put_in_front (pos 0)) rest
    ∙ sym (field_step reading c (left - 1) field fields (pos 0) good)
    ∙ ap (λ m. fields_meaning reading c m (field ∷ fields)) (sym some)

pub says_passed : (reading : ℕ → Reading) (c n width at to : ℕ) (line : List ℕ) (ns : List ℤ) (m : LineMeaning) → c + n < width → ((k : ℕ) → k < n → reading (c + k) ≡ Unread)
    → fields_from line to ≡ drop n (fields_from line at) → Says reading c (width - c) ns line at m → Says reading (c + n) (width - (c + n)) (ns ++ replicate n (pos 0)) line to m
says_passed reading c n width at to line ns m more unread after so_far =
    let size : width - (c + n) ≡ width - c - n = omega arith in
    let zeros : List ℤ = replicate n (pos 0) in
    onto_append ns zeros (fields_meaning reading (c + n) (width - (c + n)) (fields_from line to))
    ∙ ap (λ k. onto ns (onto zeros (fields_meaning reading (c + n) k (fields_from line to)))) size
    ∙ ap (λ fs. onto ns (onto zeros (fields_meaning reading (c + n) (width - c - n) fs))) after
    ∙ ap (onto ns) (unread_fields reading n c (width - c) (fields_from line at) (omega arith) unread)
    ∙ so_far

-- no number more is wanted
pub says_row : (reading : ℕ → Reading) (c width at : ℕ) (line : List ℕ) (ns : List ℤ) (m : LineMeaning) → width ≤ c → Says reading c (width - c) ns line at m → m ≡ row ns
says_row reading c width at line ns m past so_far =
    let none : width - c ≡ 0 = omega arith in
    sym so_far ∙ ap (onto ns) (ap (λ n. fields_meaning reading c n (fields_from line at)) none ∙ field_end reading c (fields_from line at)) ∙ onto_row ns

-- no field is left
pub says_too_few : (reading : ℕ → Reading) (c width at : ℕ) (line : List ℕ) (ns : List ℤ) (m : LineMeaning) → c < width → length line < at → Says reading c (width - c) ns line at m → m ≡ too_few
says_too_few reading c width at line ns m more past so_far =
    sym so_far ∙ ap (onto ns) (ap (fields_meaning reading c (width - c)) (no_field line at past) ∙ wanting (width - c) (omega arith)) ∙ onto_too_few ns
  where
    wanting : (n : ℕ) → 0 < n → fields_meaning reading c n [] ≡ too_few
    wanting n some = let is : nat_lt 0 n ≡ true = lt-ltb 0 n some in rw is refl

-- a faulty field, with enough after it
enough_is : (reading : ℕ → Reading) (c left : ℕ) (rest : List ℕ) → 0 < left → left ≤ length (fields_of rest)
    → (more : LineMeaning) × (fields_meaning reading c left (fields_of rest) ≡ field_before c (field_value (reading c) (before_first is_comma rest)) more)
unfolding row_from
enough_is reading c left rest some enough =
    let after : List (List ℕ) = fields_from rest (position_or_len is_comma rest + 1) in
    let fields : fields_of rest ≡ before_first is_comma rest ∷ after = first_of_fields rest in
    let is : nat_lt (length (fields_of rest)) left ≡ false = le-ltb (length (fields_of rest)) left enough in
    let size : left ≡ suc (left - 1) = omega arith in (
      row_from reading (suc c) (take (left - 1) after),
      ap (λ b. cond b too_few (row_from reading c (take left (fields_of rest)))) is
          ∙ ap (λ fs. row_from reading c (take left fs)) fields
          ∙ ap (λ n. row_from reading c (take n (before_first is_comma rest ∷ after))) size,
    )

pub fault_not_whole : (reading : ℕ → Reading) (c left : ℕ) (rest : List ℕ) → 0 < left → left ≤ length (fields_of rest) → field_value (reading c) (before_first is_comma rest) ≡ Err NotWhole
    → fields_meaning reading c left (fields_of rest) ≡ not_whole c
fault_not_whole reading c left rest some enough bad =
    let found = enough_is reading c left rest some enough in
    found.1 ∙ ap (λ v. field_before c v found.0) bad

pub fault_out_of_range : (reading : ℕ → Reading) (c left : ℕ) (rest : List ℕ) → 0 < left → left ≤ length (fields_of rest) → field_value (reading c) (before_first is_comma rest) ≡ Err OutOfRange
    → fields_meaning reading c left (fields_of rest) ≡ out_of_range c
fault_out_of_range reading c left rest some enough bad =
    let found = enough_is reading c left rest some enough in
    found.1 ∙ ap (λ v. field_before c v found.0) bad

-- what is told of the fields from a fault on, whatever the numbers, is told of the line
pub told_fault : (result : answer.RowAnswer) (ns values : Row) (x m : LineMeaning) → ((others : Row) → IsMeaningOf result others x) → onto ns x ≡ m → IsMeaningOf result values m
told_fault answer.TheVariants.Good ns values x m told is = absurd (let one : x ≡ row [] = told [] in let other : x ≡ row (pos 0 ∷ []) = told (pos 0 ∷ []) in cc)
told_fault answer.TheVariants.Blank ns values x m told is = sym is ∙ ap (onto ns) (told []) ∙ onto_blank ns
told_fault answer.TheVariants.Width ns values x m told is = sym is ∙ ap (onto ns) (told []) ∙ onto_too_few ns
told_fault (answer.TheVariants.NotWhole c) ns values x m told is = sym is ∙ ap (onto ns) (told []) ∙ onto_not_whole ns c
told_fault (answer.TheVariants.OutOfRange c) ns values x m told is = sym is ∙ ap (onto ns) (told []) ∙ onto_out_of_range ns c
