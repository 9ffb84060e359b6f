-- Fields that are passed over, by the commas after them.
use Rattle.std.proofs.Common.{◌≡◌, ◌<◌, ◌+◌, ◌-◌, ℕ, pos, suc, zero, Bool, true, false, cond, List, [], ◌∷◌, ◌++◌, length, take, drop, get_or, refl, arith, sym, ◌∙◌, ap}
use Rattle.std.specs.Prelude.{count_by, replicate}
use Rattle.std.specs.List.{onto_first}
use mir.Val.{bool_byte}
use Rattle.std.proofs.lemmas.List.{drop-drop, drop_more, take-append-drop}
use Rattle.std.proofs.lemmas.List.Sums.{sum_by-cons}
use Rattle.std.proofs.lemmas.List.Splits.{length-slice_split}
use Rattle.trace_feed.specs.Rows.{fields_from, fields_of, is_comma}
use Rattle.mltl_base.specs.Atoms.{Row}
use Rattle.trace_feed.specs.declared.fields.Reading.{Reading}
use Rattle.trace_feed.specs.declared.fields.Reading.TheVariants.{Unread}
use Rattle.trace_feed.specs.declared.unread_fields.Spot.{Spot}
use Rattle.trace_feed.specs.Readings.{AreReadings, PassesOver, fields_meaning}
use Rattle.trace_feed.specs.Rows.{LineMeaning}
use Rattle.trace_feed.proofs.RowLaws.{Says, onto, says_passed}

-- after so many fields from one place on stands what stands after those that are left from another one on
abbrev pub AreAfter : List ℕ → ℕ → ℕ → ℕ → ℕ → Type 0
AreAfter line from count at left = drop left (fields_of (drop at line)) ≡ drop count (fields_of (drop from line))

-- a byte belongs to the first field, or is a comma that ends an empty one
onto_drops : (x n : ℕ) (fields : List (List ℕ)) → 0 < length fields → drop (suc n) (onto_first x fields) ≡ drop (suc n) fields
onto_drops x n [] some = absurd (omega arith)
onto_drops x n (field ∷ fields) some = refl

byte_step : (x : ℕ) (xs : List ℕ) (n : ℕ) (b : Bool) → drop (suc n) (cond b ([] ∷ fields_of xs) (onto_first x (fields_of xs))) ≡ drop (suc n - cond b 1 0) (fields_of xs)
byte_step x xs n true = let less : n ≡ suc n - 1 = omega arith in ap (λ k. drop k (fields_of xs)) less
byte_step x xs n false =
    let same : suc n ≡ suc n - 0 = omega arith in
    onto_drops x n (fields_of xs) (omega (arith, length-slice_split is_comma xs)) ∙ ap (λ k. drop k (fields_of xs)) same

one_byte : (x : ℕ) (xs : List ℕ) (n : ℕ) → 0 < n → drop n (fields_of (x ∷ xs)) ≡ drop (n - cond (is_comma x) 1 0) (fields_of xs)
one_byte x xs zero some = absurd (omega arith)
one_byte x xs (suc n) some = byte_step x xs n (is_comma x)

counted : (b : Bool) → bool_byte b ≡ cond b 1 0
counted true = refl
counted false = refl

pub byte_from : (line : List ℕ) (at n : ℕ) → at < length line → 0 < n → drop n (fields_of (drop at line)) ≡ drop (n - bool_byte (is_comma (get_or line at 0))) (fields_of (drop (at + 1) line))
byte_from line at n inside some =
    ap (λ (bytes : List ℕ). drop n (fields_of bytes)) (drop_more line at 0 inside)
    ∙ one_byte (get_or line at 0) (drop (at + 1) line) n some
    ∙ ap (λ k. drop (n - k) (fields_of (drop (at + 1) line))) (sym (counted (is_comma (get_or line at 0))))

-- bytes with fewer commas than fields are passed over
block : (ys zs : List ℕ) (n : ℕ) → count_by is_comma ys < n → drop n (fields_of (ys ++ zs)) ≡ drop (n - count_by is_comma ys) (fields_of zs)
block [] zs n fewer = let same : n ≡ n - 0 = omega arith in ap (λ k. drop k (fields_of zs)) same
block (y ∷ ys) zs n fewer =
    let sum : count_by is_comma (y ∷ ys) ≡ cond (is_comma y) 1 0 + count_by is_comma ys = sum_by-cons (λ x. cond (is_comma x) 1 0) y ys in
    let less : n - cond (is_comma y) 1 0 - count_by is_comma ys ≡ n - count_by is_comma (y ∷ ys) = omega (arith, sum) in
    one_byte y (ys ++ zs) n (omega (arith, fewer, sum))
    ∙ block ys zs (n - cond (is_comma y) 1 0) (omega (arith, fewer, sum))
    ∙ ap (λ k. drop k (fields_of zs)) less

pub block_from : (line : List ℕ) (at size n : ℕ) → count_by is_comma (take size (drop at line)) < n
    → drop n (fields_of (drop at line)) ≡ drop (n - count_by is_comma (take size (drop at line))) (fields_of (drop (at + size) line))
block_from line at size n fewer =
    let here : List ℕ = take size (drop at line) in
    ap (λ (bytes : List ℕ). drop n (fields_of bytes)) (sym (take-append-drop size (drop at line)))
    ∙ block here (drop size (drop at line)) n fewer
    ∙ ap (λ (bytes : List ℕ). drop (n - count_by is_comma here) (fields_of bytes)) (drop-drop size at line)

-- what is said of the line is said of it after the columns that were passed over
pub says_over : (reading : ℕ → Reading) (readings : List Reading) (width : ℕ) (line : List ℕ) (old new : Row) (from to : Spot) (m : LineMeaning) → AreReadings reading readings → length readings ≡ width
    → PassesOver readings line old new from to → Says reading from.column (width - from.column) (take from.column old) line from.at m → Says reading to.column (width - to.column) (take to.column new) line to.at m
says_over reading readings width line old new from to m known wide passes so_far =
    let n : ℕ = to.column - from.column in
    let column : from.column + n ≡ to.column = omega (arith, passes.onward) in
    let unread : (k : ℕ) → k < n → reading (from.column + k) ≡ Unread = λ k below.
    sym (known (from.column + k) Unread (omega (arith, passes.left, passes.onward))) ∙ passes.unread (from.column + k) (omega arith) (omega (arith, passes.onward)) in
    ap (λ ns. onto ns (fields_meaning reading to.column (width - to.column) (fields_from line to.at))) passes.zeros
    ∙ ap (λ k. onto (take from.column old ++ replicate n (pos 0)) (fields_meaning reading k (width - k) (fields_from line to.at))) (sym column)
    ∙ says_passed reading from.column n width from.at to.at line (take from.column old) m (omega (arith, passes.left, wide)) unread passes.after so_far
