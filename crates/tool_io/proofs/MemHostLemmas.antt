-- What the exact answers of a host in memory mean for any host: causes, log and what is left.
use Rattle.std.proofs.Common.{◌≡◌, ◌≢◌, ◌⊎◌, ℕ, ◌<◌, Bool, true, false, if◌then◌else◌, Option, Some, None, List, [], ◌++◌, length, take, drop, refl, sym, ap, subst, ◌∙◌, inl, inr, arith, zero, suc}
use Rattle.std.specs.Prelude.{◌==◌}
use Rattle.std.specs.Option.{option_map, option_map_or}
use Rattle.std.proofs.lemmas.Bool.Decides.{nat_tests}
use Rattle.std.proofs.lemmas.List.{take_min, take_at, length-take, take-append-drop, nil_from_length}
use Rattle.tool_io.specs.declared.host.Place.{Place}
use Rattle.tool_io.specs.declared.host.Place.TheVariants.{Spec, Header, Program, Trace, Out, Err}
use Rattle.tool_io.specs.declared.host.Attached as attached
use Rattle.tool_io.specs.declared.host.Got as got
use Rattle.tool_io.specs.declared.host.Put as put
use Rattle.tool_io.specs.declared.counts.Counts.{Counts}
use Rattle.tool_io.specs.Log.{Event, Attached, Missed, Took, Gave}
use Rattle.tool_io.specs.Host.{IsSource, RoseByOne, RoseAt, AttachCause, ReadCause, ReadLeft, WriteCause, LeftElsewhere}
use Rattle.tool_io.specs.Counts.{count_at, counted_up}
use Rattle.tool_io.specs.Tape.{has_room}
use Rattle.tool_io.specs.MemFiles.{Stored, Reading, Readings, reading_at, left_of, with_reading, with_file_at, skipped, file_of}
use Rattle.tool_io.specs.MemHost.{Held, faults_of, left_in, noted, failed, logged, told_in_room, stands, attach_fails, attach_answer, after_attach, at_most, read_bytes, read_fails, gives, read_answer, after_read, read_into, write_fails, write_answer, after_write}

-- ---- counts

raised-rose : (counts : Counts) (place : Place) → RoseByOne (count_at counts place) (count_at (counted_up counts place) place)
raised-rose counts Spec = refl
raised-rose counts _ = refl

raised-other : (counts : Counts) (place other : Place) → other ≢ place → count_at (counted_up counts place) other ≡ count_at counts other
raised-other counts Spec Spec differs = absurd (differs refl)
raised-other counts Header Header differs = absurd (differs refl)
raised-other counts Program Program differs = absurd (differs refl)
raised-other counts Trace Trace differs = absurd (differs refl)
raised-other counts Out Out differs = absurd (differs refl)
raised-other counts Err Err differs = absurd (differs refl)
raised-other counts place other differs = refl

-- a counter that was raised is a fault at its place
pub raised-cause : (counts : Counts) (place : Place) → RoseAt (count_at counts) (count_at (counted_up counts place)) place
raised-cause counts place = record { rose = raised-rose counts place; others = raised-other counts place }

-- ---- what is left

reading_at-other : (readings : Readings) (place other : Place) (reading : Reading) → other ≢ place → reading_at (with_reading readings place reading) other ≡ reading_at readings other
reading_at-other readings Spec Spec reading differs = absurd (differs refl)
reading_at-other readings Header Header reading differs = absurd (differs refl)
reading_at-other readings Program Program reading differs = absurd (differs refl)
reading_at-other readings Trace Trace reading differs = absurd (differs refl)
reading_at-other readings place other reading differs = refl

reading_at-same : (readings : Readings) (place : Place) (reading : Reading) → IsSource place → reading_at (with_reading readings place reading) place ≡ Some reading
reading_at-same readings Out reading source = absurd source
reading_at-same readings Err reading source = absurd source
reading_at-same readings _ reading source = refl

left-opened : (stored : Stored) (place other : Place) (name : List ℕ) → other ≢ place → left_of (with_file_at stored place name) other ≡ left_of stored other
left-opened stored place other name differs =
    elim (file_of stored name) as (λ found. left_of (option_map_or (λ bytes. record stored { readings = with_reading stored.readings place (record { name = name; left = bytes }) }) found stored) other ≡ left_of stored other) [
      | None ↦ refl
      | Some bytes ↦ rw (reading_at-other stored.readings place other (record { name = name; left = bytes }) differs)
    ]

left-stands : (host : Held) (place other : Place) (name : List ℕ) → other ≢ place → left_in (stands host place name) other ≡ left_in host other
left-stands host Out other name differs = refl
left-stands host Err other name differs = refl
left-stands host place other name differs = left-opened host.store place other name differs

left-skipped : (stored : Stored) (place other : Place) (count : ℕ) → other ≢ place → left_of (skipped stored place count) other ≡ left_of stored other
left-skipped stored place other count differs =
    elim (reading_at stored.readings place) as (λ found. left_of (option_map_or (λ reading. record stored { readings = with_reading stored.readings place (record reading { left = drop count reading.left }) }) found stored) other ≡ left_of stored other) [
      | None ↦ refl
      | Some reading ↦ rw (reading_at-other stored.readings place other (record reading { left = drop count reading.left }) differs)
    ]

-- a place that is attached has its front taken away
left-skipped-same : (stored : Stored) (place : Place) (count : ℕ) (left : List ℕ) → IsSource place → left_of stored place ≡ Some left → left_of (skipped stored place count) place ≡ Some (drop count left)
left-skipped-same stored place count left source had =
    (elim (reading_at stored.readings place) as (λ found. option_map (λ reading. reading.left) found ≡ Some left → left_of (option_map_or (λ reading. record stored { readings = with_reading stored.readings place (record reading { left = drop count reading.left }) }) found stored) place ≡ Some (drop count left)) [
      | None ↦ λ none. absurd cc
      | Some reading ↦ λ some. let same : reading.left ≡ left = cc in rw (reading_at-same stored.readings place (record reading { left = drop count reading.left }) source, same)
    ]) had

-- ---- attach

faults-told_in_room : (host : Held) (event : Event) (count : ℕ) → (told_in_room host event count).faults ≡ host.faults
faults-told_in_room host event count = elim (has_room host.tape count) as (λ room. (if room then logged host event else host).faults ≡ host.faults) [ true ↦ refl | false ↦ refl ]

store-told_in_room : (host : Held) (event : Event) (count : ℕ) → (told_in_room host event count).store ≡ host.store
store-told_in_room host event count = elim (has_room host.tape count) as (λ room. (if room then logged host event else host).store ≡ host.store) [ true ↦ refl | false ↦ refl ]

faults-stands : (host : Held) (place : Place) (name : List ℕ) → (stands host place name).faults ≡ host.faults
faults-stands host Out name = refl
faults-stands host Err name = refl
faults-stands host place name = refl

pub attach-cause : (host : Held) (place : Place) (name : List ℕ) → AttachCause (attach_answer host place name) (faults_of host) (faults_of (after_attach host place name)) place
attach-cause host place name =
    elim (attach_fails host place name) as (λ fails. AttachCause (if fails then attached.TheVariants.Failed else attached.TheVariants.Ready) (faults_of host)
    (faults_of (if fails then told_in_room (failed host place) (Missed place name) (length name) else logged (stands (noted host place) place name) (Attached place name))) place) [
      | true ↦ subst (λ (counts : Counts). RoseAt (count_at host.faults) (count_at counts) place) (sym (faults-told_in_room (failed host place) (Missed place name) (length name))) (raised-cause host.faults place)
      | false ↦ λ other. ap (λ (counts : Counts). count_at counts other) (faults-stands (noted host place) place name)
    ]

pub attach-elsewhere : (host : Held) (place : Place) (name : List ℕ) → LeftElsewhere (left_in host) (left_in (after_attach host place name)) place
attach-elsewhere host place name = λ other differs.
    elim (attach_fails host place name) as (λ fails. left_in (if fails then told_in_room (failed host place) (Missed place name) (length name) else logged (stands (noted host place) place name) (Attached place name)) other ≡ left_in host other) [
      | true ↦ ap (λ (stored : Stored). left_of stored other) (store-told_in_room (failed host place) (Missed place name) (length name))
      | false ↦ left-stands (noted host place) place other name differs
    ]

-- ---- read

gives-cases : (count : ℕ) → ((count ≡ 0) × (gives count ≡ got.TheVariants.End)) ⊎ ((0 < count) × (gives count ≡ got.TheVariants.Bytes count))
gives-cases zero = inl (refl, refl)
gives-cases (suc n) = let more : (suc n == 0) ≡ false = grind (arith, nat_tests) in inr (omega arith, rw more)

read-gives : (fails : Bool) (count : ℕ) → ((fails ≡ true) × ((if fails then got.TheVariants.Failed else gives count) ≡ got.TheVariants.Failed)) ⊎ (((fails ≡ false) × (count ≡ 0) × ((if fails then got.TheVariants.Failed else gives count) ≡ got.TheVariants.End)) ⊎ ((fails ≡ false) × (0 < count) × ((if fails then got.TheVariants.Failed else gives count) ≡ got.TheVariants.Bytes count)))
read-gives true count = inl (refl, refl)
read-gives false count = elim (gives-cases count) [ inl none ↦ inr (inl (refl, none.0, none.1)) | inr some ↦ inr (inr (refl, some.0, some.1)) ]

pub read-cause : (host : Held) (place : Place) (room : ℕ) → ReadCause (read_answer host place room) (faults_of host) (faults_of (after_read host place room)) place
read-cause host place room = elim (read-gives (read_fails host place room) (length (read_bytes host place room))) [
  | inl failing ↦ rw (failing.1, failing.0) (raised-cause host.faults place)
  | inr given ↦ elim given [
    | inl ends ↦ rw (ends.2, ends.0) (λ other. refl)
    | inr some ↦ rw (some.2, some.0) (λ other. refl)
  ]
]

pub read-elsewhere : (host : Held) (place : Place) (room : ℕ) → LeftElsewhere (left_in host) (left_in (after_read host place room)) place
read-elsewhere host place room = λ other differs.
    elim (read_fails host place room) as (λ fails. left_in (if fails then failed host place else logged (record (noted host place) { store = skipped host.store place (length (read_bytes host place room)) }) (Took place (read_bytes host place room))) other ≡ left_in host other) [
      | true ↦ refl
      | false ↦ left-skipped host.store place other (length (read_bytes host place room)) differs
    ]

pub write-cause : (host : Held) (place : Place) (piece : List ℕ) → WriteCause (write_answer host place piece) (faults_of host) (faults_of (after_write host place piece)) place
write-cause host place piece =
    elim (write_fails host place piece) as (λ fails. WriteCause (if fails then put.TheVariants.Failed else put.TheVariants.Wrote (length piece)) (faults_of host) (faults_of (if fails then failed host place else logged (noted host place) (Gave place piece))) place) [
      | true ↦ raised-cause host.faults place
      | false ↦ λ other. refl
    ]

left-none : (result : got.Got) (now : Option (List ℕ)) (into : List ℕ) → ReadLeft result None now into
left-none got.TheVariants.Failed now into = tt
left-none got.TheVariants.End now into = tt
left-none (got.TheVariants.Bytes n) now into = tt

none-left : (most : ℕ) (left : List ℕ) → 0 < most → length (take most left) ≡ 0 → left ≡ []
none-left most left some none = nil_from_length left (omega (arith, rw length-take at none))

front-left : (most : ℕ) (left into : List ℕ) → let count = length (take most left) in left ≡ take count (take most left ++ drop count into) ++ drop count left
front-left most left into =
    let count : ℕ = length (take most left) in
    let front : take count (take most left ++ drop count into) ≡ take most left = take_at (take most left) (drop count into) count refl in
    let same : take most left ≡ take count left = rw length-take (sym (take_min most left)) in
    rw front (sym (take-append-drop count left) ∙ ap (λ (xs : List ℕ). xs ++ drop count left) (sym same))

module _ (host : Held) (place : Place) (into left : List ℕ) (source : IsSource place) (some : 0 < at_most host.block (length into)) (had : left_in host place ≡ Some left) where
  bytes-left : read_bytes host place (length into) ≡ take (at_most host.block (length into)) left
  bytes-left = rw had

  read-left-some : ReadLeft (read_answer host place (length into)) (Some left) (left_in (after_read host place (length into)) place) (read_into host place into)
  read-left-some = elim (read-gives (read_fails host place (length into)) (length (read_bytes host place (length into)))) [
    | inl failing ↦ rw (failing.1, failing.0) had
    | inr given ↦ elim given [
      | inl ends ↦
          let nothing : left ≡ [] = none-left (at_most host.block (length into)) left some (rw bytes-left at ends.1) in
          let over : left_of (skipped host.store place (length (read_bytes host place (length into)))) place ≡ Some [] =
          left-skipped-same host.store place _ left source had ∙ (ap (λ n. Some (drop n left)) ends.1 ∙ ap Some nothing) in
          rw (ends.2, ends.0) (nothing, over)
      | inr more ↦
          let front = subst (λ (bytes : List ℕ). left ≡ take (length bytes) (bytes ++ drop (length bytes) into) ++ drop (length bytes) left) (sym bytes-left) (front-left (at_most host.block (length into)) left into) in
          rw (more.2, more.0) (front, left-skipped-same host.store place _ left source had)
    ]
  ]

-- what is left once a read gave its front, and that it met the end exactly where nothing was left
pub read-left : (host : Held) (place : Place) (into : List ℕ) → IsSource place → 0 < at_most host.block (length into)
    → ReadLeft (read_answer host place (length into)) (left_in host place) (left_in (after_read host place (length into)) place) (read_into host place into)
read-left host place into source some = from_left (left_in host place) refl where
  from_left : (left : Option (List ℕ)) → left_in host place ≡ left → ReadLeft (read_answer host place (length into)) left (left_in (after_read host place (length into)) place) (read_into host place into)
  from_left None had = left-none (read_answer host place (length into)) (left_in (after_read host place (length into)) place) (read_into host place into)
  from_left (Some left) had = read-left-some host place into left source some had
