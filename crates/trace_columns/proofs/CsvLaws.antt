-- How many fields a record of CSV has.
use Rattle.std.proofs.Common.{◌≡◌, ◌<◌, ◌≤◌, ◌+◌, ℕ, zero, suc, Bool, true, false, cond, List, [], ◌∷◌, ◌++◌, length, Option, None, Some, refl, arith, sym, ◌∙◌, ap, map, option_map, take}
use Rattle.std.specs.Prelude.{slice_get}
use Rattle.std.proofs.lemmas.List.{length_push}
use Rattle.csv.specs.Machine.{Read, ends_at_end, field_after, fields_after, is_end, next_record, step}
use Rattle.csv.specs.Reading.{default_config, is_bom, strip_bom}
use Rattle.csv.specs.Records.{field_at}
use Rattle.csv.specs.declared.parser.Config.{Config}
use Rattle.csv.specs.declared.parser.State.{State}
use Rattle.csv.specs.declared.parser.State.TheVariants as state
use Rattle.csv.specs.declared.parser.Action.{Action}
use Rattle.csv.specs.declared.parser.Action.TheVariants as action
use Rattle.trace_columns.specs.Blanks.{trimmed}
use Rattle.trace_columns.specs.Header.{record_fields, first_record}

-- one byte ends one field at most
fields_after_le : (a : Action) (fields : List (List ℕ)) (field : List ℕ) → length (fields_after a fields field) ≤ length fields + 1
fields_after_le action.EndField fields field = omega (arith, length_push fields field)
fields_after_le action.EndRecord fields field = omega (arith, length_push fields field)
fields_after_le action.Skip fields field = omega arith
fields_after_le action.Copy fields field = omega arith

last_le : (b : Bool) (fields : List (List ℕ)) (field : List ℕ) → length (record_fields (cond b (Some (fields ++ field ∷ [], state.StartRecord, [])) None)) ≤ length fields + 1
last_le true fields field = omega (arith, length_push fields field)
last_le false fields field = omega arith

step_le : (b : Bool) (a : Action) (s : State) (fields : List (List ℕ)) (field rest : List ℕ) (others : Option Read)
    → length (record_fields others) ≤ length (fields_after a fields field) + (length rest + 1)
    → length (record_fields (cond b (Some (fields_after a fields field, s, rest)) others)) ≤ length fields + (suc (length rest) + 1)
step_le true a s fields field rest others h = omega (arith, fields_after_le a fields field)
step_le false a s fields field rest others h = omega (arith, fields_after_le a fields field)

-- a record has at most one field more than bytes
record_le : (cfg : Config) (s : State) (fields : List (List ℕ)) (field text : List ℕ) → length (record_fields (next_record cfg s fields field text)) ≤ length fields + (length text + 1)
unfolding next_record
record_le cfg s fields field [] = last_le (ends_at_end s) fields field
record_le cfg s fields field (c ∷ rest) =
    step_le (is_end (step cfg s c).1) (step cfg s c).1 (step cfg s c).0 fields field rest
    (next_record cfg (step cfg s c).0 (fields_after (step cfg s c).1 fields field) (field_after (step cfg s c).1 c field) rest)
    (record_le cfg (step cfg s c).0 (fields_after (step cfg s c).1 fields field) (field_after (step cfg s c).1 c field) rest)

bom_le : (b : Bool) (x y z : ℕ) (rest : List ℕ) → length (cond b rest (x ∷ y ∷ z ∷ rest)) ≤ suc (suc (suc (length rest)))
bom_le true x y z rest = omega arith
bom_le false x y z rest = omega arith

strip_le : (text : List ℕ) → length (strip_bom text) ≤ length text
unfolding strip_bom
strip_le [] = omega arith
strip_le (x ∷ []) = omega arith
strip_le (x ∷ y ∷ []) = omega arith
strip_le (x ∷ y ∷ z ∷ rest) = bom_le (is_bom x y z) x y z rest

pub first_record_le : (text : List ℕ) → length (first_record text) ≤ length text + 1
unfolding first_record
first_record_le text =
    let fields : length (record_fields (next_record default_config state.StartRecord [] [] (strip_bom text))) ≤ 0 + (length (strip_bom text) + 1) = record_le default_config state.StartRecord [] [] (strip_bom text) in
    let bytes = strip_le text in
    omega arith

-- what is found of a record are the fields of the first record
pub found_fields : (text : List ℕ) (o : Option (List (List ℕ))) → o ≡ option_map (λ (read : Read). read.0) (next_record default_config state.StartRecord [] [] (strip_bom text)) → (fields : List (List ℕ)) → o ≡ Some fields → fields ≡ first_record text
unfolding first_record
found_fields text o is fields some = same (next_record default_config state.StartRecord [] [] (strip_bom text)) (sym some ∙ is)
  where
    same : (r : Option Read) → Some fields ≡ option_map (λ (read : Read). read.0) r → fields ≡ record_fields r
    same None h = cc
    same (Some read) h = cc

pub found_none : (text : List ℕ) (o : Option (List (List ℕ))) → o ≡ option_map (λ (read : Read). read.0) (next_record default_config state.StartRecord [] [] (strip_bom text)) → o ≡ None → [] ≡ first_record text
unfolding first_record
found_none text o is none = same (next_record default_config state.StartRecord [] [] (strip_bom text)) (sym none ∙ is)
  where
    same : (r : Option Read) → None ≡ option_map (λ (read : Read). read.0) r → [] ≡ record_fields r
    same None h = refl
    same (Some read) h = cc

-- a place within has a field
pub no_field : (fields : List (List ℕ)) (i : ℕ) → i < length fields → None ≡ field_at fields i → ⊥
unfolding field_at
no_field [] i inside none = absurd (omega arith)
no_field (f ∷ fields) zero inside none = cc
no_field (f ∷ fields) (suc i) inside none = no_field fields i (omega arith) none

pub get_trimmed : (fields : List (List ℕ)) (i : ℕ) (field : List ℕ) → Some field ≡ field_at fields i → slice_get (map trimmed fields) i ≡ Some (trimmed field)
unfolding field_at
get_trimmed [] i field some = absurd (cc)
get_trimmed (f ∷ fields) zero field some = let same : field ≡ f = cc in ap (λ x. Some (trimmed x)) (sym same)
get_trimmed (f ∷ fields) (suc i) field some = get_trimmed fields i field some

-- one name more
pub take_name : (names : List (List ℕ)) (i : ℕ) (name : List ℕ) → slice_get names i ≡ Some name → take (i + 1) names ≡ take i names ++ name ∷ []
take_name [] i name some = absurd (cc)
take_name (n ∷ names) zero name some = let same : n ≡ name = cc in ap (λ m. m ∷ []) same
take_name (n ∷ names) (suc i) name some = let next : suc i + 1 ≡ suc (i + 1) = omega arith in rw next (ap (λ ms. n ∷ ms) (take_name names i name some))
