-- The meanings of names. Names are numbered in the order of declaration. The expression of a definition sees only names that
-- were declared before it.

use Rattle.std.specs.Prelude.{ℕ, suc, ◌≡◌, ◌≤◌, ◌<◌, ◌-◌, min, nat_lt, List, [], ◌∷◌, ◌++◌, Option, Some, None, fold}
use Rattle.std.specs.Prelude.{length, map}
use Rattle.std.specs.Prelude.{get_or, slice_get, if◌then◌else◌, ⊤}
use Rattle.mltl_base.specs.Tables.{Table, entry_of, is_named}
use Rattle.c2po_ast.specs.Shape.{shape}
use Rattle.c2po_ast.specs.ItemShape.{field_shape}
use Rattle.c2po_types.specs.Environment.{Env, Known, nothing, fields, value, no_names, declare, signal_value, value_of}
use Rattle.set_expand.specs.declared.names.Entry.{Entry}
use Rattle.set_expand.specs.declared.names.Entry.TheVariants as entry
use Rattle.set_expand.specs.declared.names.Declared.{Declared}

-- the environment of the first n names, or of all if there are fewer, from the environments after each number of names
abbrev pub env_at : List Env → ℕ → Env
env_at envs n = get_or envs (min n (length envs - 1)) no_names

-- the environment of all names
abbrev pub env_last : List Env → Env
env_last envs = get_or envs (length envs - 1) no_names

-- the meaning of an entry: a definition has the value of its expression in the environment that it sees
abbrev pub meaning_in : List Env → Entry → Known
meaning_in envs (entry.Struct fs i) = fields (map (λ f. f.name) (map field_shape fs.now))
meaning_in envs (entry.Signal b n) = value (signal_value b n)
meaning_in envs (entry.Defined e n made) = value (value_of (shape e.now) (env_at envs n))

-- the environment after one more name
abbrev pub env_after : List Env → List ℕ → Entry → Env
env_after envs x e = declare x (meaning_in envs e) (env_last envs)

-- the environments after 0, 1, 2, and so on up to all names
unfoldable pub envs_of : Table Declared → List Env
envs_of names = fold (λ envs d. envs ++ env_after envs d.0 d.1.entry ∷ []) (no_names ∷ []) names

-- the environment of the first n names
abbrev pub env_of : Table Declared → ℕ → Env
env_of names n = env_at (envs_of names) n

-- the environment of all names
abbrev pub env_now : Table Declared → Env
env_now names = env_last (envs_of names)

-- the meaning of an entry among these names
abbrev pub meaning : Table Declared → Entry → Known
meaning names e = meaning_in (envs_of names) e

-- the meaning of a found name among the first n names; nothing if it comes later
abbrev pub meaning_before : List Env → ℕ → Option Declared → Known
meaning_before envs n None = nothing
meaning_before envs n (Some d) = if nat_lt d.number n then meaning_in envs d.entry else nothing

-- if the entry is a definition, it sees at most the first n names
abbrev pub IsEarly : ℕ → Entry → Type 0
IsEarly n (entry.Struct fs i) = ⊤
IsEarly n (entry.Signal b k) = ⊤
IsEarly n (entry.Defined e k made) = k ≤ n

-- if the entry is a struct, the names of its fields are at its number
abbrev pub HasFields : List (List (List ℕ)) → Entry → Type 0
HasFields structs (entry.Struct fs i) = slice_get structs i ≡ Some (map (λ f. f.name) (map field_shape fs.now))
HasFields structs (entry.Signal b k) = ⊤
HasFields structs (entry.Defined e k made) = ⊤

-- the table with one more name; a known name keeps its entry
abbrev pub with_name : List ℕ → Entry → Table Declared → Table Declared
with_name x e names = if is_named x names then names
    else names ++ (x, record { number = length names; entry = e }) ∷ []

-- if the entry is a signal, it is among the first n
abbrev pub EntryBelow : ℕ → Entry → Type 0
EntryBelow n (entry.Struct fs i) = ⊤
EntryBelow n (entry.Signal b k) = k < n
EntryBelow n (entry.Defined e k made) = ⊤

-- each signal in the table is among the first n
pub record SignalsBelow (n : ℕ) (names : Table Declared) : Type 0 where
  pub each : (x : List ℕ) (d : Declared) → entry_of x names ≡ Some d → EntryBelow n d.entry

-- each look-up among the first n names finds the meaning in their environment, and the entries are early and have their
-- fields
pub record AreNumbered (names : Table Declared) (structs : List (List (List ℕ))) : Type 0 where
  pub found : (n : ℕ) (x : List ℕ) → env_of names n x ≡ meaning_before (envs_of names) n (entry_of x names)
  pub count : length (envs_of names) ≡ suc (length names)
  pub numbers : (x : List ℕ) (d : Declared) → entry_of x names ≡ Some d → d.number < length names
  pub early : (x : List ℕ) (d : Declared) → entry_of x names ≡ Some d → IsEarly (length names) d.entry
  pub fields : (x : List ℕ) (d : Declared) → entry_of x names ≡ Some d → HasFields structs d.entry
