-- The values that an unfolding stores, and the environment that it represents.

use Rattle.std.specs.Prelude.{ℕ, ◌≡◌, ◌+◌, Option, Some, None, List, [], ◌∷◌, slice_get}
use Rattle.c2po_types.specs.declared.fact.Fact.{Fact}
use Rattle.mltl_base.specs.Tables.{entry_of}
use Rattle.c2po_ast.specs.Shape.{shape}
use Rattle.c2po_types.specs.declared.values.Location.TheVariants.{Leaf as LeafAt, Parts as PartsAt}
use Rattle.c2po_types.specs.declared.values.Stored.{Stored}
use Rattle.c2po_types.specs.declared.values.Whole.TheVariants as whole
use Rattle.c2po_types.specs.declared.values.Parts.{Parts}
use Rattle.c2po_types.specs.declared.values.Entry.{Entry}
use Rattle.c2po_types.specs.declared.values.Entry.TheVariants as entry
use Rattle.c2po_types.specs.declared.unfolding.Weighed.{Weighed}
use Rattle.c2po_types.specs.declared.unfolding.Unfolding.{Unfolding}
use Rattle.c2po_types.specs.declared.variables.Scope.{Scope, Top, Open', Held'}
use Rattle.c2po_types.specs.Values.{Value, Values, leaf, structure, set, none, more, formula_of, leaf_tree}
use Rattle.c2po_types.specs.Weights.{leaf_weight, parts_weight, weight as weight_of}
use Rattle.c2po_ast.specs.Faults.{tree_fault, formula_fault}
use Rattle.c2po_ast.specs.Tenses.{has_past, has_future}
use Rattle.c2po_types.specs.Facts.{Tells, told_fault, with_future, with_past}
use Rattle.c2po_types.specs.Faults.{values_fault}
use Rattle.c2po_types.specs.Environment.{Env, Known, nothing, fields, value, value_of, bind}

-- the stored value, over these facts and parts, represents the value
abbrev mutual
  pub Stores : List Fact → List Parts → Stored → Value → Type 0
  Stores facts parts s (leaf l) =
      (s.weight ≡ leaf_weight l) × ((i : ℕ) × (f : Fact) × (s.location ≡ LeafAt i)
      × (slice_get facts i ≡ Some f) × Tells f (Some (leaf_tree l)) × (told_fault s.fault ≡ tree_fault (leaf_tree l)))
  Stores facts parts s (structure x vs) =
      (s.weight ≡ 1 + parts_weight vs) × ((i : ℕ) × (ss : List Stored) × (s.location ≡ PartsAt i)
      × (slice_get parts i ≡ Some (record { whole = whole.Struct x; members = ss })) × StoreAll facts parts ss vs
      × (told_fault s.fault ≡ values_fault vs))
  Stores facts parts s (set vs) =
      (s.weight ≡ 1 + parts_weight vs) × ((i : ℕ) × (ss : List Stored) × (s.location ≡ PartsAt i)
      × (slice_get parts i ≡ Some (record { whole = whole.Set; members = ss })) × StoreAll facts parts ss vs
      × (told_fault s.fault ≡ values_fault vs))

  pub StoreAll : List Fact → List Parts → List Stored → Values → Type 0
  StoreAll facts parts ss none = ss ≡ []
  StoreAll facts parts ss (more v vs) =
      (s : Stored) × (rest : List Stored) × (ss ≡ s ∷ rest) × Stores facts parts s v × StoreAll facts parts rest vs

-- the stored value of an unfolding represents the value
abbrev pub Holds : Unfolding → Stored → Value → Type 0
Holds u s v = Stores u.facts u.parts s v

-- the stored values of an unfolding represent the values in order
abbrev pub HoldAll : Unfolding → List Stored → Values → Type 0
HoldAll u ss vs = StoreAll u.facts u.parts ss vs

-- the entry of a name, if any, represents the name's meaning
abbrev pub Means : Unfolding → Option Entry → Known → Type 0
Means u None k = k ≡ nothing
Means u (Some (entry.Struct i)) k = (xs : List (List ℕ)) × (slice_get u.structs i ≡ Some xs) × (k ≡ fields xs)
Means u (Some (entry.Value s)) k = (v : Value) × Holds u s v × (k ≡ value v)

-- the unfolding represents the environment: each name has the meaning of its entry
pub record StandsFor (u : Unfolding) (env : Env) : Type 0 where
  pub means : (x : List ℕ) → Means u (entry_of x u.names) (env x)

-- the answer has the weight of the value, and the fault and the tenses of its formula
pub record Weighs (found : Weighed) (v : Value) : Type 0 where
  pub weight : found.weight ≡ weight_of v
  pub fault : told_fault found.fault ≡ formula_fault (formula_of v)
  pub past : with_past found.tenses ≡ has_past (formula_of v)
  pub future : with_future found.tenses ≡ has_future (formula_of v)

-- the variables of a scope represent the environment, in an unfolding
abbrev pub Fits : Unfolding → Scope → Env → Type 0
Fits u Top env = StandsFor u env
Fits u (Open' x e _ within _ outer) env =
    (inner : Env) × (around : Env) × Fits u within inner × Fits u outer around
    × (env ≡ bind x.now (value_of (shape e.now) inner) around)
Fits u (Held' x s _ outer) env =
    (v : Value) × (around : Env) × Holds u s v × Fits u outer around × (env ≡ bind x.now v around)

-- each struct, fact and part of the old unfolding stays at its place
pub record Keeps (old new : Unfolding) : Type 0 where
  pub structs : (i : ℕ) (xs : List (List ℕ)) → slice_get old.structs i ≡ Some xs → slice_get new.structs i ≡ Some xs
  pub facts : (i : ℕ) (f : Fact) → slice_get old.facts i ≡ Some f → slice_get new.facts i ≡ Some f
  pub parts : (i : ℕ) (p : Parts) → slice_get old.parts i ≡ Some p → slice_get new.parts i ≡ Some p

-- the new unfolding is a later state of the old one, with the same names
pub record IsLater (old new : Unfolding) : Type 0 where
  pub names : new.names ≡ old.names
  pub keeps : Keeps old new
