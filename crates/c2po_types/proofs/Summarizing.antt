-- A name that is declared.

use Rattle.std.proofs.Common.{◌≡◌, ℕ, true, false, Bool, Option, Some, None, List, [], ◌∷◌, ◌++◌, if◌then◌else◌, refl, sym, subst, ap}
use Rattle.std.specs.Str.{bytes_eq}
use Rattle.mltl_base.specs.Tables.{entry_of}
use Rattle.c2po_types.specs.declared.values.Entry.{Entry}
use Rattle.c2po_types.specs.declared.values.Entry.TheVariants as entry
use Rattle.c2po_types.specs.declared.unfolding.Unfolding.{Unfolding}
use Rattle.c2po_types.specs.Environment.{Env, Known, nothing, or_else, declare}
use Rattle.c2po_types.specs.Holding.{Means, StandsFor}

-- the entry of a name in a table that has one more
unfoldable pub or_entry : {V : Type 0} → Option V → Option V → Option V
or_entry (Some v) w = Some v
or_entry None w = w

pub entry_push : {V : Type 0} (y x : List ℕ) (v : V) (es : List (List ℕ × V)) →
    entry_of y (es ++ (x, v) ∷ []) ≡ or_entry (entry_of y es) (if bytes_eq y x then Some v else None)
unfolding or_entry
entry_push y x v [] = refl
entry_push y x v (e ∷ es) = by (bytes_eq y e.0) (entry_push y x v es)
  where
    by : (b : Bool) → entry_of y (es ++ (x, v) ∷ []) ≡ or_entry (entry_of y es) (if bytes_eq y x then Some v else None) → (if b then Some e.1 else entry_of y (es ++ (x, v) ∷ []))
        ≡ or_entry (if b then Some e.1 else entry_of y es) (if bytes_eq y x then Some v else None)
    by true rest = refl
    by false rest = rest

means_or : (u : Unfolding) (o o' : Option Entry) (k k' : Known) → Means u o k → Means u o' k' → Means u (or_entry o o') (or_else k k')
unfolding or_entry
means_or u None o' k k' h g = subst (λ j. Means u o' (or_else j k')) (sym h) g
means_or u (Some (entry.Struct i)) o' k k' h g = (h.0, h.1, ap (λ j. or_else j k') h.2)
means_or u (Some (entry.Value s)) o' k k' h g = (h.0, h.1, ap (λ j. or_else j k') h.2)

means_here : (u : Unfolding) (b : Bool) (e : Entry) (k : Known) → Means u (Some e) k → Means u (if b then Some e else None) (if b then k else nothing)
means_here u true e k h = h
means_here u false e k h = refl

same_means : (o : Option Entry) (u : Unfolding) (names : List (List ℕ × Entry)) (k : Known) → Means u o k → Means (record u { names = names }) o k
same_means None u names k h = h
same_means (Some (entry.Struct i)) u names k h = h
same_means (Some (entry.Value s)) u names k h = h

pub declared : (u : Unfolding) (names : List (List ℕ × Entry)) (x : List ℕ) (e : Entry) (k : Known) (env : Env) →
    names ≡ u.names ++ (x, e) ∷ [] → StandsFor u env → Means u (Some e) k → StandsFor (record u { names = names }) (declare x k env)
declared u names x e k env same h g = record {
  means = λ y. subst (λ ns. Means (record u { names = names }) (entry_of y ns) (declare x k env y)) (sym same)
      (subst (λ o. Means (record u { names = names }) o (declare x k env y)) (sym (entry_push y x e u.names))
      (same_means (or_entry (entry_of y u.names) (if bytes_eq y x then Some e else None)) u names (declare x k env y)
      (means_or u (entry_of y u.names) (if bytes_eq y x then Some e else None) (env y) (if bytes_eq y x then k else nothing)
      (h.means y) (means_here u (bytes_eq y x) e k g))));
}
