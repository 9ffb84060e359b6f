-- A later state of an unfolding stands for what the earlier one stands for.

use Rattle.std.proofs.Common.{◌≡◌, List, Option, Some, None, refl, sym, subst, ◌∙◌}
use Rattle.mltl_base.specs.Tables.{entry_of}
use Rattle.c2po_types.specs.declared.values.Stored.{Stored}
use Rattle.c2po_types.specs.declared.values.Whole.TheVariants as whole
use Rattle.c2po_types.specs.declared.values.Entry.{Entry}
use Rattle.c2po_types.specs.declared.values.Entry.TheVariants as entry
use Rattle.c2po_types.specs.declared.variables.Scope.{Scope, Top, Open', Held'}
use Rattle.c2po_types.specs.declared.variables.Head.{Head}
use Rattle.c2po_types.specs.declared.variables.Head.TheVariants as head
use Rattle.c2po_types.specs.declared.unfolding.Unfolding.{Unfolding}
use Rattle.c2po_types.specs.Values.{Value, Values, leaf, structure, set, none, more}
use Rattle.c2po_types.specs.Environment.{Env, Known}
use Rattle.c2po_types.specs.Holding.{Holds, HoldAll, Means, StandsFor, Fits, Keeps, IsLater}
use Rattle.c2po_types.specs.Heads.{Heads}

pub later_same : (u : Unfolding) → IsLater u u
later_same u = record {
  names = refl;
  keeps = record { structs = λ i xs h. h; facts = λ i f h. h; parts = λ i p h. h };
}

keeps_then : (old mid new : Unfolding) → Keeps old mid → Keeps mid new → Keeps old new
keeps_then old mid new g h = record {
  structs = λ i xs s. h.structs i xs (g.structs i xs s);
  facts = λ i f s. h.facts i f (g.facts i f s);
  parts = λ i p s. h.parts i p (g.parts i p s);
}

pub later_then : (old mid new : Unfolding) → IsLater old mid → IsLater mid new → IsLater old new
later_then old mid new g h = record {
  names = h.names ∙ g.names;
  keeps = keeps_then old mid new g.keeps h.keeps;
}

mutual
  pub holds_kept : (v : Value) (old new : Unfolding) (s : Stored) → Keeps old new → Holds old s v → Holds new s v
  holds_kept (leaf l) old new s g h = (h.0, (h.1.0, h.1.1, h.1.2, g.facts h.1.0 h.1.1 h.1.3, h.1.4, h.1.5))
  holds_kept (structure x vs) old new s g h =
      (h.0, (h.1.0, h.1.1, h.1.2, g.parts h.1.0 (record { whole = whole.Struct x; members = h.1.1 }) h.1.3, hold_all_kept vs old new h.1.1 g h.1.4, h.1.5))
  holds_kept (set vs) old new s g h =
      (h.0, (h.1.0, h.1.1, h.1.2, g.parts h.1.0 (record { whole = whole.Set; members = h.1.1 }) h.1.3, hold_all_kept vs old new h.1.1 g h.1.4, h.1.5))

  pub hold_all_kept : (vs : Values) (old new : Unfolding) (ss : List Stored) → Keeps old new → HoldAll old ss vs → HoldAll new ss vs
  hold_all_kept none old new ss g h = h
  hold_all_kept (more v vs) old new ss g h =
      (h.0, h.1, h.2, holds_kept v old new h.0 g h.3, hold_all_kept vs old new h.1 g h.4)

pub holds_later : (v : Value) (old new : Unfolding) (s : Stored) → IsLater old new → Holds old s v → Holds new s v
holds_later v old new s g h = holds_kept v old new s g.keeps h

pub hold_all_later : (vs : Values) (old new : Unfolding) (ss : List Stored) → IsLater old new → HoldAll old ss vs → HoldAll new ss vs
hold_all_later vs old new ss g h = hold_all_kept vs old new ss g.keeps h

pub means_kept : (o : Option Entry) (old new : Unfolding) (k : Known) → Keeps old new → Means old o k → Means new o k
means_kept None old new k g h = h
means_kept (Some (entry.Struct i)) old new k g h = (h.0, g.structs i h.0 h.1, h.2)
means_kept (Some (entry.Value s)) old new k g h = (h.0, holds_kept h.0 old new s g h.1, h.2)

pub stands_kept : (old new : Unfolding) (env : Env) → new.names ≡ old.names → Keeps old new → StandsFor old env → StandsFor new env
stands_kept old new env same g h = record {
  means = λ x. subst (λ names. Means new (entry_of x names) (env x)) (sym same)
      (means_kept (entry_of x old.names) old new (env x) g (h.means x));
}

pub stands_later : (old new : Unfolding) (env : Env) → IsLater old new → StandsFor old env → StandsFor new env
stands_later old new env g h = stands_kept old new env g.names g.keeps h

pub fits_later : (scope : Scope) (old new : Unfolding) (env : Env) → IsLater old new → Fits old scope env → Fits new scope env
fits_later Top old new env g h = stands_later old new env g h
fits_later (Open' x e p within q outer) old new env g h =
    (h.0, h.1, fits_later within old new h.0 g h.2, fits_later outer old new h.1 g h.3, h.4)
fits_later (Held' x s q outer) old new env g h =
    (h.0, h.1, holds_later h.0 old new s g h.2, fits_later outer old new h.1 g h.3, h.4)
