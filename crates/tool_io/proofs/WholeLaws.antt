-- The steps of writing all of a piece, and of reading a place to its end.
use Rattle.std.proofs.Common.{◌≡◌, ◌≢◌, ℕ, ◌+◌, ◌-◌, ◌≤◌, ◌<◌, Bool, true, false, Option, List, [], ◌∷◌, ◌++◌, length, take, drop, arith, refl, sym, ◌∙◌, ap, subst}
use Rattle.std.proofs.lemmas.List.{append-nil, take-append-drop, take_rest, length-drop, length-take-le}
use Rattle.std.proofs.lemmas.List.Folds.{concat-append}
use Rattle.std.specs.List.{concat}
use Rattle.tool_io.specs.declared.host.Place.{Place}
use Rattle.tool_io.specs.Log.{Event, Took, Gave, is_empty, Appends, OnLog, Writes, WritesFront}
use Rattle.tool_io.specs.Whole.{Draws}
use Rattle.tool_io.proofs.ListLaws.{take-plus, is_empty-some}
use Rattle.tool_io.proofs.LogLaws.{Appends-then, meets_end-append, Reads-then, Writes-one, Writes-then}

-- one more write sends more of the piece
pub Writes-more : (before between now : Option (List Event)) (place : Place) (piece : List ℕ) (sent n : ℕ) → OnLog before between (Writes place (take sent piece)) → Appends between now (Gave place (take n (take (length piece - sent) (drop sent piece))) ∷ []) → OnLog before now (Writes place (take (sent + n) piece))
Writes-more before between now place piece sent n log more =
    let whole : Appends between now (Gave place (take n (drop sent piece)) ∷ []) = subst (λ rest. Appends between now (Gave place (take n rest) ∷ [])) (take_rest piece sent) more in
    record {
      events = log.events ++ Gave place (take n (drop sent piece)) ∷ [];
      appended = Appends-then before between now log.events (Gave place (take n (drop sent piece)) ∷ []) log.appended whole;
      holds =
          rw (take-plus sent n piece)
          (Writes-then place (take sent piece) (take n (drop sent piece)) log.events (Gave place (take n (drop sent piece)) ∷ []) log.holds (Writes-one place (take n (drop sent piece))));
    }

-- bytes are left after a front that ends before the piece does
drop-some : (piece : List ℕ) (sent : ℕ) → sent < length piece → drop sent piece ≢ []
drop-some piece sent more none =
    let size : length (drop sent piece) ≡ 0 = ap (λ (bytes : List ℕ). length bytes) none in
    absurd (omega (arith, more, simp (length-drop) at size))

-- a write that fails leaves a front of the piece sent, and more of it unsent
pub Writes-stop : (before between now : Option (List Event)) (place : Place) (piece : List ℕ) (sent : ℕ) → sent < length piece → OnLog before between (Writes place (take sent piece)) → Appends between now [] → OnLog before now (WritesFront place piece)
Writes-stop before between now place piece sent more log none =
    record {
      events = log.events ++ [];
      appended = Appends-then before between now log.events [] log.appended none;
      holds =
          rw append-nil
          record {
            sent = take sent piece;
            unsent = drop sent piece;
            split = sym (take-append-drop sent piece);
            misses = drop-some piece sent more;
            writes = log.holds;
          };
    }

-- one more read, of this piece
pub Takes-piece : (place : Place) (bytes piece : List ℕ) (ended : Bool) (events : List Event) → Draws place bytes ended events → Draws place (bytes ++ piece) (is_empty piece) (events ++ Took place piece ∷ [])
Takes-piece place bytes piece ended events takes =
    record {
      pieces = takes.pieces ++ piece ∷ [];
      are = Reads-then place takes.pieces (piece ∷ []) events (Took place piece ∷ []) takes.are refl;
      joined = ap (λ front. front ++ piece) takes.joined ∙ ap (λ rest. concat takes.pieces ++ rest) (sym (append-nil piece)) ∙ sym (concat-append takes.pieces (piece ∷ []));
      end = meets_end-append false takes.pieces (piece ∷ []);
    }

-- one more read gives bytes
pub Takes-more : (before between now : Option (List Event)) (place : Place) (bytes block : List ℕ) (n : ℕ) (ended : Bool) → 0 < n → n ≤ length block → OnLog before between (Draws place bytes ended) → Appends between now (Took place (take n block) ∷ []) → OnLog before now (Draws place (bytes ++ take n block) false)
Takes-more before between now place bytes block n ended some within log more =
    let len : length (take n block) ≡ n = length-take-le n block within in
    let full : is_empty (take n block) ≡ false = is_empty-some (take n block) (rw len some) in
    record {
      events = log.events ++ Took place (take n block) ∷ [];
      appended = Appends-then before between now log.events (Took place (take n block) ∷ []) log.appended more;
      holds =
          subst (λ v. Draws place (bytes ++ take n block) v (log.events ++ Took place (take n block) ∷ [])) full
          (Takes-piece place bytes (take n block) ended log.events log.holds);
    }

-- one more read meets the end
pub Takes-end : (before between now : Option (List Event)) (place : Place) (bytes : List ℕ) (ended : Bool) → OnLog before between (Draws place bytes ended) → Appends between now (Took place [] ∷ []) → OnLog before now (Draws place bytes true)
Takes-end before between now place bytes ended log more =
    record {
      events = log.events ++ Took place [] ∷ [];
      appended = Appends-then before between now log.events (Took place [] ∷ []) log.appended more;
      holds =
          subst (λ all. Draws place all true (log.events ++ Took place [] ∷ [])) (append-nil bytes)
          (Takes-piece place bytes [] ended log.events log.holds);
    }
