-- The known verdicts of truths and atoms: one a row.

use Rattle.std.proofs.Common.{◌≡◌, Bool, true, false, List, length, map, slice_get, arith}
use Rattle.std.proofs.lemmas.List.{length-map}
use Rattle.mltl_base.specs.Atoms.{Row, Atom, holds}
use Rattle.mltl_base.specs.Formula.{truth, falsity, atom}
use Rattle.mltl_base.specs.Verdicts.{known_front, kleene_over, verdicts}
use Rattle.mltl_base.proofs.Unique.{front_self}

-- the values of a test on the rows are all known
pub front_map : (f : Row → Bool) (rows : List Row) → known_front (slice_get (map f rows)) (length rows) ≡ map f rows
front_map f rows = front_self (map f rows) (length rows) (simp length-map (omega arith))

pub truth_verdicts : (rows : List Row) → verdicts rows truth ≡ map (λ r. true) rows
unfolding verdicts kleene_over
truth_verdicts rows = front_map (λ r. true) rows

pub falsity_verdicts : (rows : List Row) → verdicts rows falsity ≡ map (λ r. false) rows
unfolding verdicts kleene_over
falsity_verdicts rows = front_map (λ r. false) rows

pub atom_verdicts : (rows : List Row) (a : Atom) → verdicts rows (atom a) ≡ map (holds a) rows
unfolding verdicts kleene_over
atom_verdicts rows a = front_map (holds a) rows
