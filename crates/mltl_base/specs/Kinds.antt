-- Formulas that read each signal by its kind, and signals with distinct names. Contracts use this file.

use Rattle.std.specs.Prelude.{◌≡◌, ◌≢◌, ◌<◌, ℕ, Bool, true, false, Some, List, map, slice_get, All, ⊤}
use Rattle.mltl_base.specs.Atoms.{Term, column, constant, negative, plus, minus, times, quotient, remainder, Atom}
use Rattle.mltl_base.specs.Atoms.{is_true, equal, different, less, at_most, greater, at_least}
use Rattle.mltl_base.specs.Formula.{Formula, EachAtom}
use Rattle.mltl_base.specs.Subformulas.{Asked, formulas_of}
use Rattle.mltl_base.specs.declared.signal.Signal.{Signal}

-- the kinds of the signals, in order: true for a Boolean
abbrev pub kinds_of : List Signal → List Bool
kinds_of signals = map (λ signal. signal.truth) signals

-- each signal that the expression reads is an integer
abbrev pub ReadsWholes : List Bool → Term → Type 0
ReadsWholes kinds (column s) = slice_get kinds s ≡ Some false
ReadsWholes kinds (constant n) = ⊤
ReadsWholes kinds (negative a) = ReadsWholes kinds a
ReadsWholes kinds (plus a b) = ReadsWholes kinds a × ReadsWholes kinds b
ReadsWholes kinds (minus a b) = ReadsWholes kinds a × ReadsWholes kinds b
ReadsWholes kinds (times a b) = ReadsWholes kinds a × ReadsWholes kinds b
ReadsWholes kinds (quotient a b) = ReadsWholes kinds a × ReadsWholes kinds b
ReadsWholes kinds (remainder a b) = ReadsWholes kinds a × ReadsWholes kinds b

-- the atom reads a Boolean signal, or compares expressions over integers
abbrev pub AtomReadsKinds : List Bool → Atom → Type 0
AtomReadsKinds kinds (is_true s) = slice_get kinds s ≡ Some true
AtomReadsKinds kinds (equal a b) = ReadsWholes kinds a × ReadsWholes kinds b
AtomReadsKinds kinds (different a b) = ReadsWholes kinds a × ReadsWholes kinds b
AtomReadsKinds kinds (less a b) = ReadsWholes kinds a × ReadsWholes kinds b
AtomReadsKinds kinds (at_most a b) = ReadsWholes kinds a × ReadsWholes kinds b
AtomReadsKinds kinds (greater a b) = ReadsWholes kinds a × ReadsWholes kinds b
AtomReadsKinds kinds (at_least a b) = ReadsWholes kinds a × ReadsWholes kinds b

-- the formula reads signals that exist, each by its kind
abbrev pub ReadsKinds : List Bool → Formula → Type 0
ReadsKinds kinds p = EachAtom (AtomReadsKinds kinds) p

-- the formulas of the output read signals that exist, each by its kind
abbrev pub ReadsSignals : List Bool → Asked → Type 0
ReadsSignals kinds asked = All (ReadsKinds kinds) (formulas_of asked.output)

-- no two signals have the same name
abbrev pub HaveOwnNames : List Signal → Type 0
HaveOwnNames signals =
    (i j : ℕ) (s t : Signal) → i < j → slice_get signals i ≡ Some s → slice_get signals j ≡ Some t → s.name ≢ t.name
