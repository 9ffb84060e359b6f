-- The graph of a specification unfolds to its outputs over their core forms, which say the same.

use Rattle.std.proofs.Common.{◌≡◌, ℕ, suc, Bool, if◌then◌else◌, Some, List, [], ◌∷◌, ◌++◌, map, All, length, drop, slice_get, refl, ap, ap₂, ◌∙◌, arith}
use Rattle.std.proofs.lemmas.Option.{get_or_from_slice_get}
use Rattle.mltl_base.specs.declared.interval.Engine.{Engine}
use Rattle.mltl_base.specs.declared.interval.Engine.TheVariants.{Ft, Pt}
use Rattle.mltl_base.specs.declared.program.Program.{Program}
use Rattle.mltl_base.specs.declared.report.Style.{Style}
use Rattle.mltl_base.specs.declared.report.Word.{Word}
use Rattle.mltl_base.specs.Atoms.{Row}
use Rattle.mltl_base.specs.Formula.{Core, ctrue, catom, cnot, cand, cuntil, csince, plain, core}
use Rattle.mltl_base.specs.Verdicts.{known_front}
use Rattle.mltl_base.specs.Reports.{Output, formula, contract, word_of, status, words, of_words, of_row, reports_after, reports}
use Rattle.mltl_base.specs.Programs.{Expression, atom_of, expressions, atoms, core_at, formulas, past_formulas, cores_of, output_of, outputs, out_name, output_names}
use Rattle.mltl_base.specs.Subformulas.{same, place_of, Asked, cores_of_output, formulas_of, same_engine, all_cores, cores_for, subformulas, bz_expressions, bz_list, ft_list, pt_list, out_by, out_list, core_output, IsOfTense, IsTensed, HasListsOf}
use Rattle.mltl_base.proofs.CoreVerdicts.{core_verdicts}
use Rattle.mltl_base.proofs.Sameness.{same_sound, same_self}
use Rattle.mltl_base.proofs.Listing.{place_get}
use Rattle.mltl_base.proofs.Unfolding.{Has, Each, each_from_all, Deep, IsFtHead, IsPtHead, ft_formulas, pt_formulas, fold_closed, fold_all}
use Rattle.mltl_base.proofs.Booleans.{HasAtom, bz_unfolds, atom_at_place, fold_whole, fold_have}
use Rattle.mltl_base.proofs.Tenses.{NotSince, NotUntil, core_future, core_past}
use Rattle.mltl_base.proofs.Members.{each_append, each_left, each_right}
use Rattle.mltl_base.proofs.Picking.{cores_atoms, all_listed}

pub bz_list_unfolds : (outs : List Asked) → expressions (bz_list outs) ≡ bz_expressions outs
bz_list_unfolds outs = bz_unfolds (bz_expressions outs) (fold_whole (all_cores outs) [] (cores_atoms outs) tt)

-- the atoms that engines load
pub loaded_atoms : (outs : List Asked) → atoms (bz_list outs) ≡ map (λ e. atom_of (Some e)) (bz_expressions outs)
loaded_atoms outs = ap (map (λ e. atom_of (Some e))) (bz_list_unfolds outs)

-- what a core formula needs for its instructions to unfold to it
ft_heads : (es : List Expression) (p : Core) → Deep (HasAtom es) p → Deep NotSince p → Deep (IsFtHead (map (λ e. atom_of (Some e)) es) es) p
ft_heads es ctrue h g = tt
ft_heads es (catom a) h g = atom_at_place es a h
ft_heads es (cnot p) h g = (tt, ft_heads es p h.1 g.1)
ft_heads es (cand p q) h g = (tt, ft_heads es p h.1 g.1, ft_heads es q h.2 g.2)
ft_heads es (cuntil i p q) h g = (tt, ft_heads es p h.1 g.1, ft_heads es q h.2 g.2)
ft_heads es (csince i p q) h g = absurd g.0

pt_heads : (es : List Expression) (p : Core) → Deep (HasAtom es) p → Deep NotUntil p → Deep (IsPtHead (map (λ e. atom_of (Some e)) es) es) p
pt_heads es ctrue h g = tt
pt_heads es (catom a) h g = atom_at_place es a h
pt_heads es (cnot p) h g = (tt, pt_heads es p h.1 g.1)
pt_heads es (cand p q) h g = (tt, pt_heads es p h.1 g.1, pt_heads es q h.2 g.2)
pt_heads es (csince i p q) h g = (tt, pt_heads es p h.1 g.1, pt_heads es q h.2 g.2)
pt_heads es (cuntil i p q) h g = absurd g.0

ft_output : (es : List Expression) (o : Output) → Each (IsOfTense Ft) (formulas_of o) → Each (Deep (HasAtom es)) (cores_of_output o) → Each (Deep (IsFtHead (map (λ e. atom_of (Some e)) es) es)) (cores_of_output o)
ft_output es (formula p) t h = (ft_heads es (core p) h.0 (core_future p t.0), tt)
ft_output es (contract p q) t h = (ft_heads es (core p) h.0 (core_future p t.0), (ft_heads es (core q) h.1.0 (core_future q t.1.0), tt))

pt_output : (es : List Expression) (o : Output) → Each (IsOfTense Pt) (formulas_of o) → Each (Deep (HasAtom es)) (cores_of_output o) → Each (Deep (IsPtHead (map (λ e. atom_of (Some e)) es) es)) (cores_of_output o)
pt_output es (formula p) t h = (pt_heads es (core p) h.0 (core_past p t.0), tt)
pt_output es (contract p q) t h = (pt_heads es (core p) h.0 (core_past p t.0), (pt_heads es (core q) h.1.0 (core_past q t.1.0), tt))

-- each formula of an output is of the tense of its engine
abbrev IsTensedEach : Asked → Type 0
IsTensedEach a = Each (IsOfTense a.engine) (formulas_of a.output)

tensed_each : (outs : List Asked) → All IsTensed outs → Each IsTensedEach outs
tensed_each [] h = tt
tensed_each (a ∷ outs) h = (each_from_all (IsOfTense a.engine) (formulas_of a.output) (h 0 a (omega arith)), tensed_each outs (λ k d l. h (suc k) d (omega arith)))

ft_cores : (es : List Expression) (outs : List Asked) → Each IsTensedEach outs → Each (Deep (HasAtom es)) (all_cores outs) → Each (Deep (IsFtHead (map (λ e. atom_of (Some e)) es) es)) (cores_for Ft outs)
ft_cores es [] t h = tt
ft_cores es (a ∷ outs) t h =
    each_append (Deep (IsFtHead (map (λ e. atom_of (Some e)) es) es)) (if same_engine a.engine Ft then cores_of_output a.output else []) (cores_for Ft outs)
    (go a.engine t.0) (ft_cores es outs t.1 (each_right (Deep (HasAtom es)) (cores_of_output a.output) (all_cores outs) h))
  where
    go : (e : Engine) → Each (IsOfTense e) (formulas_of a.output) → Each (Deep (IsFtHead (map (λ e. atom_of (Some e)) es) es)) (if same_engine e Ft then cores_of_output a.output else [])
    go Ft t = ft_output es a.output t (each_left (Deep (HasAtom es)) (cores_of_output a.output) (all_cores outs) h)
    go Pt t = tt

pt_cores : (es : List Expression) (outs : List Asked) → Each IsTensedEach outs → Each (Deep (HasAtom es)) (all_cores outs) → Each (Deep (IsPtHead (map (λ e. atom_of (Some e)) es) es)) (cores_for Pt outs)
pt_cores es [] t h = tt
pt_cores es (a ∷ outs) t h =
    each_append (Deep (IsPtHead (map (λ e. atom_of (Some e)) es) es)) (if same_engine a.engine Pt then cores_of_output a.output else []) (cores_for Pt outs)
    (go a.engine t.0) (pt_cores es outs t.1 (each_right (Deep (HasAtom es)) (cores_of_output a.output) (all_cores outs) h))
  where
    go : (e : Engine) → Each (IsOfTense e) (formulas_of a.output) → Each (Deep (IsPtHead (map (λ e. atom_of (Some e)) es) es)) (if same_engine e Pt then cores_of_output a.output else [])
    go Pt t = pt_output es a.output t (each_left (Deep (HasAtom es)) (cores_of_output a.output) (all_cores outs) h)
    go Ft t = tt

pub ft_list_unfolds : (outs : List Asked) → All IsTensed outs → formulas (atoms (bz_list outs)) (ft_list outs) ≡ subformulas Ft outs
ft_list_unfolds outs t =
    let es : List Expression = bz_expressions outs in
    ap (λ loaded. formulas loaded (ft_list outs)) (loaded_atoms outs)
    ∙ ft_formulas (map (λ e. atom_of (Some e)) es) es (subformulas Ft outs) (fold_closed (cores_for Ft outs) [] tt)
    (fold_all (IsFtHead (map (λ e. atom_of (Some e)) es) es) (cores_for Ft outs) [] (ft_cores es outs (tensed_each outs t) (fold_have (all_cores outs) [])) tt)

pub pt_list_unfolds : (outs : List Asked) → All IsTensed outs → past_formulas (atoms (bz_list outs)) (pt_list outs) ≡ subformulas Pt outs
pt_list_unfolds outs t =
    let es : List Expression = bz_expressions outs in
    ap (λ loaded. past_formulas loaded (pt_list outs)) (loaded_atoms outs)
    ∙ pt_formulas (map (λ e. atom_of (Some e)) es) es (subformulas Pt outs) (fold_closed (cores_for Pt outs) [] tt)
    (fold_all (IsPtHead (map (λ e. atom_of (Some e)) es) es) (cores_for Pt outs) [] (pt_cores es outs (tensed_each outs t) (fold_have (all_cores outs) [])) tt)

found_core : (ps : List Core) (p : Core) → Has ps p → core_at ps (place_of same p ps) ≡ p
found_core ps p h = get_or_from_slice_get ps (place_of same p ps) p ctrue (place_get same same_sound same_self p ps h)

pub output_unfolds : (program : Program) (ps : List Core) (e : Engine) (name : List ℕ) (o : Output) → cores_of program e ≡ ps → Each (Has ps) (cores_of_output o) →
    output_of program (out_by ps e name o) ≡ core_output o
output_unfolds program ps e name (formula p) q h =
    ap (λ c. formula (plain c)) (ap (λ cs. core_at cs (place_of same (core p) ps)) q ∙ found_core ps (core p) h.0)
output_unfolds program ps e name (contract p r) q h =
    ap₂ (λ c d. contract (plain c) (plain d)) (ap (λ cs. core_at cs (place_of same (core p) ps)) q ∙ found_core ps (core p) h.0)
    (ap (λ cs. core_at cs (place_of same (core r) ps)) q ∙ found_core ps (core r) h.1.0)

outs_unfold : (program : Program) (all outs : List Asked) → ((e : Engine) → cores_of program e ≡ subformulas e all) → Each (λ a. Each (Has (subformulas a.engine all)) (cores_of_output a.output)) outs →
    map (output_of program) (map (λ a. out_by (subformulas a.engine all) a.engine a.name a.output) outs) ≡ map (λ a. core_output a.output) outs
outs_unfold program all [] q h = refl
outs_unfold program all (a ∷ outs) q h =
    ap₂ ◌∷◌ (output_unfolds program (subformulas a.engine all) a.engine a.name a.output (q a.engine) h.0) (outs_unfold program all outs q h.1)

-- a program has the lists of a specification
pub cores_listed : (program : Program) (outs : List Asked) → program.bz ≡ bz_list outs → program.ft ≡ ft_list outs → program.pt ≡ pt_list outs → All IsTensed outs → (e : Engine) → cores_of program e ≡ subformulas e outs
cores_listed program outs b f p t Ft = rw (b, f) (ft_list_unfolds outs t)
cores_listed program outs b f p t Pt = rw (b, p) (pt_list_unfolds outs t)

pub outputs_unfold : (program : Program) (outs : List Asked) → program.bz ≡ bz_list outs → program.ft ≡ ft_list outs → program.pt ≡ pt_list outs → program.outs ≡ out_list outs → All IsTensed outs →
    outputs program ≡ map (λ a. core_output a.output) outs
outputs_unfold program outs b f p o t =
    rw o (outs_unfold program outs outs (cores_listed program outs b f p t) (all_listed outs))

named : (ps : List Core) (e : Engine) (name : List ℕ) (o : Output) → out_name (out_by ps e name o) ≡ name
named ps e name (formula p) = refl
named ps e name (contract p q) = refl

outs_named : (all outs : List Asked) → map out_name (map (λ a. out_by (subformulas a.engine all) a.engine a.name a.output) outs) ≡ map (λ a. a.name) outs
outs_named all [] = refl
outs_named all (a ∷ outs) = ap₂ ◌∷◌ (named (subformulas a.engine all) a.engine a.name a.output) (outs_named all outs)

pub names_kept : (program : Program) (outs : List Asked) → program.outs ≡ out_list outs → output_names program ≡ map (λ a. a.name) outs
names_kept program outs o = rw o (outs_named outs outs)

-- outputs over core forms have the words of the outputs, and so their reports
pub core_words : (rows : List Row) (o : Output) → words rows (core_output o) ≡ words rows o
unfolding words
core_words rows (formula p) = ap (map word_of) (core_verdicts rows p)
core_words rows (contract p q) =
    ap₂ (λ (us vs : List Bool). known_front (λ t. status (slice_get us t) (slice_get vs t)) (length rows)) (core_verdicts rows p) (core_verdicts rows q)

core_row : (style : Style) (k : ℕ) (outs : List Output) (rows : List Row) (r : Row) → of_row style k (map core_output outs) rows r ≡ of_row style k outs rows r
unfolding of_row
core_row style k [] rows r = refl
core_row style k (o ∷ outs) rows r =
    ap₂ ◌++◌ (ap₂ (λ (old now : List Word). of_words style k (length old) (drop (length old) now)) (core_words rows o) (core_words (rows ++ r ∷ []) o)) (core_row style (suc k) outs rows r)

core_after : (style : Style) (outs : List Output) (rows more : List Row) → reports_after style (map core_output outs) rows more ≡ reports_after style outs rows more
unfolding reports_after
core_after style outs rows [] = refl
core_after style outs rows (r ∷ more) = ap₂ ◌++◌ (core_row style 0 outs rows r) (core_after style outs (rows ++ r ∷ []) more)

pub core_reports : (style : Style) (outs : List Output) (rows : List Row) → reports style (map core_output outs) rows ≡ reports style outs rows
core_reports style outs rows = core_after style outs [] rows

core_outputs : (outs : List Asked) → map (λ a. core_output a.output) outs ≡ map core_output (map (λ a. a.output) outs)
core_outputs [] = refl
core_outputs (a ∷ outs) = ap (◌∷◌ (core_output a.output)) (core_outputs outs)

pub program_reports : (style : Style) (program : Program) (outs : List Asked) (rows : List Row) → program.bz ≡ bz_list outs → program.ft ≡ ft_list outs → program.pt ≡ pt_list outs → program.outs ≡ out_list outs → All IsTensed outs →
    reports style (outputs program) rows ≡ reports style (map (λ a. a.output) outs) rows
program_reports style program outs rows b f p o t =
    ap (λ os. reports style os rows) (outputs_unfold program outs b f p o t ∙ core_outputs outs) ∙ core_reports style (map (λ a. a.output) outs) rows

-- the same of a program that has the lists of a specification
pub program_unfolds : (program : Program) (outs : List Asked) → HasListsOf outs program → All IsTensed outs → outputs program ≡ map (λ a. core_output a.output) outs
program_unfolds program outs h t = outputs_unfold program outs h.bz h.ft h.pt h.reports t

pub program_names : (program : Program) (outs : List Asked) → HasListsOf outs program → output_names program ≡ map (λ a. a.name) outs
program_names program outs h = names_kept program outs h.reports

pub program_tells : (style : Style) (program : Program) (outs : List Asked) (rows : List Row) → HasListsOf outs program → All IsTensed outs →
    reports style (outputs program) rows ≡ reports style (map (λ a. a.output) outs) rows
program_tells style program outs rows h t = program_reports style program outs rows h.bz h.ft h.pt h.reports t
