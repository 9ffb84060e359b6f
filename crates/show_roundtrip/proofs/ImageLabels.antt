-- The labels in the text of an image are new, each to those before it: they are among the labels of its source.

use Rattle.std.proofs.Common.{◌≡◌, ◌∙◌, ℕ, ◌+◌, Bool, true, false, List, [], ◌∷◌, ◌++◌, map, Option, Some, None, Ok, Err, if◌then◌else◌, refl, ap, sym, subst, arith}
use Rattle.std.specs.Prelude.{is_some, option_map, decimal, ⊤}
use Rattle.std.specs.List.{enumerate_from, cons_option}
use Rattle.std.specs.Str.{bytes_eq}
use Rattle.std.proofs.lemmas.Slice.Eq.{bytes_eq-Decides}
use Rattle.mltl_base.specs.declared.program.Columns.{Columns}
use Rattle.mltl_base.specs.declared.program.Out as out
use Rattle.mltl_base.specs.declared.program.Program.{Program}
use Rattle.mltl_base.specs.declared.program.StoredSignal.{StoredSignal}
use Rattle.mltl_base.specs.declared.signal.Signal.{Signal}
use Rattle.mltl_base.specs.Programs.{out_name as name_in_program}
use Rattle.mltl_base.specs.Subformulas.{Asked}
use Rattle.mltl_base.proofs.Graphs.{program_names}
use Rattle.mltl_simplify.specs.Outputs.{simple_outputs}
use Rattle.c2po_ast.specs.Outputs.{asked_over}
use Rattle.c2po_compile.specs.Images.{IsImageOf}
use Rattle.c2po_types.specs.Tables.{entry_of, is_named}
use Rattle.c2po_ast.specs.ItemShape as item
use Rattle.c2po_ast.specs.ItemShape.{BodyShape, ItemShape}
use Rattle.c2po_types.specs.declared.fault.TypeFault.TheVariants as fault
use Rattle.c2po_types.specs.Checking.{Checked, in_turn}
use Rattle.c2po_types.specs.Items.{Labels, with_struct, with_input, define_kind, with_label, formula_kind, contract_kind}
use Rattle.mltl_base.specs.Ranges.{NoRange}
use Rattle.c2po_types.specs.Environment.{value_of}
use Rattle.c2po_types.specs.Faults.{value_fault}
use Rattle.c2po_types.specs.FirstFault.{first_fault}
use Rattle.c2po_types.specs.Stepwise.{State, start, with_out, body_step, item_step, checked}
use Rattle.c2po_types.proofs.Parts.{bind-ok, unless-ok, when-ok, when_ranged-ok, ok-inj}
use Rattle.c2po_types.proofs.Ruling.{all-checked}
use Rattle.c2po_types.specs.Outputs.{Place, before, place_after, name_of, asked_at, asked_from, outputs_of}
use Rattle.c2po_compile.specs.Front.{items_in, first_refusal}
use Rattle.c2po_compile.specs.Compiled.{signals_in, outputs_in}
use Rattle.c2po_compile.specs.Image.{over_columns}
use Rattle.c2po_compile.specs.ImageFiles.{compile_over}
use Rattle.c2po_compile.specs.Simplified.{are_smaller, smaller_outputs, compile_simplified_over}
use Rattle.c2po_compile.proofs.ImageLaws.{image_of}
use Rattle.c2po_compile.proofs.TellingLaws.{no_fault}
use Rattle.obs_show.specs.Lines.{Form, Line, define}
use Rattle.obs_show.specs.Naming.{bz_name, ft_name, pt_name}
use Rattle.obs_show.specs.Text.{signal_line, bz_form, ft_form, pt_form, shown_label, output_line, output_lines, shown_lines}
use Rattle.show_roundtrip.proofs.Passing.{label_in, LabelsPass}
use Rattle.show_roundtrip.proofs.Walk.{lines_from}
use Rattle.show_roundtrip.proofs.Fresh.{entry_push}

-- ---- labels that are new

-- a label is new to others, and joins them
abbrev IsNewLabel : Option (List ℕ) → Labels → Type 0
IsNewLabel None labels = ⊤
IsNewLabel (Some x) labels = is_named x labels ≡ false

abbrev joined : Option (List ℕ) → Labels → Labels
joined None labels = labels
joined (Some x) labels = labels ++ (x, tt) ∷ []

-- each label of a list is new, after others
abbrev AreNewLabels : Labels → List (Option (List ℕ)) → Type 0
AreNewLabels labels [] = ⊤
AreNewLabels labels (o ∷ os) = IsNewLabel o labels × AreNewLabels (joined o labels) os

label_ok : (line : ℕ) (o : Option (List ℕ)) (labels later : Labels) → with_label line o labels ≡ Ok later → IsNewLabel o labels × (joined o labels ≡ later)
label_ok line None labels later h = (tt, ok-inj labels later h)
label_ok line (Some x) labels later h = go (is_named x labels) refl h
  where
    go : (b : Bool) → is_named x labels ≡ b → (if b then Err (fault.Twice line) else Ok (labels ++ (x, tt) ∷ [])) ≡ Ok later → (is_named x labels ≡ false) × (labels ++ (x, tt) ∷ [] ≡ later)
    go true e g = absurd (cc)
    go false e g = (e, ok-inj (labels ++ (x, tt) ∷ []) later g)

label_passes : (line : ℕ) (o : Option (List ℕ)) (labels : Labels) → IsNewLabel o labels → with_label line o labels ≡ Ok (joined o labels)
label_passes line None labels h = refl
label_passes line (Some x) labels h = ap (λ (b : Bool). let r : Checked Labels = if b then Err (fault.Twice line) else Ok (labels ++ (x, tt) ∷ []) in r) h

-- ---- the labels of a source

-- the label of an output's item
abbrev body_labels : BodyShape → List (Option (List ℕ))
body_labels (item.formula engine label e) = label ∷ []
body_labels (item.contract engine label e f) = label ∷ []
body_labels _ = []

abbrev labels_of : List ItemShape → List (Option (List ℕ))
labels_of [] = []
labels_of (i ∷ items) = body_labels i.body ++ labels_of items

out_labels : (line : ℕ) (labels : Labels) (w : ℕ) (why : Option NoRange) (mixed : Bool) (s t : State) → with_out line labels w why mixed s ≡ Ok t → labels ≡ t.labels
out_labels line labels w why mixed s t h = ap (λ (r : State). r.labels) (ok-inj _ t (unless-ok mixed _ _ t (when_ranged-ok line why _ t (when-ok _ _ _ t h))))

labels_stay : (s t : State) (os : List (Option (List ℕ))) → s.labels ≡ t.labels → AreNewLabels t.labels os → AreNewLabels s.labels os
labels_stay s t os same g = subst (λ (labels : Labels). AreNewLabels labels os) (sym same) g

body_new : (line : ℕ) (body : BodyShape) (s t : State) (os : List (Option (List ℕ))) → body_step line body s ≡ Ok t → AreNewLabels t.labels os → AreNewLabels s.labels (body_labels body ++ os)
body_new line (item.structure x fs) s t os h g =
    let p = bind-ok (with_struct line x fs s.declared) _ t h in
    labels_stay s t os (ap (λ (r : State). r.labels) (ok-inj _ t p.2)) g
body_new line (item.input xs ty) s t os h g =
    let p = bind-ok (with_input line xs ty s.declared) _ t h in
    labels_stay s t os (ap (λ (r : State). r.labels) (ok-inj _ t p.2)) g
body_new line (item.define x e) s t os h g =
    let p = bind-ok (define_kind line x e s.declared) _ t h in
    let v = value_of e s.values in
    labels_stay s t os (ap (λ (r : State). r.labels) (ok-inj _ t (when_ranged-ok line (value_fault v) _ t (when-ok _ _ _ t p.2)))) g
body_new line (item.formula engine label e) s t os h g =
    let p = bind-ok (with_label line label s.labels) _ t h in
    let q = bind-ok (formula_kind line e s.declared) _ t p.2 in
    let one = label_ok line label s.labels p.0 p.1 in
    (one.0, subst (λ (labels : Labels). AreNewLabels labels os) (sym (one.1 ∙ out_labels line p.0 _ _ _ s t q.2)) g)
body_new line (item.contract engine label e f) s t os h g =
    let p = bind-ok (with_label line label s.labels) _ t h in
    let q = bind-ok (contract_kind line e f s.declared) _ t p.2 in
    let one = label_ok line label s.labels p.0 p.1 in
    (one.0, subst (λ (labels : Labels). AreNewLabels labels os) (sym (one.1 ∙ out_labels line p.0 _ _ _ s t q.2)) g)

items_new : (items : List ItemShape) (s t : State) → in_turn item_step items s ≡ Ok t → AreNewLabels s.labels (labels_of items)
items_new [] s t h = tt
items_new (i ∷ items) s t h =
    let p = bind-ok (item_step i s) (in_turn item_step items) t h in
    body_new i.line i.body s p.0 (labels_of items) p.1 (items_new items p.0 t p.2)

source_new : (items : List ItemShape) → first_fault items ≡ None → AreNewLabels [] (labels_of items)
unfolding checked
source_new items h = let p = all-checked items h in items_new items start p.0 p.1

-- ---- the names of a source's outputs

-- names by labels, where outputs count from a number on
abbrev names_from : ℕ → List (Option (List ℕ)) → List (List ℕ)
names_from k [] = []
names_from k (o ∷ os) = name_of k o ∷ names_from (k + 1) os

abbrev names_in : List Asked → List (List ℕ)
names_in outs = map (λ a. a.name) outs

nothing_more : (k : ℕ) (names : List (List ℕ)) (os : List (Option (List ℕ))) → names ≡ names_from (k + 0) os → names ≡ names_from k os
nothing_more k names os h = let same : k + 0 ≡ k = omega arith in h ∙ ap (λ (n : ℕ). names_from n os) same

body_names : (body : BodyShape) (p : Place) (outs : List Asked) (os : List (Option (List ℕ))) → names_in outs ≡ names_from (place_after body p).outputs os
    → names_in (asked_at body p ++ outs) ≡ names_from p.outputs (body_labels body ++ os)
body_names (item.formula engine label e) p outs os h = ap (◌∷◌ (name_of p.outputs label)) h
body_names (item.contract engine label e f) p outs os h = ap (◌∷◌ (name_of p.outputs label)) h
body_names _ p outs os h = nothing_more p.outputs (names_in outs) os h

items_names : (items : List ItemShape) (p : Place) → names_in (asked_from items p) ≡ names_from p.outputs (labels_of items)
unfolding asked_from
items_names [] p = refl
items_names (i ∷ items) p = body_names i.body p (asked_from items (place_after i.body p)) (labels_of items) (items_names items (place_after i.body p))

source_names : (items : List ItemShape) → names_in (outputs_of items) ≡ names_from 0 (labels_of items)
unfolding outputs_of
source_names items = items_names items before

-- outputs keep their names over columns, and in simplified form
over_names : (columns : List ℕ) (outs : List Asked) → names_in (map (asked_over columns) outs) ≡ names_in outs
over_names columns [] = refl
over_names columns (a ∷ outs) = ap (◌∷◌ a.name) (over_names columns outs)

simple_names : (outs : List Asked) → names_in (simple_outputs outs) ≡ names_in outs
simple_names [] = refl
simple_names (a ∷ outs) = ap (◌∷◌ a.name) (simple_names outs)

smaller_names : (columns : Columns) (outs : List Asked) → names_in (smaller_outputs columns outs) ≡ names_in outs
unfolding smaller_outputs
smaller_names columns outs = go (are_smaller (over_columns columns (simple_outputs outs)) (over_columns columns outs))
  where
    go : (b : Bool) → names_in (if b then simple_outputs outs else outs) ≡ names_in outs
    go true = simple_names outs
    go false = refl

-- ---- the labels that are shown

-- what is new to many labels is new to fewer
abbrev AreFewer : Labels → Labels → Type 0
AreFewer few many = (x : List ℕ) → is_named x many ≡ false → is_named x few ≡ false

still_new : (x y : List ℕ) (labels : Labels) → is_named x labels ≡ false → bytes_eq x y ≡ false → is_named x (labels ++ (y, tt) ∷ []) ≡ false
still_new x y [] h g = ap (λ (b : Bool). is_some (if b then Some tt else None)) g
still_new x y (e ∷ labels) h g = go (still_new x y labels) (bytes_eq x e.0) h
  where
    go : (is_named x labels ≡ false → bytes_eq x y ≡ false → is_named x (labels ++ (y, tt) ∷ []) ≡ false) → (b : Bool)
        → is_some (if b then Some e.1 else entry_of x labels) ≡ false → is_some (if b then Some e.1 else entry_of x (labels ++ (y, tt) ∷ [])) ≡ false
    go ih true i = absurd (cc)
    go ih false i = ih i g

one_more : (x : List ℕ) (few many : Labels) → AreFewer few many → AreFewer few (many ++ (x, tt) ∷ [])
one_more x few many h y g = h y (entry_push y x tt many g).0

both_more : (x : List ℕ) (few many : Labels) → AreFewer few many → AreFewer (few ++ (x, tt) ∷ []) (many ++ (x, tt) ∷ [])
both_more x few many h y g = let parts = entry_push y x tt many g in still_new y x few (h y parts.0) parts.1

-- the labels of names that outputs count from a number on are new, after others
abbrev AreNewNames : Labels → ℕ → List (List ℕ) → Type 0
AreNewNames labels k [] = ⊤
AreNewNames labels k (x ∷ xs) = IsNewLabel (shown_label k x) labels × AreNewNames (joined (shown_label k x) labels) (k + 1) xs

number_unlabelled : (k : ℕ) → shown_label k (decimal k) ≡ None
number_unlabelled k = ap (λ (b : Bool). let o : Option (List ℕ) = if b then None else Some (decimal k) in o) ((bytes_eq-Decides (decimal k) (decimal k)).1 refl)

names_new : (os : List (Option (List ℕ))) (k : ℕ) (few many : Labels) → AreFewer few many → AreNewLabels many os → AreNewNames few k (names_from k os)
names_new [] k few many h g = tt
names_new (None ∷ os) k few many h g =
    subst (λ (o : Option (List ℕ)). IsNewLabel o few × AreNewNames (joined o few) (k + 1) (names_from (k + 1) os)) (sym (number_unlabelled k))
    (tt, names_new os (k + 1) few many h g.1)
names_new (Some x ∷ os) k few many h g = go (names_new os (k + 1)) (bytes_eq x (decimal k))
  where
    go : ((some all : Labels) → AreFewer some all → AreNewLabels all os → AreNewNames some (k + 1) (names_from (k + 1) os)) → (b : Bool)
        → IsNewLabel (if b then None else Some x) few × AreNewNames (joined (if b then None else Some x) few) (k + 1) (names_from (k + 1) os)
    go ih true = (tt, ih few (many ++ (x, tt) ∷ []) (one_more x few many h) g.1)
    go ih false = (h x g.0, ih (few ++ (x, tt) ∷ []) (many ++ (x, tt) ∷ []) (both_more x few many h) g.1)

-- ---- lines

-- lines that have no label
abbrev AreUnlabelled : List Line → Type 0
AreUnlabelled [] = ⊤
AreUnlabelled (l ∷ ls) = (label_in l ≡ None) × AreUnlabelled ls

pass_by : (ls more : List Line) (n : ℕ) (labels : Labels) → AreUnlabelled ls → ((m : ℕ) → LabelsPass m more labels) → LabelsPass n (ls ++ more) labels
unfolding LabelsPass
pass_by [] more n labels h g = g n
pass_by (l ∷ ls) more n labels h g = (labels, ap (λ (o : Option (List ℕ)). with_label n o labels) h.0, pass_by ls more (n + 1) labels h.1 g)

signals_unlabelled : (signals : List StoredSignal) → AreUnlabelled (map signal_line signals)
signals_unlabelled [] = tt
signals_unlabelled (s ∷ signals) = (refl, signals_unlabelled signals)

-- lines of definitions, by their names and forms
abbrev defined_from : {X : Type 0} → (ℕ → List ℕ) → (X → Option Form) → ℕ → List X → List Line
defined_from name form i xs = lines_from (λ j x. option_map (define (name j)) (form x)) i xs

defined_unlabelled : {X : Type 0} (name : ℕ → List ℕ) (form : X → Option Form) (i : ℕ) (xs : List X) → AreUnlabelled (defined_from name form i xs)
defined_unlabelled name form i [] = tt
defined_unlabelled name form i (x ∷ xs) = go (defined_unlabelled name form (i + 1) xs) (form x)
  where
    go : AreUnlabelled (defined_from name form (i + 1) xs) → (o : Option Form) → AreUnlabelled (cons_option (option_map (define (name i)) o) (defined_from name form (i + 1) xs))
    go ih None = ih
    go ih (Some f) = (refl, ih)

outs_pass : (program : Program) (outs : List out.Out) (k n : ℕ) (labels : Labels) → AreNewNames labels k (map name_in_program outs) → LabelsPass n (map (λ p. output_line program p.0 p.1) (enumerate_from k outs)) labels
unfolding LabelsPass
outs_pass program [] k n labels h = tt
outs_pass program (out.TheVariants.Formula engine i name ∷ outs) k n labels h =
    (joined (shown_label k name) labels, label_passes n (shown_label k name) labels h.0, outs_pass program outs (k + 1) (n + 1) (joined (shown_label k name) labels) h.1)
outs_pass program (out.TheVariants.Contract engine i j name ∷ outs) k n labels h =
    (joined (shown_label k name) labels, label_passes n (shown_label k name) labels h.0, outs_pass program outs (k + 1) (n + 1) (joined (shown_label k name) labels) h.1)

program_pass : (program : Program) → AreNewNames [] 0 (map name_in_program program.outs) → LabelsPass 1 (shown_lines program) []
program_pass program h =
    pass_by (map signal_line program.signals) _ 1 [] (signals_unlabelled program.signals)
    (λ n. pass_by (defined_from (bz_name program) (bz_form program) 0 program.bz) _ n [] (defined_unlabelled (bz_name program) (bz_form program) 0 program.bz)
    (λ n. pass_by (defined_from (ft_name program) (ft_form program) 0 program.ft) _ n [] (defined_unlabelled (ft_name program) (ft_form program) 0 program.ft)
    (λ n. pass_by (defined_from (pt_name program) (pt_form program) 0 program.pt) (output_lines program program.outs) n [] (defined_unlabelled (pt_name program) (pt_form program) 0 program.pt)
    (λ n. outs_pass program program.outs 0 n [] h))))

-- ---- images

image_pass : (signals : List Signal) (columns : Columns) (outs : List Asked) (program : Program) (os : List (Option (List ℕ))) → IsImageOf signals columns outs program
    → names_in outs ≡ names_from 0 os → AreNewLabels [] os → LabelsPass 1 (shown_lines program) []
image_pass signals columns outs program os of names new =
    let same : map name_in_program program.outs ≡ names_from 0 os = program_names program (map (asked_over columns.of_signal) outs) of.lists ∙ over_names columns.of_signal outs ∙ names in
    program_pass program (subst (AreNewNames [] 0) (sym same) (names_new os 0 [] [] (λ x g. g) new))

-- each label in the text of an image is new, also where the image is simplified
pub labels_pass : (source : List ℕ) (columns : Columns) (program : Program) → first_refusal source ≡ None → program ≡ compile_over source columns → LabelsPass 1 (shown_lines program) []
labels_pass source columns program h is =
    let signals : List Signal = signals_in source in
    let outs : List Asked = outputs_in source in
    image_pass signals columns outs program (labels_of (items_in source)) (subst (IsImageOf signals columns outs) (sym is) (image_of columns signals outs))
    (source_names (items_in source)) (source_new (items_in source) (no_fault source h))

pub simple_labels_pass : (source : List ℕ) (columns : Columns) (program : Program) → first_refusal source ≡ None → program ≡ compile_simplified_over source columns → LabelsPass 1 (shown_lines program) []
simple_labels_pass source columns program h is =
    let signals : List Signal = signals_in source in
    let outs : List Asked = smaller_outputs columns (outputs_in source) in
    image_pass signals columns outs program (labels_of (items_in source)) (subst (IsImageOf signals columns outs) (sym is) (image_of columns signals outs))
    (smaller_names columns (outputs_in source) ∙ source_names (items_in source)) (source_new (items_in source) (no_fault source h))
