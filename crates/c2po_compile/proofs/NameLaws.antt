-- Names of programs, which are made of letters, digits and `_`.

use Rattle.std.proofs.Common.{◌≡◌, ◌∙◌, ℕ, true, List, [], ◌∷◌, ◌++◌, map, All, refl, sym, ap, subst}
use Rattle.std.specs.Prelude.{◌&&◌}
use Rattle.std.specs.List.{flat_map, list_all}
use Rattle.std.proofs.lemmas.List.Folds.{list_all-append}
use Rattle.std.proofs.lemmas.List.Sums.{list_all-from_AllPass}
use Rattle.mltl_base.specs.declared.program.Out.{Out}
use Rattle.mltl_base.specs.Programs.{out_name}
use Rattle.mltl_base.proofs.Unfolding.{Each, each_from_all}
use Rattle.c2po_ast.specs.ItemShape.{TypeShape, BodyShape, ItemShape, input}
use Rattle.c2po_ast.specs.Names.{IsPlainName, ArePlain, IsPlainBody, ArePlainItems}
use Rattle.mltl_base.specs.declared.signal.Signal.{Signal}
use Rattle.c2po_types.specs.Signals.{is_bool, body_signals, signals_of}
use Rattle.mltl_base.specs.Letters.{is_in_word}
use Rattle.obs_binary.specs.Layout.{signal_name}
use Rattle.c2po_compile.specs.Images.{stored_signals}

-- a plain name has letters alone
name_letters : (x : List ℕ) → IsPlainName x → list_all is_in_word x ≡ true
name_letters x h = list_all-from_AllPass is_in_word x h

-- so has one name with another after it
letters_append : (x y : List ℕ) → list_all is_in_word x ≡ true → list_all is_in_word y ≡ true → list_all is_in_word (x ++ y) ≡ true
letters_append x y h k = list_all-append is_in_word x y ∙ ap (λ b. b && list_all is_in_word y) h ∙ k

-- so have the names of outputs
each_letters : {X : Type 0} (name : X → List ℕ) (xs : List X) → Each IsPlainName (map name xs) → list_all is_in_word (flat_map name xs) ≡ true
each_letters name [] h = refl
each_letters name (x ∷ xs) h = letters_append (name x) (flat_map name xs) (name_letters (name x) h.0) (each_letters name xs h.1)

pub output_letters : (outs : List Out) (names : List (List ℕ)) → map out_name outs ≡ names → All IsPlainName names → list_all is_in_word (flat_map out_name outs) ≡ true
output_letters outs names e h = each_letters out_name outs (each_from_all IsPlainName (map out_name outs) (subst (All IsPlainName) (sym e) h))

-- and those of signals
abbrev ArePlainSignals : List Signal → Type 0
ArePlainSignals signals = Each IsPlainName (map (λ (s : Signal). s.name) signals)

more_signals : (left right : List Signal) → ArePlainSignals left → ArePlainSignals right → ArePlainSignals (left ++ right)
more_signals [] right h k = k
more_signals (s ∷ left) right h k = (h.0, more_signals left right h.1 k)

input_plain : (xs : List (List ℕ)) (t : TypeShape) → ArePlain xs → ArePlainSignals (map (λ x. record { name = x; truth = is_bool t }) xs)
input_plain [] t h = tt
input_plain (x ∷ xs) t h = (h.0, input_plain xs t h.1)

body_plain : (body : BodyShape) → IsPlainBody body → ArePlainSignals (body_signals body)
body_plain (input xs t) h = input_plain xs t h.0
body_plain _ h = tt

signals_plain : (items : List ItemShape) → ArePlainItems items → ArePlainSignals (signals_of items)
signals_plain [] h = tt
signals_plain (i ∷ items) h = more_signals (body_signals i.body) (signals_of items) (body_plain i.body h.0) (signals_plain items h.1)

stored_letters : (signals : List Signal) (columns : List ℕ) → ArePlainSignals signals → list_all is_in_word (flat_map signal_name (stored_signals signals columns)) ≡ true
stored_letters [] columns h = refl
stored_letters (s ∷ signals) [] h = refl
stored_letters (s ∷ signals) (c ∷ columns) h =
    letters_append s.name (flat_map signal_name (stored_signals signals columns)) (name_letters s.name h.0) (stored_letters signals columns h.1)

pub signal_letters : (items : List ItemShape) (columns : List ℕ) → ArePlainItems items
    → list_all is_in_word (flat_map signal_name (stored_signals (signals_of items) columns)) ≡ true
signal_letters items columns h = stored_letters (signals_of items) columns (signals_plain items h)
