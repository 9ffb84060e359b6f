-- The lines of a well-formed program whose names can be written have words of the language.

use Rattle.std.proofs.Common.{◌≡◌, ℕ, pos, ◌+◌, ◌<◌, ◌≤◌, ◌^◌, zero, suc, Bool, true, false, not, List, [], ◌∷◌, ◌++◌, length, map, Option, Some, None, refl, sym, subst, arith, inl, inr}
use Rattle.std.specs.Prelude.{slice_get, slice_index, if◌then◌else◌, nat_le, ◌⊎◌, decimal, filter, ⊤}
use Rattle.std.specs.List.{range_with_len, enumerate_from, list_all}
use Rattle.std.specs.Str.{bytes_eq}
use Rattle.std.proofs.lemmas.Slice.Eq.{bytes_eq-Decides}
use Rattle.std.proofs.lemmas.Option.{same_Some}
use Rattle.std.proofs.lemmas.Bool.{and_parts, leb-true}
use Rattle.std.proofs.lemmas.Bool.Decides.{nat_tests}
use Rattle.std.proofs.lemmas.Fmt.{digits_decimal, length-decimal-le}
use Rattle.std.proofs.lemmas.List.Sums.{count_by-le-length, AllPass-from_list_all}
use Rattle.mltl_base.specs.declared.interval.Engine.{Engine}
use Rattle.mltl_base.specs.declared.interval.Engine.TheVariants.{Ft, Pt}
use Rattle.mltl_base.specs.declared.interval.Interval.{Interval}
use Rattle.mltl_base.specs.declared.limits.TheConstants.{MAX_BOUND}
use Rattle.mltl_base.specs.declared.operators.BzOp as bz
use Rattle.mltl_base.specs.declared.operators.FtOp as ft
use Rattle.mltl_base.specs.declared.operators.PtOp as pt
use Rattle.mltl_base.specs.declared.program.Out as out
use Rattle.mltl_base.specs.declared.program.Program.{Program}
use Rattle.mltl_base.specs.declared.program.StoredSignal.{StoredSignal}
use Rattle.mltl_base.specs.Programs.{out_name}
use Rattle.mltl_base.specs.Letters.{is_in_word}
use Rattle.obs_verify.specs.Layout.{HasLayout}
use Rattle.obs_verify.specs.WellFormed.{IsWellFormed, has_future_window, has_past_window, is_window, has_kind}
use Rattle.obs_show.specs.Lines.{Form, Line}
use Rattle.obs_show.specs.Naming.{is_operation, is_future_operation, is_past_operation, operations, numbered_name, is_signal_name, free_numbers, defined_name, name_in, bz_name, ft_name, pt_name, bz_called, bz_reference, ft_called, ft_reference, pt_called, pt_reference}
use Rattle.obs_show.specs.Text.{signal_line, bz_form, bz_line, ft_form, ft_line, pt_form, pt_line, shown_label, reference_in, output_line, shown_lines}
use Rattle.show_roundtrip.specs.Written.{IsName, IsNumeral}
use Rattle.show_roundtrip.specs.Said.{HasToken, HasTokens, HasName, HasWords, HaveWords}
use Rattle.show_roundtrip.specs.Named.{AreNamed, AreLabelled, HasNoNegative, HaveNoNegatives, HasOwnWords}
use Rattle.show_roundtrip.proofs.Reading.{digits_in_word, decimals}
use Rattle.show_roundtrip.proofs.Walk.{HaveOwnColumns, InColumn, in_column, HasKindFor, kind_for, HaveOperands, lines_from, put, put_is}
use Rattle.show_roundtrip.proofs.Engines.{HaveFutureOperands, HavePastOperands}
use Rattle.show_roundtrip.proofs.Whole.{CanBeSaid}
use Rattle.show_roundtrip.proofs.Formed.{well_formed_said}

words_append : (ls ms : List Line) → HaveWords ls → HaveWords ms → HaveWords (ls ++ ms)
words_append [] ms h g = g
words_append (l ∷ ls) ms h g = (h.0, words_append ls ms h.1 g)

-- numbers of defined names
abbrev AllUpTo : ℕ → List ℕ → Type 0
AllUpTo m [] = ⊤
AllUpTo m (x ∷ xs) = (x ≤ m) × AllUpTo m xs

range_up_to : (n a m : ℕ) → a + n ≤ m → AllUpTo m (range_with_len a n)
range_up_to zero a m h = tt
range_up_to (suc n) a m h = (omega arith, range_up_to n (a + 1) m (omega arith))

filter_up_to : (p : ℕ → Bool) (m : ℕ) (xs : List ℕ) → AllUpTo m xs → AllUpTo m (filter p xs)
filter_up_to p m [] h = tt
filter_up_to p m (x ∷ xs) h = go (filter_up_to p m xs h.1) (p x)
  where
    go : AllUpTo m (filter p xs) → (b : Bool) → AllUpTo m (if b then x ∷ filter p xs else filter p xs)
    go ih true = (h.0, ih)
    go ih false = ih

index_up_to : (m : ℕ) (xs : List ℕ) (k : ℕ) → AllUpTo m xs → slice_index xs k ≤ m
index_up_to m [] k h = omega arith
index_up_to m (x ∷ xs) zero h = h.0
index_up_to m (x ∷ xs) (suc k) h = index_up_to m xs k h.1

numbered : (n : ℕ) → n < 10 ^ 19 → IsName (numbered_name n)
numbered n small =
    let fits : n < 2 ^ 64 = omega arith in
    let digits : list_all is_in_word (decimal n) ≡ true = digits_in_word (decimal n) (digits_decimal decimals n fits) in
    record {
      begins = refl;
      word = AllPass-from_list_all is_in_word (100 ∷ decimal n) digits;
      short = omega (arith, length-decimal-le 19 n (omega arith) small fits);
      free = refl;
    }

defined_named : (program : Program) (k : ℕ) → HasLayout program → IsName (defined_name program k)
defined_named program k few =
    let m : ℕ = operations program + length program.signals in
    let p : ℕ → Bool = λ n. not (is_signal_name program.signals (numbered_name n)) in
    let at : slice_index (free_numbers program.signals (operations program)) k ≤ m =
    index_up_to m (free_numbers program.signals (operations program)) k (filter_up_to p m (range_with_len 0 m) (range_up_to m 0 m (omega arith))) in
    let small : m < 10 ^ 19 = omega (arith, count_by-le-length is_operation program.bz, count_by-le-length is_future_operation program.ft, count_by-le-length is_past_operation program.pt, few.few_bz, few.few_ft, few.few_pt, few.few_signals) in
    numbered (slice_index (free_numbers program.signals (operations program)) k) (omega arith)

-- signals by their columns have names
named_at : (signals : List StoredSignal) (k : ℕ) (s : StoredSignal) → AreNamed signals → slice_get signals k ≡ Some s → IsName s.name
named_at [] k s h e = absurd (cc)
named_at (t ∷ signals) zero s h e = subst (λ (u : StoredSignal). IsName u.name) (same_Some t s e) h.0
named_at (t ∷ signals) (suc k) s h e = named_at signals k s h.1 e

column_named : (signals : List StoredSignal) (c : ℕ) (b : Bool) → AreNamed signals → HaveOwnColumns signals → has_kind signals c b ≡ true → IsName (name_in signals c)
column_named signals c b names own kind =
    let s : InColumn signals c b = in_column signals c b own kind in
    subst IsName (sym s.name_is) (named_at signals s.number_is s.signal names s.stands)

-- what is known of each instruction of the Booleanizer
record IsFine (program : Program) (op : bz.BzOp) : Type 0 where
  kind : HasKindFor program op
  counted : HasNoNegative op

fine_at : (program : Program) (i : ℕ) (ops : List bz.BzOp) (j : ℕ) (op : bz.BzOp) → program.version ≡ 2 → HaveOperands program i ops → HaveNoNegatives ops → slice_get ops j ≡ Some op → IsFine program op
fine_at program i [] j op v h g e = absurd (cc)
fine_at program i (x ∷ ops) zero op v h g e = subst (IsFine program) (same_Some x op e) (record { kind = kind_for program i x v h.0; counted = g.0 })
fine_at program i (x ∷ ops) (suc j) op v h g e = fine_at program (i + 1) ops j op v h.1 g.1 e

-- what a program needs for its words
record HasAll (program : Program) : Type 0 where
  few : HasLayout program
  said : CanBeSaid program
  words : HasOwnWords program

called_token : (program : Program) (i : ℕ) (op : bz.BzOp) → HasAll program → IsFine program op → HasToken (bz_called program i (Some op))
called_token program i (bz.TheVariants.Column c) h f = column_named program.signals c false h.words.signals h.said.columns f.kind
called_token program i (bz.TheVariants.IsTrue c) h f = column_named program.signals c true h.words.signals h.said.columns f.kind
called_token program i (bz.TheVariants.Const n) h f = f.counted
called_token program i _ h f = defined_named program _ h.few

bz_token : (program : Program) (a : ℕ) → HasAll program → HasToken (bz_reference program a)
bz_token program a h = go (slice_get program.bz a) refl
  where
    go : (o : Option bz.BzOp) → slice_get program.bz a ≡ o → HasToken (bz_called program a o)
    go None e = tt
    go (Some op) e = called_token program a op h (fine_at program 0 program.bz a op h.said.version h.said.bz h.words.constants e)

ft_token : (program : Program) (g : ℕ) → HasAll program → HasToken (ft_reference program g)
ft_token program g h = go (slice_get program.ft g)
  where
    go : (o : Option ft.FtOp) → HasToken (ft_called program g o)
    go None = tt
    go (Some ft.TheVariants.True) = tt
    go (Some (ft.TheVariants.Load a)) = bz_token program a h
    go (Some (ft.TheVariants.Not a)) = defined_named program _ h.few
    go (Some (ft.TheVariants.And l r)) = defined_named program _ h.few
    go (Some (ft.TheVariants.Until l r window)) = defined_named program _ h.few

pt_token : (program : Program) (g : ℕ) → HasAll program → HasToken (pt_reference program g)
pt_token program g h = go (slice_get program.pt g)
  where
    go : (o : Option pt.PtOp) → HasToken (pt_called program g o)
    go None = tt
    go (Some pt.TheVariants.True) = tt
    go (Some (pt.TheVariants.Load a)) = bz_token program a h
    go (Some (pt.TheVariants.Not a)) = defined_named program _ h.few
    go (Some (pt.TheVariants.And l r)) = defined_named program _ h.few
    go (Some (pt.TheVariants.Since l r window)) = defined_named program _ h.few

-- forms
abbrev OptionTokens : Option Form → Type 0
OptionTokens None = ⊤
OptionTokens (Some f) = HasTokens f

bz_tokens : (program : Program) (op : bz.BzOp) → HasAll program → OptionTokens (bz_form program op)
bz_tokens program (bz.TheVariants.Column c) h = tt
bz_tokens program (bz.TheVariants.IsTrue c) h = tt
bz_tokens program (bz.TheVariants.Const n) h = tt
bz_tokens program (bz.TheVariants.Neg a) h = bz_token program a h
bz_tokens program _ h = (bz_token program _ h, bz_token program _ h)

window_numbers : (i : Interval) → is_window i ≡ true → IsNumeral (pos i.lo) × IsNumeral (pos i.hi)
window_numbers i h =
    let parts : (nat_le i.lo i.hi ≡ true) × (nat_le i.hi MAX_BOUND ≡ true) = and_parts (nat_le i.lo i.hi) (nat_le i.hi MAX_BOUND) h in
    let low : i.lo ≤ i.hi = leb-true i.lo i.hi parts.0 in
    let high : i.hi ≤ MAX_BOUND = leb-true i.hi MAX_BOUND parts.1 in
    (omega arith, omega arith)

ft_tokens : (program : Program) (op : ft.FtOp) → HasAll program → has_future_window op ≡ true → OptionTokens (ft_form program op)
ft_tokens program (ft.TheVariants.Not g) h w = ft_token program g h
ft_tokens program (ft.TheVariants.And l r) h w = (ft_token program l h, ft_token program r h)
ft_tokens program (ft.TheVariants.Until l r window) h w = let n = window_numbers window w in (n.0, n.1, ft_token program l h, ft_token program r h)
ft_tokens program _ h w = tt

pt_tokens : (program : Program) (op : pt.PtOp) → HasAll program → has_past_window op ≡ true → OptionTokens (pt_form program op)
pt_tokens program (pt.TheVariants.Not g) h w = pt_token program g h
pt_tokens program (pt.TheVariants.And l r) h w = (pt_token program l h, pt_token program r h)
pt_tokens program (pt.TheVariants.Since l r window) h w = let n = window_numbers window w in (n.0, n.1, pt_token program l h, pt_token program r h)
pt_tokens program _ h w = tt

put_words : (x : List ℕ) (o : Option Form) (ls : List Line) → IsName x → OptionTokens o → HaveWords ls → HaveWords (put x o ls)
put_words x None ls name h g = g
put_words x (Some f) ls name h g = ((name, h), g)

-- lines
bz_words : (program : Program) (i : ℕ) (ops : List bz.BzOp) (more : List Line) → HasAll program → HaveWords more → HaveWords (lines_from (bz_line program) i ops ++ more)
bz_words program i [] more h g = g
bz_words program i (op ∷ ops) more h g =
    subst HaveWords (sym (put_is (bz_name program i) (bz_form program op) (lines_from (bz_line program) (i + 1) ops) more))
    (put_words (bz_name program i) (bz_form program op) (lines_from (bz_line program) (i + 1) ops ++ more) (defined_named program _ h.few) (bz_tokens program op h) (bz_words program (i + 1) ops more h g))

ft_words : (program : Program) (i : ℕ) (ops : List ft.FtOp) (more : List Line) → HasAll program → HaveFutureOperands program i ops → HaveWords more → HaveWords (lines_from (ft_line program) i ops ++ more)
ft_words program i [] more h ok g = g
ft_words program i (op ∷ ops) more h ok g =
    subst HaveWords (sym (put_is (ft_name program i) (ft_form program op) (lines_from (ft_line program) (i + 1) ops) more))
    (put_words (ft_name program i) (ft_form program op) (lines_from (ft_line program) (i + 1) ops ++ more) (defined_named program _ h.few) (ft_tokens program op h ok.1) (ft_words program (i + 1) ops more h ok.2 g))

pt_words : (program : Program) (i : ℕ) (ops : List pt.PtOp) (more : List Line) → HasAll program → HavePastOperands program i ops → HaveWords more → HaveWords (lines_from (pt_line program) i ops ++ more)
pt_words program i [] more h ok g = g
pt_words program i (op ∷ ops) more h ok g =
    subst HaveWords (sym (put_is (pt_name program i) (pt_form program op) (lines_from (pt_line program) (i + 1) ops) more))
    (put_words (pt_name program i) (pt_form program op) (lines_from (pt_line program) (i + 1) ops ++ more) (defined_named program _ h.few) (pt_tokens program op h ok.1) (pt_words program (i + 1) ops more h ok.2 g))

label_words : (k : ℕ) (name : List ℕ) → (name ≡ decimal k) ⊎ IsName name → HasName (shown_label k name)
label_words k name h = go (bytes_eq name (decimal k)) refl h
  where
    go : (b : Bool) → bytes_eq name (decimal k) ≡ b → (name ≡ decimal k) ⊎ IsName name → HasName (if b then None else Some name)
    go true e g = tt
    go false e (inl same) = let yes : bytes_eq name (decimal k) ≡ true = (bytes_eq-Decides name (decimal k)).1 same in absurd (cc)
    go false e (inr name_is) = name_is

engine_token : (program : Program) (engine : Engine) (i : ℕ) → HasAll program → HasToken (reference_in program engine i)
engine_token program Ft i h = ft_token program i h
engine_token program Pt i h = pt_token program i h

out_words : (program : Program) (k : ℕ) (o : out.Out) → HasAll program → (out_name o ≡ decimal k) ⊎ IsName (out_name o) → HasWords (output_line program k o)
out_words program k (out.TheVariants.Formula engine i name) h g = (label_words k name g, engine_token program engine i h)
out_words program k (out.TheVariants.Contract engine i j name) h g = (label_words k name g, engine_token program engine i h, engine_token program engine j h)

outs_words : (program : Program) (k : ℕ) (outs : List out.Out) → HasAll program → AreLabelled k outs → HaveWords (map (λ p. output_line program p.0 p.1) (enumerate_from k outs))
outs_words program k [] h g = tt
outs_words program k (o ∷ outs) h g = (out_words program k o h g.0, outs_words program (k + 1) outs h g.1)

signals_words : (signals : List StoredSignal) → AreNamed signals → HaveWords (map signal_line signals)
signals_words [] h = tt
signals_words (s ∷ signals) h = (h.0, signals_words signals h.1)

pub program_words : (program : Program) → HasLayout program → IsWellFormed program → program.version ≡ 2 → HasOwnWords program → HaveWords (shown_lines program)
program_words program few formed version words =
    let h : HasAll program = record { few = few; said = well_formed_said program formed version; words = words } in
    words_append (map signal_line program.signals) _ (signals_words program.signals words.signals)
    (bz_words program 0 program.bz _ h (ft_words program 0 program.ft _ h h.said.ft (pt_words program 0 program.pt _ h h.said.pt (outs_words program 0 program.outs h words.outputs))))
