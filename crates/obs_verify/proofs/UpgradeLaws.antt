-- The signals that instructions read.
use Rattle.std.proofs.Common.{◌≡◌, ℕ, ◌+◌, ◌<◌, ◌≤◌, zero, suc, Bool, true, false, Some, None, List, [], ◌∷◌, ◌++◌, length, take, drop, slice_index_or, refl, ap, sym, ◌∙◌, arith, add-one}
use Rattle.std.specs.Prelude.{◌&&◌, not, if◌then◌else◌}
use Rattle.std.specs.List.{filter_map, range_with_len}
use Rattle.std.proofs.lemmas.List.{append-nil, drop_all, drop_more, length-take-le, take_more}
use Rattle.std.proofs.lemmas.List.Elements.{filter_map-append}
use Rattle.mltl_base.specs.declared.operators.BzOp.{BzOp}
use Rattle.mltl_base.specs.declared.operators.BzOp.TheVariants.{Column, IsTrue, Const, Neg, Add, Sub, Mul, Div, Rem, Eq, Lt, Le}
use Rattle.mltl_base.specs.declared.program.StoredSignal.{StoredSignal}
use Rattle.obs_verify.specs.Upgrade.{clashes, first_clash, signal_read, reads, signal_in, signal_of, signals_below}
use Rattle.obs_verify.specs.WellFormed.{has_kind}

-- one instruction more
pub reads_column : (earlier : List BzOp) (c : ℕ) → reads (earlier ++ Column c ∷ []) ≡ reads earlier ++ signal_in c false ∷ []
reads_column earlier c = filter_map-append signal_read earlier (Column c ∷ [])

pub reads_truth : (earlier : List BzOp) (c : ℕ) → reads (earlier ++ IsTrue c ∷ []) ≡ reads earlier ++ signal_in c true ∷ []
reads_truth earlier c = filter_map-append signal_read earlier (IsTrue c ∷ [])

-- an instruction that reads no column
pub record ReadsNone (op : BzOp) : Type 0 where
  pub fits : (earlier : List BzOp) → clashes earlier op ≡ false
  pub same : (earlier : List BzOp) → reads (earlier ++ op ∷ []) ≡ reads earlier

pub reads_none : (op : BzOp) → ((c : ℕ) → op ≡ Column c → ⊥) → ((c : ℕ) → op ≡ IsTrue c → ⊥) → ReadsNone op
reads_none (Column c) n m = absurd (n c refl)
reads_none (IsTrue c) n m = absurd (m c refl)
reads_none (Const k) n m = record { fits = λ earlier. refl; same = λ earlier. filter_map-append signal_read earlier (Const k ∷ []) ∙ append-nil (reads earlier) }
reads_none (Neg a) n m = record { fits = λ earlier. refl; same = λ earlier. filter_map-append signal_read earlier (Neg a ∷ []) ∙ append-nil (reads earlier) }
reads_none (Add a b) n m = record { fits = λ earlier. refl; same = λ earlier. filter_map-append signal_read earlier (Add a b ∷ []) ∙ append-nil (reads earlier) }
reads_none (Sub a b) n m = record { fits = λ earlier. refl; same = λ earlier. filter_map-append signal_read earlier (Sub a b ∷ []) ∙ append-nil (reads earlier) }
reads_none (Mul a b) n m = record { fits = λ earlier. refl; same = λ earlier. filter_map-append signal_read earlier (Mul a b ∷ []) ∙ append-nil (reads earlier) }
reads_none (Div a b) n m = record { fits = λ earlier. refl; same = λ earlier. filter_map-append signal_read earlier (Div a b ∷ []) ∙ append-nil (reads earlier) }
reads_none (Rem a b) n m = record { fits = λ earlier. refl; same = λ earlier. filter_map-append signal_read earlier (Rem a b ∷ []) ∙ append-nil (reads earlier) }
reads_none (Eq a b) n m = record { fits = λ earlier. refl; same = λ earlier. filter_map-append signal_read earlier (Eq a b ∷ []) ∙ append-nil (reads earlier) }
reads_none (Lt a b) n m = record { fits = λ earlier. refl; same = λ earlier. filter_map-append signal_read earlier (Lt a b ∷ []) ∙ append-nil (reads earlier) }
reads_none (Le a b) n m = record { fits = λ earlier. refl; same = λ earlier. filter_map-append signal_read earlier (Le a b ∷ []) ∙ append-nil (reads earlier) }

-- the first clash, from an instruction on
pub clash_here : (ops : List BzOp) (i : ℕ) (d : BzOp) → i < length ops → clashes (take i ops) (slice_index_or ops i d) ≡ true → first_clash (take i ops) (drop i ops) ≡ Some i
unfolding first_clash
clash_here ops i d inside clash =
    ap (first_clash (take i ops)) (drop_more ops i d inside)
    ∙ ap (λ b. if b then Some (length (take i ops)) else first_clash (take i ops ++ slice_index_or ops i d ∷ []) (drop (i + 1) ops)) clash ∙ ap (λ n. Some n) (length-take-le i ops (omega arith))

pub clash_more : (ops : List BzOp) (i : ℕ) (d : BzOp) → i < length ops → clashes (take i ops) (slice_index_or ops i d) ≡ false
    → first_clash (take i ops) (drop i ops) ≡ first_clash (take (i + 1) ops) (drop (i + 1) ops)
unfolding first_clash
clash_more ops i d inside fits =
    ap (first_clash (take i ops)) (drop_more ops i d inside)
    ∙ ap (λ b. if b then Some (length (take i ops)) else first_clash (take i ops ++ slice_index_or ops i d ∷ []) (drop (i + 1) ops)) fits
    ∙ ap (λ es. first_clash es (drop (i + 1) ops)) (sym (take_more ops i d inside))

pub clash_none : (ops : List BzOp) (i : ℕ) → length ops ≤ i → first_clash (take i ops) (drop i ops) ≡ None
unfolding first_clash
clash_none ops i past = ap (first_clash (take i ops)) (drop_all i ops past)

-- one column more
range_push : (a n j : ℕ) → a + n ≡ j → range_with_len a (suc n) ≡ range_with_len a n ++ j ∷ []
range_push a zero j e = let same : a ≡ j = omega arith in ap (λ x. x ∷ []) same
range_push a (suc n) j e = ap (λ xs. a ∷ xs) (range_push (a + 1) n j (omega arith))

-- the signals of one column
unfoldable pub signals_at : Bool → Bool → ℕ → List StoredSignal
signals_at w true c = signal_in c true ∷ []
signals_at true false c = signal_in c false ∷ []
signals_at false false c = []

pub at_column : (signals : List StoredSignal) (c : ℕ) → filter_map (signal_of signals) (c ∷ []) ≡ signals_at (has_kind signals c false) (has_kind signals c true) c
unfolding signals_at
at_column signals c = go (has_kind signals c false) (has_kind signals c true) refl refl
  where
    go : (w t : Bool) → has_kind signals c false ≡ w → has_kind signals c true ≡ t → filter_map (signal_of signals) (c ∷ []) ≡ signals_at w t c
    go w true h k = rw k refl
    go true false h k = rw (k, h) refl
    go false false h k = rw (k, h) refl

pub signals_more : (signals : List StoredSignal) (c : ℕ) (w t : Bool) → has_kind signals c false ≡ w → has_kind signals c true ≡ t → signals_below (c + 1) signals ≡ signals_below c signals ++ signals_at w t c
signals_more signals c w t h k =
    ap (filter_map (signal_of signals)) (ap (range_with_len 0) (add-one c) ∙ range_push 0 c c (omega arith))
    ∙ filter_map-append (signal_of signals) (range_with_len 0 c) (c ∷ []) ∙ ap (λ xs. signals_below c signals ++ xs) (at_column signals c ∙ ap (λ b. signals_at b (has_kind signals c true) c) h ∙ ap (λ b. signals_at w b c) k)

pub signals_some : (w t : Bool) (c : ℕ) → (not w && not t) ≡ false → signals_at w t c ≡ signal_in c t ∷ []
unfolding signals_at
signals_some w true c h = refl
signals_some true false c h = refl
signals_some false false c h = absurd (cc)

pub signals_none : (w t : Bool) (c : ℕ) → (not w && not t) ≡ true → signals_at w t c ≡ []
unfolding signals_at
signals_none w true c h = absurd (and_last (not w) h)
  where
    and_last : (b : Bool) → (b && false) ≡ true → ⊥
    and_last true e = cc
    and_last false e = cc
signals_none true false c h = absurd (cc)
signals_none false false c h = refl
