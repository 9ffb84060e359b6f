-- Text that grows by the lines of members, one member at a time.
use Rattle.std.proofs.Common.{◌≡◌, ℕ, ◌+◌, ◌<◌, ◌≤◌, Option, Some, None, List, [], ◌∷◌, ◌++◌, map, length, take, drop, get_or, refl, ap, sym, ◌∙◌, arith, append_assoc, length-append}
use Rattle.std.specs.Prelude.{filter_map, Err}
use Rattle.std.specs.List.{enumerate_from, cons_option}
use Rattle.std.proofs.lemmas.List.{append-nil, length-take, take_more, take-append-drop}
use Rattle.mltl_base.specs.declared.program.Program.{Program}
use Rattle.mltl_base.specs.declared.program.StoredSignal.{StoredSignal}
use Rattle.obs_show.specs.declared.fault.ShowFault.{ShowFault}
use Rattle.obs_show.specs.declared.fault.ShowFault.TheVariants.{TooLong, Wide, Memory}
use Rattle.obs_show.specs.Lines.{Line}
use Rattle.obs_show.specs.Showing.{written_line}
use Rattle.obs_show.specs.Writing.{Adds, bz_bytes, ft_bytes, output_bytes, pt_bytes, signal_bytes, written}
use Rattle.obs_show.specs.Text.{bz_line, ft_line, shown_line, numbered_lines, lines_text, output_line, output_lines, pt_line, signal_line, text}
use Rattle.std.proofs.lemmas.Grind.{flat_map-append}

first_line : (line : Option Line) (ls : List Line) → lines_text (cons_option line ls) ≡ written_line line ++ lines_text ls
first_line None ls = refl
first_line (Some line) ls = refl

module _ {X : Type 0} (rule : ℕ → X → List ℕ) where
  -- before the first member nothing is added
  pub begun : (old : List ℕ) → old ≡ old ++ written rule 0 []
  unfolding written
  begun old = sym (append-nil old)

  pub written_one : (k : ℕ) (x : X) → written rule k (x ∷ []) ≡ rule k x
  unfolding written
  written_one k x = append-nil (rule k x)

  pub written-append : (k : ℕ) (xs ys : List X) → written rule k (xs ++ ys) ≡ written rule k xs ++ written rule (k + length xs) ys
  unfolding written
  written-append k [] ys = let e : k ≡ k + 0 = omega arith in ap (λ (n : ℕ). written rule n ys) e
  written-append k (x ∷ xs) ys =
      let e : k + 1 + length xs ≡ k + length (x ∷ xs) = omega arith in
      ap (λ ts. rule k x ++ ts) (written-append (k + 1) xs ys ∙ ap (λ (n : ℕ). written rule (k + 1) xs ++ written rule n ys) e)
      ∙ sym (append_assoc (rule k x) (written rule (k + 1) xs) (written rule (k + length (x ∷ xs)) ys))

  -- one member more
  pub written_more : (xs : List X) (i : ℕ) (x : X) → i < length xs → written rule 0 (take (i + 1) xs) ≡ written rule 0 (take i xs) ++ rule i (get_or xs i x)
  written_more xs i x here =
      let e : 0 + length (take i xs) ≡ i = omega (arith, length-take i xs) in
      ap (written rule 0) (take_more xs i x here)
      ∙ written-append 0 (take i xs) (get_or xs i x ∷ [])
      ∙ ap (λ ts. written rule 0 (take i xs) ++ ts) (written_one (0 + length (take i xs)) (get_or xs i x))
      ∙ ap (λ (n : ℕ). written rule 0 (take i xs) ++ rule n (get_or xs i x)) e

  -- a text with the lines of the members before one gets those of that member
  pub grown : (old now new : List ℕ) (xs : List X) (i : ℕ) (x : X) → i < length xs → now ≡ old ++ written rule 0 (take i xs) → new ≡ now ++ rule i (get_or xs i x)
      → new ≡ old ++ written rule 0 (take (i + 1) xs)
  grown old now new xs i x here before is =
      is ∙ ap (λ ts. ts ++ rule i (get_or xs i x)) before
      ∙ append_assoc old (written rule 0 (take i xs)) (rule i (get_or xs i x))
      ∙ ap (λ ts. old ++ ts) (sym (written_more xs i x here))

  -- the lines of some members are no more than those of all
  pub part_long : (xs : List X) (i : ℕ) → length (written rule 0 (take i xs)) ≤ length (written rule 0 xs)
  part_long xs i =
      let all : written rule 0 xs ≡ written rule 0 (take i xs) ++ written rule (0 + length (take i xs)) (drop i xs) =
      ap (written rule 0) (sym (take-append-drop i xs)) ∙ written-append 0 (take i xs) (drop i xs) in
      omega (arith, ap length all, length-append (written rule 0 (take i xs)) (written rule (0 + length (take i xs)) (drop i xs)))

  pub over_limit : (most : ℕ) (old new : List ℕ) (xs : List X) (i : ℕ) → most < length new → new ≡ old ++ written rule 0 (take i xs) → most < length (old ++ written rule 0 xs)
  over_limit most old new xs i long is =
      omega (arith, long, ap length is, length-append old (written rule 0 (take i xs)), length-append old (written rule 0 xs), part_long xs i)

  -- lines by a rule, as their bytes
  pub ruled : (k : ℕ) (line : ℕ → X → Option Line) → ((n : ℕ) (x : X) → rule n x ≡ written_line (line n x)) → (xs : List X) → lines_text (filter_map (λ p. line p.0 p.1) (enumerate_from k xs)) ≡ written rule k xs
  unfolding written
  ruled k line is [] = refl
  ruled k line is (x ∷ xs) =
      first_line (line k x) (filter_map (λ p. line p.0 p.1) (enumerate_from (k + 1) xs))
      ∙ ap (λ ts. written_line (line k x) ++ ts) (ruled (k + 1) line is xs)
      ∙ ap (λ ts. ts ++ written rule (k + 1) xs) (sym (is k x))

  -- a line of each member, as bytes
  pub mapped : (k : ℕ) (line : ℕ → X → Line) → ((n : ℕ) (x : X) → rule n x ≡ shown_line (line n x)) → (xs : List X) → lines_text (map (λ p. line p.0 p.1) (enumerate_from k xs)) ≡ written rule k xs
  unfolding written
  mapped k line is [] = refl
  mapped k line is (x ∷ xs) = ap (λ ts. shown_line (line k x) ++ ts) (mapped (k + 1) line is xs) ∙ ap (λ ts. ts ++ written rule (k + 1) xs) (sym (is k x))

signals_text : (k : ℕ) (signals : List StoredSignal) → lines_text (map signal_line signals) ≡ written signal_bytes k signals
unfolding written
signals_text k [] = refl
signals_text k (signal ∷ signals) = ap (λ ts. shown_line (signal_line signal) ++ ts) (signals_text (k + 1) signals)

both : {a b c d : List ℕ} → a ≡ b → c ≡ d → a ++ c ≡ b ++ d
both {a} {b} {c} {d} h k = ap (λ ts. ts ++ c) h ∙ ap (λ ts. b ++ ts) k

lines-append : (ls ms : List Line) → lines_text (ls ++ ms) ≡ lines_text ls ++ lines_text ms
lines-append ls ms = flat_map-append shown_line ls ms

-- the bytes of a program, part by part
pub text_parts : (program : Program) → text program
    ≡ written signal_bytes 0 program.signals
    ++ (written (bz_bytes program) 0 program.bz
    ++ (written (ft_bytes program) 0 program.ft
    ++ (written (pt_bytes program) 0 program.pt
    ++ written (output_bytes program) 0 program.outs)))
text_parts program =
    let signals : List Line = map signal_line program.signals in
    let bz : List Line = numbered_lines (bz_line program) program.bz in
    let ft : List Line = numbered_lines (ft_line program) program.ft in
    let pt : List Line = numbered_lines (pt_line program) program.pt in
    let outs : List Line = output_lines program program.outs in
    let outs_is : lines_text outs ≡ written (output_bytes program) 0 program.outs = mapped (output_bytes program) 0 (output_line program) (λ n x. refl) program.outs in
    let pt_is : lines_text (pt ++ outs) ≡ written (pt_bytes program) 0 program.pt ++ written (output_bytes program) 0 program.outs =
    lines-append pt outs ∙ both (ruled (pt_bytes program) 0 (pt_line program) (λ n x. refl) program.pt) outs_is in
    let ft_is : lines_text (ft ++ (pt ++ outs)) ≡ written (ft_bytes program) 0 program.ft ++ (written (pt_bytes program) 0 program.pt ++ written (output_bytes program) 0 program.outs) =
    lines-append ft (pt ++ outs) ∙ both (ruled (ft_bytes program) 0 (ft_line program) (λ n x. refl) program.ft) pt_is in
    let bz_is : lines_text (bz ++ (ft ++ (pt ++ outs))) ≡ written (bz_bytes program) 0 program.bz ++ (written (ft_bytes program) 0 program.ft ++ (written (pt_bytes program) 0 program.pt ++ written (output_bytes program) 0 program.outs)) =
    lines-append bz (ft ++ (pt ++ outs)) ∙ both (ruled (bz_bytes program) 0 (bz_line program) (λ n x. refl) program.bz) ft_is in
    lines-append signals (bz ++ (ft ++ (pt ++ outs))) ∙ both (signals_text 0 program.signals) bz_is

-- a text that has no bytes yet lacks the whole
pub lacking_all : (program : Program) (bytes : List ℕ) → bytes ≡ [] → bytes
    ++ (written signal_bytes 0 program.signals
    ++ (written (bz_bytes program) 0 program.bz
    ++ (written (ft_bytes program) 0 program.ft
    ++ (written (pt_bytes program) 0 program.pt
    ++ written (output_bytes program) 0 program.outs)))) ≡ text program
lacking_all program bytes is =
    ap (λ ts. ts ++ (written signal_bytes 0 program.signals
    ++ (written (bz_bytes program) 0 program.bz
    ++ (written (ft_bytes program) 0 program.ft
    ++ (written (pt_bytes program) 0 program.pt
    ++ written (output_bytes program) 0 program.outs))))) is
    ∙ sym (text_parts program)

-- one part more
pub lacking_less : (whole old more rest new : List ℕ) → old ++ (more ++ rest) ≡ whole → new ≡ old ++ more → new ++ rest ≡ whole
lacking_less whole old more rest new is grows = ap (λ ts. ts ++ rest) grows ∙ append_assoc old more rest ∙ is

-- a part with which a text is too long
pub too_long : (T : Type 0) (whole old more rest new : List ℕ) (fault : ShowFault) → old ++ (more ++ rest) ≡ whole → Adds {T = T} old (Err fault) new more
    → (fault ≡ Memory → ⊥) → (fault ≡ TooLong) × (1048576 < length whole)
too_long T whole old more rest new TooLong is long other =
    let e : (old ++ more) ++ rest ≡ whole = append_assoc old more rest ∙ is in
    (refl, omega (arith, long, ap length e, length-append (old ++ more) rest))
too_long T whole old more rest new Wide is never other = absurd never
too_long T whole old more rest new Memory is any other = absurd (other refl)
