-- The lines of a summary, one after another.

use Rattle.std.proofs.Common.{◌≡◌, ◌∙◌, ℕ, suc, ◌+◌, ◌<◌, codes, List, [], ◌∷◌, ◌++◌, length, drop, get_or, map, refl, ap, ap₂, sym, append_assoc, drop-cons, arith}
use Rattle.std.specs.List.{concat}
use Rattle.std.proofs.lemmas.List.{append-nil}
use Rattle.std.proofs.Math.Seq.{drop-length}
use Rattle.mltl_base.specs.declared.program.Out.{Out}
use Rattle.mltl_base.specs.declared.report.Report.{Report}
use Rattle.mltl_base.specs.declared.report.Word.{Word}
use Rattle.r2u2_cli.specs.Summary.{Listed, count_text, summary_line, lines_from, listed_out}
use Rattle.r2u2_cli.specs.Tallies.{count_of}

counts_same : (f g : Word → ℕ) (ws : List Word) → ((w : Word) → f w ≡ g w) → concat (map (λ w. count_text w (f w)) ws) ≡ concat (map (λ w. count_text w (g w)) ws)
counts_same f g [] same = refl
counts_same f g (w ∷ ws) same = ap₂ (λ xs ys. xs ++ ys) (ap (count_text w) (same w)) (counts_same f g ws same)

line_same : (o : Listed) (f g : Word → ℕ) → ((w : Word) → f w ≡ g w) → summary_line o f ≡ summary_line o g
line_same o f g same = ap (λ counts. o.name ++ codes ":" ++ counts ++ codes "\n") (counts_same f g o.words same)

-- the line of output k, and those after it
lines_of : (k : ℕ) (o : Listed) (outs : List Listed) (told : List Report) (f : Word → ℕ) → ((w : Word) → f w ≡ count_of k w told)
    → lines_from k (o ∷ outs) told ≡ summary_line o f ++ lines_from (suc k) outs told
unfolding lines_from
lines_of k o outs told f same = ap (λ line. line ++ lines_from (suc k) outs told) (sym (line_same o f (λ w. count_of k w told) same))

-- one more line is out
pub line_out : (before after whole : List ℕ) (outs : List Out) (k : ℕ) (o : Out) (told : List Report) (f : Word → ℕ) → k < length outs → o ≡ get_or outs k o
    → ((w : Word) → f w ≡ count_of k w told) → after ≡ before ++ summary_line (listed_out o) f
    → before ++ lines_from k (map listed_out (drop k outs)) told ≡ whole → after ++ lines_from (k + 1) (map listed_out (drop (k + 1) outs)) told ≡ whole
line_out before after whole outs k o told f within is same added was =
    let next : k + 1 ≡ suc k = omega arith in
    let rest = lines_from (suc k) (map listed_out (drop (suc k) outs)) told in
    let front : drop k outs ≡ o ∷ drop (suc k) outs = drop-cons outs k o within ∙ ap (λ (x : Out). x ∷ drop (suc k) outs) (sym is) in
    ap₂ (λ text n. text ++ lines_from n (map listed_out (drop n outs)) told) added next
    ∙ append_assoc before (summary_line (listed_out o) f) rest
    ∙ ap (λ text. before ++ text) (sym (lines_of k (listed_out o) (map listed_out (drop (suc k) outs)) told f same) ∙ ap (λ (xs : List Out). lines_from k (map listed_out xs) told) (sym front))
    ∙ was

-- all lines are out
pub lines_out : (text whole : List ℕ) (outs : List Out) (told : List Report) → text ++ lines_from (length outs) (map listed_out (drop (length outs) outs)) told ≡ whole → text ≡ whole
unfolding lines_from
lines_out text whole outs told was = sym (append-nil text) ∙ ap (λ (xs : List Out). text ++ lines_from (length outs) (map listed_out xs) told) (sym (drop-length outs)) ∙ was
