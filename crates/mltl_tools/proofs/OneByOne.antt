-- Reports of one word at neighbouring times aren't the longest where one row decides both.

use Rattle.std.proofs.Common.{◌≡◌, ◌∙◌, List, [], ◌∷◌, ◌++◌, All, Some, length, take, refl, sym, ap, subst, lit<, arith}
use Rattle.std.proofs.lemmas.List.{append-nil}
use Rattle.mltl_base.specs.declared.report.Report.{Report}
use Rattle.mltl_base.specs.declared.report.Word.{Word}
use Rattle.mltl_base.specs.Atoms.{Row}
use Rattle.mltl_base.specs.Reports.{Output, AreDistinctBeside, reports_of, told, words}
use Rattle.mltl_tools.specs.Sentence.{AreLongestByRow, in_turn, told_one_by_one}

-- where the first row brings nothing, the second brings all
all_in_second : (w : Word) (p q : List Report) → told 0 0 (p ++ []) ≡ [] → p ++ (q ++ []) ≡ told_one_by_one w → q ≡ told_one_by_one w
unfolding told
all_in_second w [] q none joined = sym (append-nil q) ∙ joined
all_in_second w (r ∷ p) q none joined =
    let first : Report = record { out = 0; time = 0; word = w } in
    let same : r ≡ first = cc in
    let some : told 0 0 (first ∷ (p ++ [])) ≡ [] = subst (λ s. told 0 0 (s ∷ (p ++ [])) ≡ []) same none in
    absurd (cc)

-- and there the two aren't different
alike : (w : Word) (q : List Report) → q ≡ told_one_by_one w → AreDistinctBeside (reports_of 0 q) → ⊥
alike w q is distinct =
    subst (λ rs. AreDistinctBeside (reports_of 0 rs)) is distinct 0 (record { out = 0; time = 0; word = w }) (lit< tt) refl

two_parts : (w : Word) (parts : List (List Report)) → length parts ≡ 2 → in_turn parts ≡ told_one_by_one w → told 0 0 (in_turn (take 1 parts)) ≡ []
    → All (λ part. AreDistinctBeside (reports_of 0 part)) parts → ⊥
two_parts w [] count joined none longest = absurd (omega (arith, count))
two_parts w (p ∷ []) count joined none longest = absurd (omega (arith, count))
two_parts w (p ∷ q ∷ []) count joined none longest =
    alike w q (all_in_second w p q none joined)
    (longest 1 [] (lit< tt))
two_parts w (p ∷ q ∷ more ∷ rest) count joined none longest = absurd (omega (arith, count))

pub not_one_by_one : (o : Output) (r s : Row) (w : Word) → words (r ∷ []) o ≡ [] → AreLongestByRow (o ∷ []) (told_one_by_one w) (r ∷ s ∷ []) → ⊥
not_one_by_one o r s w none are =
    two_parts w are.parts are.one_each are.joined (are.decided 1 0 o (omega arith) refl ∙ none) (are.longest 0 (lit< tt))
