-- A status in place of the fault that it tells.

use Rattle.std.proofs.Common.{◌≡◌, Result, Ok, Err, IfOk, IfErr, subst}
use Rattle.std.specs.Result.{MatchResult, IsErrAnd}
use Rattle.tool_words.specs.declared.status.Status.{Status}
use Rattle.tool_words.specs.Statuses.{with_status}

-- what is Ok after a call that may put one fault for another was Ok before it, with what holds of one
pub told_value : {T E D : Type 0} (found : Result T E) (now : Result T D) (P : E → D → Type 0) (value : T) (Q : T → Type 0) → MatchResult found (λ other. now ≡ Ok other) (λ fault. IsErrAnd now (P fault)) → now ≡ Ok value → IfOk found Q → Q value
told_value (Ok other) now P value Q same is holds =
    let alike : other ≡ value = cc in
    subst Q alike holds
told_value (Err fault) now P value Q refused is holds = absurd (subst (λ n. IsErrAnd n (P fault)) is refused)

-- a status stands for the fault that was found, with what holds of one
pub told_fault : {T E : Type 0} (status : E → Status) (found : Result T E) (answer : Status) (P : E → Type 0) → Err answer ≡ with_status status found → IfErr found P → (fault : E) × P fault × (answer ≡ status fault)
told_fault status (Ok value) answer P is holds = absurd cc
told_fault status (Err fault) answer P is holds = (fault, holds, cc)
