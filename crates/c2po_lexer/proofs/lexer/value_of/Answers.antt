use Rattle.std.proofs.Common.{Result, Ok, Err, refl}
use Rattle.std.specs.Result.{IsOk, MatchResult}
use Rattle.c2po_lexer.proofs.Digits.{digits_utf8, parse_limit}
use Rattle.c2po_lexer.proofs.lexer.value_of.Goals as goal

-- an answer whose error denies what holds is no error
is_text : {T E A : Type 0} (P : T → Type 0) (Q : E → Type 0) (r : Result T E) → MatchResult r P (λ e. (A → ⊥) × Q e) → A → IsOk r
is_text P Q (Ok x) h a = refl
is_text P Q (Err e) h a = absurd (h.0 a)

pub unwrap-requires : goal.unwrap-requires
unwrap-requires c = is_text _ _ c.from_utf8.result c.from_utf8.ensures.cases (digits_utf8 c.args.digits.now c.requires.digits)

pub returns-clause-limit : goal.returns-clause-limit
returns-clause-limit c =
    let text = rw c.unwrap.ensures at c.from_utf8.ensures.cases in
    rw c.ok.ensures.value (parse_limit c.args.digits.now c.parse.result (rw text.0 at c.parse.ensures.value.0) c.requires.digits c.requires.some)
