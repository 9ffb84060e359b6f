-- What refuses a text, or the outputs that it says, speaks of no header.

use Rattle.std.proofs.Common.{ℕ, true, false, if◌then◌else◌, Option, Some, None, Result, Ok, Err, List}
use Rattle.std.specs.Prelude.{option_map, ⊤}
use Rattle.std.specs.Option.{option_or}
use Rattle.mltl_base.specs.Subformulas.{Asked}
use Rattle.c2po_lexer.specs.declared.fault.LexFault.{LexFault}
use Rattle.c2po_lexer.specs.declared.fault.LexFault.TheVariants as lexed
use Rattle.c2po_lexer.specs.Tokens.{tokens_of}
use Rattle.c2po_parse.specs.declared.fault.ParseFault.{ParseFault}
use Rattle.c2po_parse.specs.declared.fault.ParseFault.TheVariants as parsed
use Rattle.c2po_parse.specs.Specification.{spec_of}
use Rattle.c2po_types.specs.declared.fault.TypeFault.{TypeFault}
use Rattle.c2po_types.specs.declared.fault.TypeFault.TheVariants as checked
use Rattle.c2po_types.specs.FirstFault.{first_fault}
use Rattle.c2po_compile.specs.declared.fault.CompileFault.{CompileFault}
use Rattle.c2po_compile.specs.declared.fault.CompileFault.TheVariants.{Refused, BadHeader, Memory}
use Rattle.c2po_compile.specs.declared.fault.Refusal.TheVariants.{TooManyNodes, TooLate, TooManySlots}
use Rattle.c2po_compile.specs.Refusals.{token_refusal, tree_refusal, check_refusal}
use Rattle.c2po_compile.specs.Front.{items_in, tokens_in, refusal_in, first_refusal}
use Rattle.c2po_compile.specs.Limits.{has_many_nodes, is_late, has_many_slots, limit_refusal}

-- a refusal that speaks of no header
abbrev pub IsHeaderless : CompileFault → Type 0
IsHeaderless (Refused line why) = ⊤
IsHeaderless (BadHeader why) = ⊥
IsHeaderless Memory = ⊤

-- the same of a refusal that may be
abbrev pub MayRefuse : Option CompileFault → Type 0
MayRefuse None = ⊤
MayRefuse (Some fault) = IsHeaderless fault

token_headerless : (fault : LexFault) → IsHeaderless (token_refusal fault)
token_headerless (lexed.Letter line) = tt
token_headerless _ = tt

tree_headerless : (fault : ParseFault) → IsHeaderless (tree_refusal fault)
tree_headerless (parsed.TooManyTokens line) = tt
tree_headerless (parsed.Grammar line) = tt
tree_headerless parsed.Memory = tt

check_headerless : (fault : TypeFault) → IsHeaderless (check_refusal fault)
check_headerless (checked.Unknown line) = tt
check_headerless _ = tt

refusal_headerless : {A E : Type 0} (refusal : E → CompileFault) (found : Result A E) → ((fault : E) → IsHeaderless (refusal fault)) → MayRefuse (refusal_in refusal found)
refusal_headerless refusal (Ok value) each = tt
refusal_headerless refusal (Err fault) each = each fault

map_headerless : (found : Option TypeFault) → MayRefuse (option_map check_refusal found)
map_headerless None = tt
map_headerless (Some fault) = check_headerless fault

or_headerless : (first second : Option CompileFault) → MayRefuse first → MayRefuse second → MayRefuse (option_or first second)
or_headerless None second a b = b
or_headerless (Some fault) second a b = a

-- the first refusal of a text
pub first_headerless : (text : List ℕ) → MayRefuse (first_refusal text)
first_headerless text =
    let trees = refusal_in tree_refusal (spec_of (tokens_in text)) in
    let checks = option_map check_refusal (first_fault (items_in text)) in
    or_headerless (refusal_in token_refusal (tokens_of text)) (option_or trees checks) (refusal_headerless token_refusal (tokens_of text) token_headerless)
    (or_headerless trees checks (refusal_headerless tree_refusal (spec_of (tokens_in text)) tree_headerless) (map_headerless (first_fault (items_in text))))

-- and that of outputs by a limit
pub limit_headerless : (outs : List Asked) → MayRefuse (limit_refusal outs)
unfolding limit_refusal
limit_headerless outs =
    elim (has_many_nodes outs) as (λ b. MayRefuse (if b then Some (Refused 0 TooManyNodes) else if is_late outs then Some (Refused 0 TooLate) else if has_many_slots outs then Some (Refused 0 TooManySlots) else None)) [
      | true ↦ tt
      | false ↦ elim (is_late outs) as (λ b. MayRefuse (if b then Some (Refused 0 TooLate) else if has_many_slots outs then Some (Refused 0 TooManySlots) else None)) [
        | true ↦ tt
        | false ↦ elim (has_many_slots outs) as (λ b. MayRefuse (if b then Some (Refused 0 TooManySlots) else None)) [ true ↦ tt | false ↦ tt ]
      ]
    ]
