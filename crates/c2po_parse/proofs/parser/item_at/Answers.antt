use Rattle.std.proofs.Common.{◌≡◌, ℕ, [], ◌-◌, List, take, drop, length, length-drop, Ok, Err, arith, sym, ap, subst, ◌∙◌, get_or}
use Rattle.std.proofs.lemmas.List.{take_all}
use Rattle.std.proofs.lemmas.Result.{err_from_is_err_and}
use Rattle.c2po_lexer.specs.declared.token.Token.{Token}
use Rattle.c2po_ast.specs.ItemShape.{item_shape}
use Rattle.c2po_parse.specs.Sections.{pieces, ended_of, tail_of}
use Rattle.c2po_parse.specs.Specification.{piece_trees, with_first, with_line, piece_body}
use Rattle.c2po_parse.proofs.Spans.{many_pieces, faulty_pieces, read_pieces}
use Rattle.c2po_parse.proofs.parser.item_at.Goals as goal

-- what is left of a list after some tokens
rest-is : (n : ℕ) (ts : List Token) → take (length ts - n) (drop n ts) ≡ drop n ts
rest-is n ts = take_all (length ts - n) (drop n ts) (omega (arith, length-drop n ts))

pub returns-then-piece-gt-MAX_ITEM_TOKENS-clause-fault : goal.returns-then-piece-gt-MAX_ITEM_TOKENS-clause-fault
returns-then-piece-gt-MAX_ITEM_TOKENS-clause-fault c =
    λ other. many_pieces c.args.section c.args.tokens.now c.index-tokens-0.result c.piece_end-end.result c.requires c.piece_end-end.ensures.before (omega arith)

pub returns-clause-item : goal.returns-clause-item
returns-clause-item c =
    let ts = c.args.tokens.now in
    let n = c.piece_end-end.result in
    let line : ℕ = (get_or ts 0 c.index-tokens-0.result).line in
    let ended : c.after_end-ended.result.0 ≡ ended_of (drop n ts) = c.after_end-ended.ensures.ended ∙ ap ended_of (rest-is n ts) in
    let tail : c.after_end-ended.result.1.now ≡ tail_of (drop n ts) = c.after_end-ended.ensures.tail ∙ ap tail_of (rest-is n ts) in
    let item : with_line line (piece_body c.args.section (ended_of (drop n ts)) (take n ts)) ≡ Ok (item_shape c.in_ok-item.item) =
    subst (λ b. with_line line (piece_body c.args.section b (take n ts)) ≡ Ok (item_shape c.in_ok-item.item)) ended c.in_ok-item.ensures.item in
    read_pieces c.args.section ts c.index-tokens-0.result n (item_shape c.in_ok-item.item) c.requires c.piece_end-end.ensures.before (omega arith) item
    ∙ ap (λ us. with_first (item_shape c.in_ok-item.item) (piece_trees (pieces c.args.section 0 [] us))) (sym tail)

pub returns-in_err-item-clause-fault : goal.returns-in_err-item-clause-fault
returns-in_err-item-clause-fault c =
    let p = err_from_is_err_and c.from_residual.result c.from_residual.ensures.1 in
    rw (p.1, p.2) (λ other.
    let ts = c.args.tokens.now in
    let n = c.piece_end-end.result in
    let line : ℕ = (get_or ts 0 c.index-tokens-0.result).line in
    let ended : c.after_end-ended.result.0 ≡ ended_of (drop n ts) = c.after_end-ended.ensures.ended ∙ ap ended_of (rest-is n ts) in
    let fault : with_line line (piece_body c.args.section (ended_of (drop n ts)) (take n ts)) ≡ Err c.in_err-item.field-0.0 =
    subst (λ b. with_line line (piece_body c.args.section b (take n ts)) ≡ Err c.in_err-item.field-0.0) ended (c.in_err-item.ensures.fault other) in
    faulty_pieces c.args.section ts c.index-tokens-0.result n c.in_err-item.field-0.0 c.requires c.piece_end-end.ensures.before (omega arith) fault)
