use Rattle.std.proofs.Common.{◌∙◌, arith, refl}
use Rattle.std.proofs.lemmas.Result.{err_from_is_err_and}
use Rattle.c2po_lexer.proofs.Steps.{tokens_begin, tokens_end, tokens_read, tokens_fault}
use Rattle.c2po_lexer.proofs.Names.{tokens_plain}
use Rattle.c2po_lexer.proofs.Written.{tokens_written}
use Rattle.c2po_lexer.proofs.Spans.{tokens_ordered}
use Rattle.c2po_lexer.proofs.lexer.lex.Goals as goal

pub loop-at-init : goal.loop-at-init
loop-at-init c = record {
  inside = omega arith;
  line = refl;
  tokens = rw c.new-tokens.ensures (tokens_begin c.args.text.now);
}

pub loop-at-preserved : goal.loop-at-preserved
loop-at-preserved c = record {
  inside = c.in_ok-token.ensures.next.inside;
  line = c.in_ok-token.ensures.next.line;
  tokens = rw c.in_ok-add.ensures.added (c.loop-at.invariant.tokens ∙ tokens_read c.args.text.now c.loop-at.tokens c.loop-at.at.start c.in_ok-token.next.start c.in_ok-token.token c.loop-at-test.true c.in_ok-token.ensures.some c.in_ok-token.ensures.token c.in_ok-token.ensures.next.start);
}

pub returns-in_err-token-clause-first_fault : goal.returns-in_err-token-clause-first_fault
returns-in_err-token-clause-first_fault c =
    let p = err_from_is_err_and c.from_residual.result c.from_residual.ensures.1 in
    let first = tokens_fault c.args.text.now c.loop-at.tokens c.loop-at.at.start c.in_err-token.field-0.0 c.loop-at-test.true c.in_err-token.ensures.some c.in_err-token.ensures.fault in
    rw (p.1, p.2) (λ _. c.loop-at.invariant.tokens ∙ first)

pub returns-clause-tokens : goal.returns-clause-tokens
returns-clause-tokens c = c.loop-at.invariant.tokens ∙ tokens_end c.args.text.now c.loop-at.tokens c.loop-at.at.start c.loop-at-test.false

pub returns-clause-names : goal.returns-clause-names
returns-clause-names c = tokens_plain c.args.text.now c.loop-at.tokens (returns-clause-tokens c)

pub returns-clause-spans : goal.returns-clause-spans
returns-clause-spans c = tokens_ordered c.args.text.now c.loop-at.tokens (returns-clause-tokens c)

pub returns-clause-written : goal.returns-clause-written
returns-clause-written c = tokens_written c.args.text.now c.loop-at.tokens (returns-clause-tokens c)
