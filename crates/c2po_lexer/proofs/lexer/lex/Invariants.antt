use Rattle.std.proofs.Common.{length, ◌-◌, ◌≡◌, ◌≤◌}
use Rattle.c2po_lexer.specs.Tokens.{line_at, tokens_of}
use Rattle.c2po_lexer.proofs.Steps.{tokens_from, onto}
use Rattle.c2po_lexer.proofs.lexer.lex.Given as goal

abbrev pub invariant-loop-at : goal.invariant-loop-at
invariant-loop-at l = record {
  inside : l.at.start ≤ length l.text;
  line : l.at.line ≡ line_at l.text l.at.start;
  tokens : tokens_of l.text ≡ onto l.tokens (tokens_from l.text l.at.start);
}

abbrev pub decreases-loop-at : goal.decreases-loop-at
decreases-loop-at l = length l.text - l.at.start
