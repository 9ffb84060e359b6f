use Rattle.c2po_lexer.proofs.Digits.{all_ascii_digits_prefix}
use Rattle.c2po_lexer.proofs.front.Front.of.Goals as goal

pub returns-then-is_ascii_digit-clause-digits : goal.returns-then-is_ascii_digit-clause-digits
returns-then-is_ascii_digit-clause-digits c = rw c.digits_size.ensures.longest (all_ascii_digits_prefix c.args.text.now)
