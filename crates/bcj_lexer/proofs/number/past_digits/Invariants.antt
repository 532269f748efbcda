use Rattle.std.proofs.Common.{◌≡◌, length, true}
use Rattle.bcj_lexer.specs.function.Words as words
use Rattle.bcj_lexer.proofs.number.past_digits.Given as goal

abbrev pub invariant-loop-rest : goal.invariant-loop-rest
invariant-loop-rest l = words.past (words.digit_of l.radix) l.ends l.rest ≡ words.past (words.digit_of l.radix) true l.text

abbrev pub decreases-loop-rest : goal.decreases-loop-rest
decreases-loop-rest l = length l.rest
