-- What the functions that write lines are proved by.
use Rattle.std.proofs.Common.{append_assoc}
use Rattle.bcj_lower_words.proofs.Steps.{words-at_read, zero_locals-more, copy_from-more, instance_test-parts}

pub ruleset line_rules = (append_assoc)

pub ruleset words_rules = (append_assoc, words-at_read)

pub ruleset zero_rules = (append_assoc, zero_locals-more)

pub ruleset copy_rules = (append_assoc, copy_from-more)

pub ruleset instance_rules = (append_assoc, instance_test-parts)
