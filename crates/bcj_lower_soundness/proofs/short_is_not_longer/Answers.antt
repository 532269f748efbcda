use Rattle.bcj_lower_soundness.proofs.Words.{not_longer, method_has_words, init_has_words}
use Rattle.bcj_lower_soundness.proofs.short_is_not_longer.Goals as goal

pub returns : goal.returns
returns c = record { short = not_longer; method = method_has_words; initialiser = init_has_words }
