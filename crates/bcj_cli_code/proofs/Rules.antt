-- What the functions that write code are proved by.
use Rattle.std.proofs.Common.{append_assoc}
use Rattle.bcj_cli_language.proofs.PlainLemmas.{tree_rules}

pub ruleset code_rules = (append_assoc, tree_rules)
