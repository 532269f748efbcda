-- The equations of both kinds of trees.
use Rattle.bcj_parser_trees.proofs.PlainLemmas.{tree_rules as source_rules}
use Rattle.bcj_cli_language.proofs.PlainLemmas.{tree_rules as program_rules}

pub ruleset build_rules = (source_rules, program_rules)
