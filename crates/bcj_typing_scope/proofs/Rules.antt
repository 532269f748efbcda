use Rattle.bcj_typing_scope.proofs.Answered.{subtype_answered, worth_answered, choice_answered}

pub ruleset world_rules = (subtype_answered, worth_answered, choice_answered)
