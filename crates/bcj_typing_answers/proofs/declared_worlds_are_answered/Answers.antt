use Rattle.bcj_typing_answers.proofs.Answered as answered
use Rattle.bcj_typing_answers.proofs.declared_worlds_are_answered.Goals as goal

pub returns-clause-right : goal.returns-clause-right
returns-clause-right c = answered.answered

pub returns-clause-one : goal.returns-clause-one
returns-clause-one c = answered.one_answer
