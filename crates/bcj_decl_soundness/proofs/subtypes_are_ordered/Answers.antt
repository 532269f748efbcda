use Rattle.bcj_decl_soundness.proofs.Chains as chains
use Rattle.bcj_decl_soundness.proofs.subtypes_are_ordered.Goals as goal

pub returns-clause-reflexive : goal.returns-clause-reflexive
returns-clause-reflexive c = chains.each_is_its_own

pub returns-clause-transitive : goal.returns-clause-transitive
returns-clause-transitive c = chains.subtypes_go_on
