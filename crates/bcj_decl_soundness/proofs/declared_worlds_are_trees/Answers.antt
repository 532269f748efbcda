use Rattle.bcj_decl_soundness.proofs.Listing as listing
use Rattle.bcj_decl_soundness.proofs.Climbing as climbing
use Rattle.bcj_decl_soundness.proofs.declared_worlds_are_trees.Goals as goal

pub returns-clause-names : goal.returns-clause-names
returns-clause-names c = listing.each_name_is_one

pub returns-clause-chains : goal.returns-clause-chains
returns-clause-chains c = climbing.each_type_reaches
