use Rattle.bcj_hier_soundness.proofs.Distinct as distinct
use Rattle.bcj_hier_soundness.proofs.heads_make_hierarchies.Goals as goal

pub returns-clause-hierarchies : goal.returns-clause-hierarchies
returns-clause-hierarchies c = distinct.heads_make_hierarchies

pub returns-clause-numbers : goal.returns-clause-numbers
returns-clause-numbers c = distinct.names_have_numbers

pub returns-clause-are_found : goal.returns-clause-are_found
returns-clause-are_found c = distinct.heads_are_found

pub returns-clause-stand : goal.returns-clause-stand
returns-clause-stand c = distinct.numbers_stand

pub returns-clause-none : goal.returns-clause-none
returns-clause-none c = distinct.none_is_missed
