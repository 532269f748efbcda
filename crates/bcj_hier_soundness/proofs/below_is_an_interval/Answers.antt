use Rattle.bcj_hier_soundness.proofs.Numbers as numbers
use Rattle.bcj_hier_soundness.proofs.Hierarchies as hierarchies
use Rattle.bcj_hier_soundness.proofs.below_is_an_interval.Goals as goal

pub returns-clause-intervals : goal.returns-clause-intervals
returns-clause-intervals c = numbers.below_by_interval

pub returns-clause-once : goal.returns-clause-once
returns-clause-once c = numbers.each_class_stands_once

pub returns-clause-none_else : goal.returns-clause-none_else
returns-clause-none_else c = numbers.each_that_stands_loads

pub returns-clause-met : goal.returns-clause-met
returns-clause-met c = hierarchies.some_is_hierarchy
