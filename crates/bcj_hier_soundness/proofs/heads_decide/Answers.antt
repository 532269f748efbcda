use Rattle.bcj_hier_soundness.proofs.Heads as heads
use Rattle.bcj_hier_soundness.proofs.heads_decide.Goals as goal

pub returns-clause-find : goal.returns-clause-find
returns-clause-find c = heads.heads_find

pub returns-clause-count : goal.returns-clause-count
returns-clause-count c = heads.heads_count

pub returns-clause-interfaces : goal.returns-clause-interfaces
returns-clause-interfaces c = heads.heads_tell_interfaces

pub returns-clause-loading : goal.returns-clause-loading
returns-clause-loading c = heads.heads_load

pub returns-clause-below : goal.returns-clause-below
returns-clause-below c = heads.heads_step_up

pub returns-clause-implements : goal.returns-clause-implements
returns-clause-implements c = heads.heads_implement

pub returns-clause-elements : goal.returns-clause-elements
returns-clause-elements c = heads.heads_load_elements

pub returns-clause-types : goal.returns-clause-types
returns-clause-types c = heads.heads_load_types

pub returns-clause-pairs : goal.returns-clause-pairs
returns-clause-pairs c = heads.heads_pair

pub returns-clause-instances : goal.returns-clause-instances
returns-clause-instances c = heads.heads_tell_instances

pub returns-clause-is_child : goal.returns-clause-is_child
returns-clause-is_child c = heads.heads_tell_children

pub returns-clause-children : goal.returns-clause-children
returns-clause-children c = heads.heads_have_children

pub returns-clause-order_below : goal.returns-clause-order_below
returns-clause-order_below c = heads.heads_order_below

pub returns-clause-order : goal.returns-clause-order
returns-clause-order c = heads.heads_order

pub returns-clause-low : goal.returns-clause-low
returns-clause-low c = heads.heads_number

pub returns-clause-high : goal.returns-clause-high
returns-clause-high c = heads.heads_end_numbers

pub returns-clause-next : goal.returns-clause-next
returns-clause-next c = heads.heads_go_on
