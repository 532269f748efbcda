use Rattle.std.proofs.Common.{ap, sym, ◌∙◌, [], List, map}
use Rattle.bcj_symbolic_trees.specs.declared.class_tree.SymClass.{SymClass}
use Rattle.bcj_symbolic_trees.specs.Units.{class_of}
use Rattle.bcj_symbolic_check.specs.Classes.{faults_from}
use Rattle.bcj_symbolic_check.proofs.FaultLemmas.{fault_later, fault_here, no_classes}
use Rattle.bcj_symbolic_check.proofs.check.Goals as goal

pub loop-number-preserved : goal.loop-number-preserved
loop-number-preserved c =
    fault_later _ _ _ _ _ _ c.loop-number-test.true c.index-classes-number.is c.split_at.ensures.front c.class_fault-found.ensures c.in-None.is c.loop-number.invariant.1

pub returns-in-Some-clause-fault : goal.returns-in-Some-clause-fault
returns-in-Some-clause-fault c =
    ap (λ (l : List SymClass). faults_from 0 [] (map class_of l)) (sym c.as_slice-classes.ensures)
    ∙ fault_here _ _ _ _ _ _ _ c.loop-number-test.true c.index-classes-number.is c.split_at.ensures.front c.class_fault-found.ensures c.in-Some.is c.loop-number.invariant.1

pub returns-clause-ok : goal.returns-clause-ok
returns-clause-ok c =
    ap (λ (l : List SymClass). faults_from 0 [] (map class_of l)) (sym c.as_slice-classes.ensures)
    ∙ sym c.loop-number.invariant.1 ∙ no_classes _ _ _ c.loop-number-test.false
