use Rattle.bcj_lower_bodies.proofs.Arms.{made_alone, virtual_lines, virtual_labels, interface_lines, interface_labels, special_lines, special_labels}
use Rattle.bcj_lower_bodies.proofs.expression.+code.Goals as goal

pub instance-returns-then-is_object-clause-lines : goal.instance-returns-then-is_object-clause-lines
instance-returns-then-is_object-clause-lines t c = made_alone _ _ _ _ _ _ c.in_ok-new_object.ensures c.is_object.ensures c.if-is_object.true

pub expression-returns-in_ok-next-in-CallVirtual-2-clause-lines : goal.expression-returns-in_ok-next-in-CallVirtual-2-clause-lines
expression-returns-in_ok-next-in-CallVirtual-2-clause-lines t c =
    virtual_lines _ _ _ _ _ _ _ _ _ _ _ _ _ _ _ _ _ c.in-CallVirtual.is c.get-in-CallVirtual.ensures c.as_slice-in-CallVirtual.ensures
    c.in_ok-deeper-in-CallVirtual.ensures c.in_ok-next-in-CallVirtual.ensures.lines c.in_ok-next-in-CallVirtual.ensures.labels
    c.in_ok-next-in-CallVirtual-2.ensures.lines c.len-in-CallVirtual.ensures c.call_virtual.ensures.lines

pub expression-returns-in_ok-next-in-CallVirtual-2-clause-labels : goal.expression-returns-in_ok-next-in-CallVirtual-2-clause-labels
expression-returns-in_ok-next-in-CallVirtual-2-clause-labels t c =
    virtual_labels _ _ _ _ _ _ _ _ _ _ c.in-CallVirtual.is c.get-in-CallVirtual.ensures c.as_slice-in-CallVirtual.ensures
    c.in_ok-next-in-CallVirtual.ensures.labels c.in_ok-next-in-CallVirtual-2.ensures.labels c.call_virtual.ensures.labels

pub expression-returns-in_ok-next-in-CallInterface-2-clause-lines : goal.expression-returns-in_ok-next-in-CallInterface-2-clause-lines
expression-returns-in_ok-next-in-CallInterface-2-clause-lines t c =
    interface_lines _ _ _ _ _ _ _ _ _ _ _ _ _ _ _ _ _ c.in-CallInterface.is c.get-in-CallInterface.ensures c.as_slice-in-CallInterface.ensures
    c.in_ok-deeper-in-CallInterface.ensures c.in_ok-next-in-CallInterface.ensures.lines c.in_ok-next-in-CallInterface.ensures.labels
    c.in_ok-next-in-CallInterface-2.ensures.lines c.len-in-CallInterface.ensures c.call_interface.ensures.lines

pub expression-returns-in_ok-next-in-CallInterface-2-clause-labels : goal.expression-returns-in_ok-next-in-CallInterface-2-clause-labels
expression-returns-in_ok-next-in-CallInterface-2-clause-labels t c =
    interface_labels _ _ _ _ _ _ _ _ _ _ c.in-CallInterface.is c.get-in-CallInterface.ensures c.as_slice-in-CallInterface.ensures
    c.in_ok-next-in-CallInterface.ensures.labels c.in_ok-next-in-CallInterface-2.ensures.labels c.call_interface.ensures.labels

pub expression-returns-in_ok-next-in-CallSpecial-clause-lines : goal.expression-returns-in_ok-next-in-CallSpecial-clause-lines
expression-returns-in_ok-next-in-CallSpecial-clause-lines t c =
    special_lines _ _ _ _ _ _ _ _ _ _ _ _ _ _ _ c.in-CallSpecial.is c.as_slice-in-CallSpecial.ensures c.in_ok-deeper-in-CallSpecial.ensures
    c.in_ok-get_local-in-CallSpecial.ensures c.in_ok-save-in-CallSpecial.ensures c.in_ok-next-in-CallSpecial.ensures.lines c.len-in-CallSpecial.ensures c.call_special.ensures.lines

pub expression-returns-in_ok-next-in-CallSpecial-clause-labels : goal.expression-returns-in_ok-next-in-CallSpecial-clause-labels
expression-returns-in_ok-next-in-CallSpecial-clause-labels t c =
    special_labels _ _ _ _ _ _ _ c.in-CallSpecial.is c.as_slice-in-CallSpecial.ensures c.in_ok-next-in-CallSpecial.ensures.labels c.call_special.ensures.labels
