use Rattle.bcj_lower_bodies.proofs.Whole.{abstract_body, method_coded}
use Rattle.bcj_lower_bodies.proofs.method.method_body.Goals as goal

pub returns-then-is_abstract : goal.returns-then-is_abstract
returns-then-is_abstract c = abstract_body _ _ _ c.is_abstract.ensures c.if-is_abstract.true

pub returns : goal.returns
returns c =
    method_coded _ _ _ _ _ _ _ c.is_abstract.ensures c.if-is_abstract.false
    c.in_ok-method_code.ensures.frame c.requires c.in_ok-method_code.ensures.lines c.in_ok-method_code.ensures.ranges
