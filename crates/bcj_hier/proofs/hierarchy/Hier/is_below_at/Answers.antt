use Rattle.std.proofs.Common.{◌∙◌, sym, inl, inr}
use Rattle.bcj_hier.proofs.Calls.{none_below, between_is}
use Rattle.bcj_hier.proofs.hierarchy.Hier.is_below_at.Goals as goal
use Rattle.bcj_hier.proofs.hierarchy.Hier.is_below_at.Goals.{then-is_interface-via-then-is_interface, then-is_interface-via-else-is_interface+then-is_interface-2}

pub returns-then-is_interface : goal.returns-then-is_interface
returns-then-is_interface c =
    elim c.then-is_interface.branch [
      | then-is_interface-via-then-is_interface w ↦
          none_below c.args.self.now c.is_interface.ensures.distinct c.args.c c.args.d c.requires.there.0 c.requires.there.1 c.requires.loads (inl (sym c.is_interface.ensures.kind ∙ w.if-is_interface.true))
      | then-is_interface-via-else-is_interface+then-is_interface-2 w ↦
          none_below c.args.self.now c.is_interface.ensures.distinct c.args.c c.args.d c.requires.there.0 c.requires.there.1 c.requires.loads
          (inr (sym w.is_interface-else-is_interface.ensures.kind ∙ w.if-is_interface-2.true))
    ]

pub returns : goal.returns
returns c =
    between_is c.args.self.now c.is_interface.ensures.distinct c.is_interface.ensures.rooted c.args.c c.args.d c.requires.there.0 c.requires.there.1 c.requires.loads c.requires.other_loads
    (sym c.is_interface.ensures.kind ∙ c.if-is_interface.false) (sym c.is_interface-else-is_interface.ensures.kind ∙ c.if-is_interface-2.false) c.low_at.result c.low_at-2.result c.high_at.result c.low_at.ensures
    c.low_at-2.ensures c.high_at.ensures c.is_between.result c.is_between.ensures
