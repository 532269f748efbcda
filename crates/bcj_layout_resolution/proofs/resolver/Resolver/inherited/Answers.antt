use Rattle.std.proofs.Common.{◌≡◌, ◌-◌, ◌∙◌, sym, ap, Option, arith}
use Rattle.bcj_hier_rules.specs.Shapes.{Named}
use Rattle.bcj_hier_rules.specs.Loading.{turns}
use Rattle.bcj_hier_rules.specs.Resolution.{FoundMethod, first_of, of_option, interface_method_within, inherited_within}
use Rattle.bcj_hier_rules.specs.Heads.{name_of}
use Rattle.bcj_layout_rules.specs.Rows.{mixture_of}
use Rattle.bcj_layout_resolution.specs.Places.{heads_in, IsMethod}
use Rattle.bcj_layout_resolution.proofs.Searching.{names_same, inherited_above, inherited_blind, above_none, above_some}
use Rattle.bcj_layout_resolution.proofs.resolver.Resolver.inherited.Goals as goal
use Rattle.bcj_layout_resolution.proofs.resolver.Resolver.inherited.Goals.{After-superclass}

abbrev whole : After-superclass → Option FoundMethod
whole c = inherited_within (mixture_of c.args.self.now) (turns (mixture_of c.args.self.now)) c.args.name.now c.args.desc.now (name_of (heads_in c.args.self.now) c.args.class)

abbrev search : After-superclass → Named → Option FoundMethod
search c = inherited_within (mixture_of c.args.self.now) (c.loop-turns.turns - 1) c.args.name.now c.args.desc.now

above : (c : After-superclass) → of_option (search c) c.record-record.result.now.head.superclass ≡ whole c
above c =
    let beside : Named → Option FoundMethod = interface_method_within (mixture_of c.args.self.now) (c.loop-turns.turns - 1) c.args.name.now c.args.desc.now in
    inherited_above c.args.self.now c.loop-turns.at c.record-record.result.now c.loop-turns.turns (c.loop-turns.turns - 1) c.args.name.now c.args.desc.now
    c.interface_method_among-method.result (whole c) c.record-record.ensures (omega arith) c.loop-turns.invariant.same (sym c.is_some.ensures ∙ c.if-is_some.false)
    (names_same (IsMethod c.args.self.now) c.interface_method_among-method.result (first_of beside c.as_slice.result.now) (first_of beside c.record-record.result.now.head.interfaces)
    (ap (first_of beside) c.as_slice.ensures) c.interface_method_among-method.ensures)

pub returns-in-None : goal.returns-in-None
returns-in-None c =
    let a : After-superclass = (goal.at.returns-in-None c).After-superclass in
    sym (above a) ∙ above_none c.args.self.now (search a) c.record-record.result.now.head.superclass (λ n e. inherited_blind (mixture_of c.args.self.now) (c.loop-turns.turns - 1) c.args.name.now c.args.desc.now n e) c.in-None.ensures

pub loop-turns-preserved : goal.loop-turns-preserved
loop-turns-preserved c =
    let a : After-superclass = (goal.at.loop-turns-preserved c).After-superclass in
    record { there = c.in-Some.ensures.0; same = sym (above_some c.args.self.now (search a) c.record-record.result.now.head.superclass c.in-Some.superclass c.in-Some.ensures) ∙ above a }
