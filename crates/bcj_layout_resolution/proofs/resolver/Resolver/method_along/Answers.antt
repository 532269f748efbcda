use Rattle.std.proofs.Common.{◌-◌, ◌∙◌, sym, Option, Bool, arith}
use Rattle.bcj_hier_rules.specs.Shapes.{Method}
use Rattle.bcj_hier_rules.specs.Loading.{turns}
use Rattle.bcj_hier_rules.specs.Resolution.{FoundMethod}
use Rattle.bcj_hier_rules.specs.Heads.{name_of}
use Rattle.bcj_layout_rules.specs.Rows.{mixture_of}
use Rattle.bcj_layout_resolution.specs.Places.{heads_in}
use Rattle.bcj_layout_resolution.specs.Searches.{fits, along}
use Rattle.bcj_layout_resolution.proofs.Searching.{along_above, along_blind, above_none}
use Rattle.bcj_layout_resolution.proofs.resolver.Resolver.method_along.Goals as goal

pub returns-in-None : goal.returns-in-None
returns-in-None c =
    let p : Method → Bool = fits c.args.sought c.args.name.now c.args.desc.now in
    let whole : Option FoundMethod = along p (mixture_of c.args.self.now) (turns (mixture_of c.args.self.now)) (name_of (heads_in c.args.self.now) c.args.class) in
    sym (along_above c.args.self.now c.loop-turns.at c.record-record.result.now c.loop-turns.turns (c.loop-turns.turns - 1) p c.own_method-own.result whole c.record-record.ensures (omega arith)
    c.loop-turns.invariant.same (sym c.is_some.ensures ∙ c.if-is_some.false) c.own_method-own.ensures)
    ∙ above_none c.args.self.now (along p (mixture_of c.args.self.now) (c.loop-turns.turns - 1)) c.record-record.result.now.head.superclass
    (λ n e. along_blind (mixture_of c.args.self.now) (c.loop-turns.turns - 1) p n e) c.in-None.ensures
