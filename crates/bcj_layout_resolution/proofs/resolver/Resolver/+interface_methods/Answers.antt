use Rattle.std.proofs.Common.{◌-◌, Option, arith, sym, ◌∙◌, ap}
use Rattle.bcj_hier_rules.specs.Shapes.{Named}
use Rattle.bcj_hier_rules.specs.Resolution.{FoundMethod, first_of, interface_method_within}
use Rattle.bcj_layout_rules.specs.Rows.{mixture_of}
use Rattle.bcj_layout_resolution.specs.Places.{IsMethod}
use Rattle.bcj_layout_resolution.proofs.Searching.{interface_beside, names_same}
use Rattle.bcj_layout_resolution.proofs.resolver.Resolver.+interface_methods.Goals as goal

pub interface_method_within-returns : goal.interface_method_within-returns
interface_method_within-returns t c =
    let search : Named → Option FoundMethod = interface_method_within (mixture_of c.args.self.now) (c.args.turns - 1) c.args.name.now c.args.desc.now in
    let beside : Option FoundMethod = first_of search c.record-record.result.now.head.interfaces in
    interface_beside c.args.self.now c.args.class c.record-record.result.now c.args.turns (c.args.turns - 1) c.args.name.now c.args.desc.now c.own_method-own.result c.interface_method_among.result
    c.record-record.ensures (omega arith) (sym c.is_some.ensures ∙ c.if-is_some.false) c.own_method-own.ensures
    (names_same (IsMethod c.args.self.now) c.interface_method_among.result (first_of search c.as_slice.result.now) beside (ap (first_of search) c.as_slice.ensures) c.interface_method_among.ensures)
