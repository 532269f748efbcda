use Rattle.std.proofs.Common.{◌-◌, Option, arith, sym, ◌∙◌, ap}
use Rattle.bcj_hier_rules.specs.Shapes.{Named}
use Rattle.bcj_hier_rules.specs.Resolution.{FoundField, first_of, of_option, field_within}
use Rattle.bcj_layout_rules.specs.Rows.{mixture_of}
use Rattle.bcj_layout_resolution.specs.Places.{IsField}
use Rattle.bcj_layout_resolution.specs.Searches.{NamesField}
use Rattle.bcj_layout_resolution.proofs.Searching.{field_beside, names_same, first_names, then_names}
use Rattle.bcj_layout_resolution.proofs.resolver.Resolver.+fields.Goals as goal

pub field_within-returns-then-is_some-2 : goal.field_within-returns-then-is_some-2
field_within-returns-then-is_some-2 t c =
    let search : Named → Option FoundField = field_within (mixture_of c.args.self.now) (c.args.turns - 1) c.args.name.now c.args.desc.now in
    let beside : Option FoundField = first_of search c.record-record.result.now.head.interfaces in
    let above : Option FoundField = of_option search c.record-record.result.now.head.superclass in
    let is : NamesField c.args.self.now c.field_among-beside.result beside =
    names_same (IsField c.args.self.now) c.field_among-beside.result (first_of search c.as_slice.result.now) beside (ap (first_of search) c.as_slice.ensures) c.field_among-beside.ensures in
    field_beside c.args.self.now c.args.class c.record-record.result.now c.args.turns (c.args.turns - 1) c.args.name.now c.args.desc.now c.own_field-own.result c.field_among-beside.result
    c.record-record.ensures (omega arith) (sym c.is_some.ensures ∙ c.if-is_some.false) c.own_field-own.ensures
    (first_names (IsField c.args.self.now) c.field_among-beside.result beside above (sym c.is_some-2.ensures ∙ c.if-is_some-2.true) is)

pub field_within-returns-in-Some : goal.field_within-returns-in-Some
field_within-returns-in-Some t c =
    let search : Named → Option FoundField = field_within (mixture_of c.args.self.now) (c.args.turns - 1) c.args.name.now c.args.desc.now in
    let beside : Option FoundField = first_of search c.record-record.result.now.head.interfaces in
    let above : Option FoundField = of_option search c.record-record.result.now.head.superclass in
    let is : NamesField c.args.self.now c.field_among-beside.result beside =
    names_same (IsField c.args.self.now) c.field_among-beside.result (first_of search c.as_slice.result.now) beside (ap (first_of search) c.as_slice.ensures) c.field_among-beside.ensures in
    field_beside c.args.self.now c.args.class c.record-record.result.now c.args.turns (c.args.turns - 1) c.args.name.now c.args.desc.now c.own_field-own.result c.field_from.result
    c.record-record.ensures (omega arith) (sym c.is_some.ensures ∙ c.if-is_some.false) c.own_field-own.ensures
    (then_names (IsField c.args.self.now) c.field_among-beside.result c.field_from.result beside above (sym c.is_some-2.ensures ∙ c.if-is_some-2.false) is
    (names_same (IsField c.args.self.now) c.field_from.result (search c.in-Some.superclass) above (ap (of_option search) (sym c.in-Some.is)) c.field_from.ensures))
