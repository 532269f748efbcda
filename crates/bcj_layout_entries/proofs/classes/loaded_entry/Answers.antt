use Rattle.std.proofs.Common.{◌∙◌, sym, ap}
use Rattle.bcj_symbolic_trees.specs.Types.{ty_of}
use Rattle.bcj_hier_rules.specs.Resolution.{element_error}
use Rattle.bcj_layout_rules.specs.Rows.{mixture_of}
use Rattle.bcj_layout_entries.proofs.Words.{class-type, class-row, plain-row}
use Rattle.bcj_layout_entries.proofs.classes.loaded_entry.Goals as goal

pub class_entry-requires-clause-loads : goal.class_entry-requires-clause-loads
class_entry-requires-clause-loads c =
    ap (element_error (mixture_of c.args.parts.now.resolver.now)) (sym (class-type (ty_of c.args.ty.now) c.in-Some.name.now (sym c.in-Some.ensures))) ∙ c.requires.loads

pub returns-in-Some : goal.returns-in-Some
returns-in-Some c =
    class-row c.args.parts.now.resolver.now c.args.parts.now.main.now (ty_of c.args.ty.now) c.in-Some.name.now c.class_entry.result (sym c.in-Some.ensures) c.class_entry.ensures

pub array_row-requires-clause-plain : goal.array_row-requires-clause-plain
array_row-requires-clause-plain c = sym c.in-None.ensures

pub returns-in_ok-array_row-in-None : goal.returns-in_ok-array_row-in-None
returns-in_ok-array_row-in-None c =
    plain-row c.args.parts.now.resolver.now c.args.parts.now.main.now (ty_of c.args.ty.now) c.in_ok-array_row-in-None.field-0 c.plain_entry.result c.in_ok-array_row-in-None.ensures (sym c.in-None.ensures) c.plain_entry.ensures
