use Rattle.std.proofs.Common.{◌≡◌, drop, map}
use Rattle.std.specs.List.{list_all}
use Rattle.bcj_symbolic_trees.specs.Units.{field_of}
use Rattle.bcj_symbolic_check.specs.Classes as spec
use Rattle.bcj_symbolic_check.proofs.members.fields_hold.Given as goal

abbrev pub invariant-loop-field : goal.invariant-loop-field
invariant-loop-field l = list_all (spec.field_holds l.interface) (map field_of (drop l.field-index l.fields)) ≡ list_all (spec.field_holds l.interface) (map field_of l.fields)
