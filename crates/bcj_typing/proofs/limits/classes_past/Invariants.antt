use Rattle.std.proofs.Common.{◌≡◌, drop, map}
use Rattle.bcj_parser_trees.specs.Plain.{type_of}
use Rattle.bcj_symbolic_trees.specs.Units.{class_of}
use Rattle.bcj_typing.specs.Limits as spec
use Rattle.bcj_typing.proofs.limits.classes_past.Given as goal

abbrev pub invariant-loop-index : goal.invariant-loop-index
invariant-loop-index l =
    spec.classes_past (map type_of (drop l.index l.decls)) (map class_of (drop l.index l.classes)) ≡ spec.classes_past (map type_of l.decls) (map class_of l.classes)
