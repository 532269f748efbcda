use Rattle.std.proofs.Common.{◌≡◌, ◌++◌, drop, string_bytes}
use Rattle.bcj_symbolic_trees.specs.Types.{types_of}
use Rattle.bcj_symbolic_trees.specs.Descriptors.{descriptors}
use Rattle.bcj_object_records.proofs.descriptors.put_types.Given as goal

abbrev pub invariant-loop-ty : goal.invariant-loop-ty
invariant-loop-ty l = string_bytes l.out ++ descriptors (types_of (drop l.ty-index l.types)) ≡ string_bytes l.initial.out ++ descriptors (types_of l.types)
