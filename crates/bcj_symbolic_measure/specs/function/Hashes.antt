-- What the hash of an entry is made of.
use Rattle.std.specs.Prelude.{ℕ, List, [], ◌++◌}
use Rattle.std.specs.Hash as fed
use Rattle.bcj_symbolic_trees.specs.Types.{PlainTy, class_type, array_type}
use Rattle.bcj_symbolic_measure.specs.Entries.{PlainEntry, PlainTarget, type_target, field_target, method_target, role_number}

abbrev pub type_writes : PlainTy → List (List ℕ)
type_writes (class_type name) = fed.str name
type_writes (array_type component) = fed.u8 0 ++ type_writes component
type_writes _ = []

abbrev pub target_writes : PlainTarget → List (List ℕ)
target_writes (type_target t) = type_writes t
target_writes (field_target f) = fed.str f.class ++ fed.str f.name
target_writes (method_target m) = fed.str m.class ++ fed.str m.name

abbrev pub entry_writes : PlainEntry → List (List ℕ)
entry_writes e = fed.u8 (role_number e.role) ++ target_writes e.target
