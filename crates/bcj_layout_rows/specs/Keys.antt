-- What the keys of the sets stand for, and what their hashes are made of.
use Rattle.std.specs.Prelude.{ℕ, List, [], ◌++◌}
use Rattle.std.specs.Hash as fed
use Rattle.bcj_symbolic_trees.specs.Types.{PlainTy, class_type, array_type, ty_of}
use Rattle.bcj_hier_rules.specs.Shapes.{Reference}
use Rattle.bcj_layout_rows.specs.declared.keys.TypeKey.{TypeKey}
use Rattle.bcj_layout_rows.specs.declared.keys.ReferenceKey.{ReferenceKey}

-- the type of a key
abbrev pub type_in : TypeKey → PlainTy
type_in k = ty_of k.ty.now

-- the reference of a key
abbrev pub reference_in : ReferenceKey → Reference
reference_in k = record { class = k.class.now; name = k.name.now; desc = k.desc.now }

-- what the hash of a type takes
abbrev pub type_writes : PlainTy → List (List ℕ)
type_writes (class_type name) = fed.str name
type_writes (array_type component) = fed.u8 0 ++ type_writes component
type_writes _ = []

-- what the hash of a reference takes
abbrev pub reference_writes : Reference → List (List ℕ)
reference_writes r = fed.str r.class ++ (fed.str r.name ++ fed.str r.desc)
