-- Types, and the steps from one type to another that a class may take (after JVMS 4.10.1.2). `null` has a type of its own.
use Rattle.std.specs.Prelude.{ℕ, suc, Bool, true, false, ◌&&◌, ◌||◌, nat_le, List}
use Rattle.std.specs.List.{list_any}
use Rattle.bcj_symbolic_trees.specs.Names.{object_name, throwable_name}
use Rattle.bcj_symbolic_trees.specs.Types.{PlainTy, int_type, bool_type, void_type, class_type, array_type, PlainArg, given, null_arg}
use Rattle.bcj_symbolic_trees.specs.Same.{same_type}
use Rattle.bcj_symbolic_trees.specs.Units.{PlainPair}
use Rattle.bcj_names.specs.Identifiers.{is_identifier}
use Rattle.bcj_symbolic_check.specs.Limits.{max_dimensions}

-- classes and arrays
abbrev pub is_reference : PlainTy → Bool
is_reference (class_type name) = true
is_reference (array_type component) = true
is_reference _ = false

abbrev pub is_void : PlainTy → Bool
is_void void_type = true
is_void _ = false

abbrev pub is_array : PlainTy → Bool
is_array (array_type component) = true
is_array _ = false

abbrev pub dimensions : PlainTy → ℕ
dimensions (array_type component) = suc (dimensions component)
dimensions _ = 0

-- what the brackets stand behind is `int`, `boolean` or a class by its name
abbrev pub has_element : PlainTy → Bool
has_element int_type = true
has_element bool_type = true
has_element void_type = false
has_element (class_type name) = is_identifier name
has_element (array_type component) = has_element component

-- a type of values
unfoldable pub is_value_type : PlainTy → Bool
is_value_type t = has_element t && nat_le (dimensions t) max_dimensions

-- a type of results
unfoldable pub is_result_type : PlainTy → Bool
is_result_type t = is_void t || is_value_type t

abbrev pub object_type : PlainTy
object_type = class_type object_name

abbrev pub throwable_type : PlainTy
throwable_type = class_type throwable_name

-- a class, an array or null
abbrev pub is_object : PlainArg → Bool
is_object (given t) = is_reference t
is_object null_arg = true

abbrev pub is_null : PlainArg → Bool
is_null (given t) = false
is_null null_arg = true

abbrev pub same_arg : PlainArg → PlainArg → Bool
same_arg (given s) (given t) = same_type s t
same_arg null_arg null_arg = true
same_arg _ _ = false

-- the type of a value is this one
abbrev pub is_type : PlainTy → PlainArg → Bool
is_type t s = same_arg s (given t)

-- a pair goes from the one type to the other
abbrev pub is_pair : PlainArg → PlainArg → PlainPair → Bool
is_pair s t p = same_arg (given p.from) s && same_arg (given p.to) t

-- a step that the class lists
unfoldable pub is_listed : List PlainPair → PlainArg → PlainArg → Bool
is_listed pairs s t = list_any (is_pair s t) pairs

-- from one type to another: to itself, from null to each reference, from each reference to Object, or a step that the class lists
unfoldable pub steps_to : List PlainPair → PlainArg → PlainArg → Bool
steps_to pairs s t = same_arg s t || ((is_null s && is_object t) || ((is_object s && is_type object_type t) || is_listed pairs s t))
