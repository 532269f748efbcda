-- The types that a record's descriptors stand for.
use Rattle.std.specs.Prelude.{◌≡◌, ℕ, zero, suc, ◌≤◌, List, Bool, true, false}
use Rattle.std.specs.List.{AllByRecursion}
use Rattle.bcj_names.specs.Identifiers.{is_identifier}
use Rattle.bcj_symbolic_trees.specs.Types.{PlainTy, int_type, bool_type, void_type, class_type, array_type}
use Rattle.bcj_symbolic_trees.specs.Descriptors.{descriptor, method_descriptor}

-- no part is `void`, and the name of a class is an identifier
abbrev pub is_value_type : PlainTy → Bool
is_value_type int_type = true
is_value_type bool_type = true
is_value_type void_type = false
is_value_type (class_type name) = is_identifier name
is_value_type (array_type component) = is_value_type component

abbrev pub dimensions : PlainTy → ℕ
dimensions int_type = zero
dimensions bool_type = zero
dimensions void_type = zero
dimensions (class_type name) = zero
dimensions (array_type component) = suc (dimensions component)

-- a type of at most 255 dimensions (JVMS 4.3.2)
pub record IsRecordType (t : PlainTy) : Type 0 where
  pub value : is_value_type t ≡ true
  pub low : dimensions t ≤ 255

-- the text is the descriptor of this type
pub record Describes (t : PlainTy) (text : List ℕ) : Type 0 where
  pub is : IsRecordType t
  pub spelled : descriptor t ≡ text

-- a result is such a type or `void`
abbrev pub IsRecordResult : PlainTy → Type 0
IsRecordResult int_type = IsRecordType int_type
IsRecordResult bool_type = IsRecordType bool_type
IsRecordResult void_type = Unit {0}
IsRecordResult (class_type name) = IsRecordType (class_type name)
IsRecordResult (array_type component) = IsRecordType (array_type component)

-- the text is the descriptor of a method with these parameters and this result
pub record DescribesMethod (params : List PlainTy) (result : PlainTy) (text : List ℕ) : Type 0 where
  pub params_are : AllByRecursion IsRecordType params
  pub result_is : IsRecordResult result
  pub spelled : method_descriptor params result ≡ text
