-- Tests whether two types or references are the same, as definitions that compute. The calls that answer them say of each that
-- it is `≡`.
use Rattle.std.specs.Prelude.{Bool, true, false, ◌&&◌, List}
use Rattle.std.specs.Cmp.Lexicographic.{pointwise}
use Rattle.std.specs.Str.{bytes_eq}
use Rattle.bcj_symbolic_trees.specs.Types.{PlainTy, int_type, bool_type, void_type, class_type, array_type, PlainFieldRef, PlainMethodRef}

abbrev pub same_type : PlainTy → PlainTy → Bool
same_type int_type int_type = true
same_type bool_type bool_type = true
same_type void_type void_type = true
same_type (class_type a) (class_type b) = bytes_eq a b
same_type (array_type a) (array_type b) = same_type a b
same_type _ _ = false

abbrev pub same_types : List PlainTy → List PlainTy → Bool
same_types = pointwise same_type

abbrev pub same_field_ref : PlainFieldRef → PlainFieldRef → Bool
same_field_ref a b = bytes_eq a.class b.class && (bytes_eq a.name b.name && same_type a.ty b.ty)

abbrev pub same_method_ref : PlainMethodRef → PlainMethodRef → Bool
same_method_ref a b =
    bytes_eq a.class b.class
    && (bytes_eq a.name b.name && (same_types a.params b.params && same_type a.result b.result))
