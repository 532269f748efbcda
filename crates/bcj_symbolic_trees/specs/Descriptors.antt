-- The descriptors of types and methods (JVMS 4.3.2, 4.3.3).
use Rattle.std.specs.Prelude.{◌≡◌, ℕ, List, [], ◌∷◌, ◌++◌, codes, refl}
use Rattle.bcj_symbolic_trees.specs.Types.{PlainTy, int_type, bool_type, void_type, class_type, array_type}

abbrev pub descriptor : PlainTy → List ℕ
descriptor int_type = codes "I"
descriptor bool_type = codes "Z"
descriptor void_type = codes "V"
descriptor (class_type name) = codes "L" ++ (name ++ codes ";")
descriptor (array_type component) = codes "[" ++ descriptor component

abbrev pub descriptors : List PlainTy → List ℕ
descriptors [] = []
descriptors (t ∷ ts) = descriptor t ++ descriptors ts

abbrev pub method_descriptor : List PlainTy → PlainTy → List ℕ
method_descriptor params result = codes "(" ++ (descriptors params ++ (codes ")" ++ descriptor result))

pub main_row : method_descriptor (array_type (class_type (codes "String")) ∷ []) void_type ≡ codes "([LString;)V"
main_row = refl

pub mixed_row : method_descriptor (int_type ∷ bool_type ∷ class_type (codes "A") ∷ []) (array_type (array_type int_type)) ≡ codes "(IZLA;)[[I"
mixed_row = refl

pub empty_row : method_descriptor [] bool_type ≡ codes "()Z"
empty_row = refl
