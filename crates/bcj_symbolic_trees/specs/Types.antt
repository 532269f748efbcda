-- Types and symbolic references as plain data (JLS 4, 13.1). A name is the list of its bytes.
use Rattle.std.specs.Prelude.{ℕ, List, map}
use Rattle.bcj_symbolic_trees.specs.declared.type_tree.Ty.{Ty, fold-Ty}
use Rattle.bcj_symbolic_trees.specs.declared.type_tree.Ty.TheOpen as open_ty
use Rattle.bcj_symbolic_trees.specs.declared.type_tree.Arg.{Arg}
use Rattle.bcj_symbolic_trees.specs.declared.type_tree.Arg.TheVariants as arg
use Rattle.bcj_symbolic_trees.specs.declared.symbol_reference.FieldRef.{FieldRef}
use Rattle.bcj_symbolic_trees.specs.declared.symbol_reference.MethodRef.{MethodRef}

pub data PlainTy : Type 0 where
  int_type : PlainTy
  bool_type : PlainTy
  void_type : PlainTy
  class_type : List ℕ → PlainTy
  array_type : PlainTy → PlainTy

abbrev pub ty_step : open_ty.Ty-F PlainTy → PlainTy
ty_step open_ty.Int = int_type
ty_step open_ty.Bool = bool_type
ty_step open_ty.Void = void_type
ty_step (open_ty.Class name) = class_type name
ty_step (open_ty.Array component) = array_type component

unfoldable pub ty_of : Ty → PlainTy
ty_of = fold-Ty PlainTy ty_step

abbrev pub types_of : List Ty → List PlainTy
types_of = map ty_of

-- the type of an argument, where `null` has one of its own
pub data PlainArg : Type 0 where
  given : PlainTy → PlainArg
  null_arg : PlainArg

abbrev pub arg_of : Arg → PlainArg
arg_of (arg.Given t) = given (ty_of t)
arg_of arg.Null = null_arg

abbrev pub args_of : List Arg → List PlainArg
args_of = map arg_of

pub record PlainFieldRef : Type 0 where
  pub class : List ℕ
  pub name : List ℕ
  pub ty : PlainTy

abbrev pub field_ref_of : FieldRef → PlainFieldRef
field_ref_of f = record { class = f.class; name = f.name; ty = ty_of f.ty }

pub record PlainMethodRef : Type 0 where
  pub class : List ℕ
  pub name : List ℕ
  pub params : List PlainTy
  pub result : PlainTy

abbrev pub method_ref_of : MethodRef → PlainMethodRef
method_ref_of m = record { class = m.class; name = m.name; params = types_of m.params; result = ty_of m.result }
