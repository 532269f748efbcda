-- The plain form of classes and units. A head has no tree in it and is plain as it stands.
use Rattle.std.specs.Prelude.{ℕ, ℤ, Bool, List, map, Option}
use Rattle.bcj_symbolic_trees.specs.declared.class_tree.ClassHead.{ClassHead}
use Rattle.bcj_symbolic_trees.specs.declared.class_tree.MethodKind.{MethodKind}
use Rattle.bcj_symbolic_trees.specs.declared.class_tree.SymField.{SymField}
use Rattle.bcj_symbolic_trees.specs.declared.class_tree.SymMethod.{SymMethod}
use Rattle.bcj_symbolic_trees.specs.declared.class_tree.SymInit.{SymInit}
use Rattle.bcj_symbolic_trees.specs.declared.class_tree.Pair.{Pair}
use Rattle.bcj_symbolic_trees.specs.declared.class_tree.SymClass.{SymClass}
use Rattle.bcj_symbolic_trees.specs.declared.class_tree.SymUnit.{SymUnit}
use Rattle.bcj_symbolic_trees.specs.Types.{PlainTy, ty_of, types_of}
use Rattle.bcj_symbolic_trees.specs.Trees.{PlainStmts}
use Rattle.bcj_symbolic_trees.specs.Plain.{stmts_of}

pub record PlainField : Type 0 where
  pub name : List ℕ
  pub ty : PlainTy
  pub is_static : Bool
  pub is_final : Bool
  pub is_private : Bool
  pub constant : Option ℤ

pub record PlainInit : Type 0 where
  pub locals : List PlainTy
  pub body : PlainStmts

pub record PlainMethod : Type 0 where
  pub name : List ℕ
  pub params : List PlainTy
  pub result : PlainTy
  pub kind : MethodKind
  pub is_private : Bool
  pub locals : List PlainTy
  pub body : PlainStmts

pub record PlainPair : Type 0 where
  pub from : PlainTy
  pub to : PlainTy

pub record PlainClass : Type 0 where
  pub head : ClassHead
  pub fields : List PlainField
  pub init : PlainInit
  pub methods : List PlainMethod
  pub pairs : List PlainPair

pub record PlainUnit : Type 0 where
  pub classes : List PlainClass

abbrev pub field_of : SymField → PlainField
field_of f =
    record {
      name = f.name;
      ty = ty_of f.ty;
      is_static = f.is_static;
      is_final = f.is_final;
      is_private = f.is_private;
      constant = f.constant;
    }

abbrev pub init_of : SymInit → PlainInit
init_of i = record { locals = types_of i.locals; body = stmts_of i.body }

abbrev pub method_of : SymMethod → PlainMethod
method_of m =
    record {
      name = m.name;
      params = types_of m.params;
      result = ty_of m.result;
      kind = m.kind;
      is_private = m.is_private;
      locals = types_of m.locals;
      body = stmts_of m.body;
    }

abbrev pub pair_of : Pair → PlainPair
pair_of p = record { from = ty_of p.from; to = ty_of p.to }

abbrev pub class_of : SymClass → PlainClass
class_of c =
    record {
      head = c.head;
      fields = map field_of c.fields;
      init = init_of c.init;
      methods = map method_of c.methods;
      pairs = map pair_of c.pairs;
    }

abbrev pub plain_of : SymUnit → PlainUnit
plain_of u = record { classes = map class_of u.classes }
