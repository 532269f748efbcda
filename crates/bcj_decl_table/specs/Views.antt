-- What the types of a table stand for in the world.
use Rattle.std.specs.Prelude.{List, map}
use Rattle.bcj_symbolic_trees.specs.Types.{ty_of, types_of}
use Rattle.bcj_decl_rules.specs.World.{Field, Method, Declared, World}
use Rattle.bcj_decl_table.specs.declared.info.FieldInfo.{FieldInfo}
use Rattle.bcj_decl_table.specs.declared.info.MethodInfo.{MethodInfo}
use Rattle.bcj_decl_table.specs.declared.info.TypeInfo.{TypeInfo}

abbrev pub field_of_info : FieldInfo → Field
field_of_info f =
    record {
      class = f.class;
      name = f.name;
      ty = ty_of f.ty;
      is_static = f.is_static;
      is_final = f.is_final;
      is_private = f.is_private;
    }

abbrev pub method_of_info : MethodInfo → Method
method_of_info m =
    record {
      class = m.class;
      name = m.name;
      params = types_of m.params;
      result = ty_of m.result;
      kind = m.kind;
      is_private = m.is_private;
    }

abbrev pub declared_of : TypeInfo → Declared
declared_of t =
    record {
      name = t.head.name;
      interface = t.head.interface;
      is_abstract = t.head.is_abstract;
      superclass = t.head.superclass;
      interfaces = t.head.interfaces;
      fields = map field_of_info t.fields;
      methods = map method_of_info t.methods;
    }

-- the world of a table
abbrev pub world_in : List TypeInfo → World
world_in = map declared_of
