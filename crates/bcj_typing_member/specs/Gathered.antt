-- What typed members add up to, and the class that is made of it.
use Rattle.std.specs.Prelude.{Bool, not, ◌&&◌, List, [], ◌∷◌, ◌++◌, Option, None, Some, true, false}
use Rattle.std.specs.List.{filter_map, list_any}
use Rattle.std.specs.Option.{option_to_list}
use Rattle.bcj_parser_trees.specs.Trees as source
use Rattle.bcj_symbolic_trees.specs.Trees as tree
use Rattle.bcj_symbolic_trees.specs.Types.{PlainTy}
use Rattle.bcj_symbolic_trees.specs.Units.{PlainField, PlainMethod, PlainPair, PlainClass}
use Rattle.bcj_decl_rules.specs.World.{Named}
use Rattle.bcj_typing_rules.specs.Members.{Added, nothing_added, Made, first_types, head_of, is_constructor_member, no_effects, pairs_of}
use Rattle.bcj_typing_rules.specs.function.Expressions.{Outcome, result, and_then}
use Rattle.bcj_typing_rules.specs.function.Members.{TypedMember, typed_constructor, types_behind, both_added, static_of, instance_of, field_made, method_made, constructor_of}

-- ---- members

pub record PlainMembers : Type 0 where
  pub fields : List PlainField
  pub types : List PlainTy
  pub statics : Added
  pub instances : Added
  pub constructors : List TypedMember
  pub methods : List Made

abbrev pub no_members : PlainMembers
no_members = record { fields = []; types = []; statics = nothing_added; instances = nothing_added; constructors = []; methods = [] }

abbrev pub constructor_in : TypedMember → Option TypedMember
constructor_in (typed_constructor hidden params first to_super b) = Some (typed_constructor hidden params first to_super b)
constructor_in _ = None

abbrev pub with_member : PlainMembers → TypedMember → PlainMembers
with_member g m =
    record {
      fields = g.fields ++ option_to_list (field_made m);
      types = types_behind g.types m;
      statics = both_added g.statics (static_of m);
      instances = both_added g.instances (instance_of m);
      constructors = g.constructors ++ option_to_list (constructor_in m);
      methods = g.methods ++ option_to_list (method_made m);
    }

abbrev pub with_members : PlainMembers → List TypedMember → PlainMembers
with_members g [] = g
with_members g (m ∷ ms) = with_members (with_member g m) ms

-- a result that is made of another; a fault stays
abbrev pub outcome_map : {A B : Type 0} → (A → B) → Outcome A → Outcome B
outcome_map f o = and_then o (λ x. result (f x))

-- ---- classes

pub record PlainMaking : Type 0 where
  pub methods : List PlainMethod
  pub steps : List PlainPair

abbrev pub with_made : PlainMaking → Made → PlainMaking
with_made w m = record { methods = w.methods ++ m.method ∷ []; steps = w.steps ++ m.steps }

abbrev pub with_mades : PlainMaking → List Made → PlainMaking
with_mades w [] = w
with_mades w (m ∷ ms) = with_mades (with_made w m) ms

-- whether a type is a class that writes no constructor
abbrev pub has_default : source.PlainType → Bool
has_default t = not t.interface && not (list_any is_constructor_member t.members)

-- the constructor that it has then, with its first call
abbrev pub default_constructor : Named → Added → TypedMember
default_constructor class first = typed_constructor false [] first true (no_effects (first_types class false []))

abbrev pub or_default : Named → Option Added → List TypedMember → List TypedMember
or_default class None constructors = constructors
or_default class (Some first) constructors = default_constructor class first ∷ constructors

abbrev pub constructors_with : Named → Added → List TypedMember → List Made
constructors_with class i constructors = filter_map (constructor_of class i) constructors

-- the steps of the class initialiser come first
abbrev pub making_from : PlainMembers → PlainMaking
making_from g = record { methods = []; steps = g.statics.steps }

abbrev pub making_with : Named → PlainMembers → Option Added → PlainMaking
making_with class g default =
    with_mades (with_mades (making_from g) (constructors_with class g.instances (or_default class default g.constructors))) g.methods

abbrev pub class_with : source.PlainType → PlainMembers → Option Added → PlainClass
class_with t g default =
    record {
      head = head_of t;
      fields = g.fields;
      init = record { locals = g.types; body = tree.stmts_from g.statics.trees };
      methods = (making_with t.name g default).methods;
      pairs = pairs_of (making_with t.name g default).steps;
    }
