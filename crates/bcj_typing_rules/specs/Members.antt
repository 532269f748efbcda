-- What the members of a type become (JLS 8.3.2, 8.6, 8.7, 8.8, 12.4, 12.5): fields with the values of constants, the class initialiser,
-- constructors with the initialisers of objects, methods, and the pairs of the class.
use Rattle.std.specs.Prelude.{◌≡◌, ℕ, suc, ℤ, pos, Bool, true, false, not, ◌&&◌, List, [], ◌∷◌, ◌++◌, map, filter, Option, None, Some, if◌then◌else◌, Decides}
use Rattle.std.specs.List.{AllZip, flat_map}
use Rattle.std.specs.Str.{bytes_eq}
use Rattle.bcj_parser_trees.specs.declared.names.TypeName.{TypeName}
use Rattle.bcj_parser_trees.specs.declared.names.Mods.{Mods}
use Rattle.bcj_parser_trees.specs.declared.names.Param.{Param}
use Rattle.bcj_parser_trees.specs.Trees as source
use Rattle.bcj_symbolic_trees.specs.declared.class_tree.ClassHead.{ClassHead}
use Rattle.bcj_symbolic_trees.specs.declared.class_tree.MethodKind.TheVariants as method_kind
use Rattle.bcj_symbolic_trees.specs.Trees as tree
use Rattle.bcj_symbolic_trees.specs.Types.{PlainTy, void_type, class_type}
use Rattle.bcj_symbolic_trees.specs.Units.{PlainField, PlainMethod, PlainPair, PlainClass}
use Rattle.bcj_symbolic_trees.specs.Same.{same_type}
use Rattle.bcj_symbolic_trees.specs.Names.{object_name, constructor_name}
use Rattle.bcj_decl_rules.specs.declared.value.Value.{Value}
use Rattle.bcj_decl_rules.specs.declared.value.Value.TheVariants as value
use Rattle.bcj_decl_rules.specs.World.{Named, Field, Method, type_of, param_types, field_in, method_in, declared_type, superclass_of, interfaces_of, is_private}
use Rattle.bcj_decl_rules.specs.Subtypes.{Fits}
use Rattle.bcj_decl_rules.specs.Methods.{Choice, one, none_applies, ambiguous, MostSpecific}
use Rattle.bcj_decl_rules.specs.Faults.{is_static}
use Rattle.bcj_typing_rules.specs.declared.kind.Kind.TheVariants as kind
use Rattle.bcj_typing_rules.specs.Premises.{Need, need, earliest_missing}
use Rattle.bcj_typing_rules.specs.Context.{Local, Finals, no_finals, instance_finals, static_finals, Context, world_at, superclass_at, FieldWorth}
use Rattle.bcj_typing_rules.specs.Casting.{uses}
use Rattle.bcj_typing_rules.specs.Expressions.{Typing, field_ref, method_ref, this_tree, types_in, trees_in, steps_in, argument_steps, choice_needs, class_step, Types, TypesAll}
use Rattle.bcj_typing_rules.specs.Statements.{Effects, block_of, RunAll}

-- ---- contexts

-- that of a body in a type
abbrev pub body_of : List source.PlainUnit → Named → Bool → Option PlainTy → Finals → List Local → Context
body_of units class is_static result finals locals =
    record { units = units; class = class; is_static = is_static; result = result; in_loop = false; finals = finals; locals = locals }

abbrev pub finals_in : Bool → Finals
finals_in true = static_finals
finals_in false = instance_finals

-- that of an initialiser, which has no locals around it
abbrev pub initialiser_context : List source.PlainUnit → Named → Bool → Context
initialiser_context units class is_static = body_of units class is_static None (finals_in is_static) []

-- parameters from a number on (JLS 8.4.1)
abbrev pub params_from : ℕ → List Param → List Local
params_from n [] = []
params_from n (p ∷ ps) = record { name = p.name; ty = type_of p.ty; number = n } ∷ params_from (suc n) ps

-- `this` is the first local where there is one
abbrev pub first_param : Bool → ℕ
first_param true = 0
first_param false = 1

abbrev pub first_types : Named → Bool → List PlainTy → List PlainTy
first_types class true params = params
first_types class false params = class_type class ∷ params

abbrev pub method_context : List source.PlainUnit → Method → List Param → Context
method_context units m params = body_of units m.class (is_static m) (Some m.result) no_finals (params_from (first_param (is_static m)) params)

abbrev pub constructor_context : List source.PlainUnit → Named → List Param → Context
constructor_context units class params = body_of units class false (Some void_type) instance_finals (params_from (first_param false) params)

-- the arguments of a constructor call have no `this` (JLS 8.1.3, 8.8.7.1)
abbrev pub before_this : Context → Context
before_this c = record c { is_static = true; finals = no_finals }

-- ---- fields (JLS 8.3, 9.3)

abbrev pub value_number : Value → ℤ
value_number (value.Int n) = n
value_number (value.Bool b) = if b then pos 1 else pos 0

abbrev pub field_record : Field → Option ℤ → PlainField
field_record f constant =
    record { name = f.name; ty = f.ty; is_static = f.is_static; is_final = f.is_final; is_private = f.is_private; constant = constant }

-- the number that a static field has from the start
abbrev pub start_value : Bool → Option Value → Option ℤ
start_value true (Some v) = Some (value_number v)
start_value _ _ = None

pub data FieldBecomes (units : List source.PlainUnit) (f : Field) : PlainField → Type 0 where
  field_becomes : {v : Option Value} → FieldWorth (initialiser_context units f.class f.is_static) f v → FieldBecomes units f (field_record f (start_value f.is_static v))

-- ---- initialisers (JLS 8.3.2, 8.7)

-- statements that are put in, with their steps
pub record Added : Type 0 where
  pub trees : List tree.PlainStmt
  pub steps : List PlainPair

abbrev pub nothing_added : Added
nothing_added = record { trees = []; steps = [] }

abbrev pub set_own : Field → tree.PlainExpr → tree.PlainExpr
set_own f v = if f.is_static then tree.set_static (field_ref f.class f) v else tree.set_field this_tree (field_ref f.class f) v

-- an initialiser is assigned to its field
pub data Initialises (units : List source.PlainUnit) (f : Field) (e : source.PlainExpr) : List Need → Added → Type 0 where
  initialises : {t : Typing} {fits : Bool} → Types (initialiser_context units f.class f.is_static) e t
      → Decides fits (Fits (world_at (initialiser_context units f.class f.is_static)) t.type f.ty)
      → Initialises units f e (need kind.Assign fits ∷ []) (record { trees = tree.evaluate (set_own f t.tree) ∷ []; steps = t.steps ++ uses t.type f.ty })

pub data HasInitialiser (units : List source.PlainUnit) (f : Field) (e : source.PlainExpr) : Added → Type 0 where
  has_initialiser : {needs : List Need} {a : Added} → Initialises units f e needs a → earliest_missing needs ≡ None → HasInitialiser units f e a

-- whether a member is a field of this sort with an initialiser
abbrev pub has_initialiser_of : Bool → Option Field → source.PlainOption → Bool
has_initialiser_of static (Some f) (source.present e) = if static then f.is_static else not f.is_static
has_initialiser_of static _ _ = false

-- what runs when the class is initialised; other members add nothing there
abbrev pub is_static_part : source.PlainType → source.PlainMember → Bool
is_static_part t (source.static_member at body) = true
is_static_part t (source.field_member at mods ty name init) = has_initialiser_of true (field_in t.interface t.name (source.field_member at mods ty name init)) init
is_static_part t _ = false

-- what runs when an object is made
abbrev pub is_instance_part : source.PlainType → source.PlainMember → Bool
is_instance_part t (source.field_member at mods ty name init) = has_initialiser_of false (field_in t.interface t.name (source.field_member at mods ty name init)) init
is_instance_part t _ = false

-- a static constant holds its value from the start
abbrev pub unless_constant : Option Value → Added → Added
unless_constant None a = a
unless_constant (Some v) a = nothing_added

-- the class initialiser behind some members: the types of its locals, its statements and steps
pub record Part : Type 0 where
  pub types : List PlainTy
  pub trees : List tree.PlainStmt
  pub steps : List PlainPair

pub data StaticPart (units : List source.PlainUnit) (t : source.PlainType) : List PlainTy → source.PlainMember → Part → Type 0 where
  static_block : {types : List PlainTy} {at : ℕ} {body : source.PlainStmts} {b : Effects} → RunAll (initialiser_context units t.name true) types body b
      → StaticPart units t types (source.static_member at body) (record { types = b.types; trees = block_of b.trees ∷ []; steps = b.steps })
  static_field : {types : List PlainTy} {at : ℕ} {mods : Mods} {ty : TypeName} {name : Named} {e : source.PlainExpr} {f : Field} {v : Option Value} {a : Added}
      → field_in t.interface t.name (source.field_member at mods ty name (source.present e)) ≡ Some f → f.is_static ≡ true → HasInitialiser units f e a
      → FieldWorth (initialiser_context units t.name true) f v
      → StaticPart units t types (source.field_member at mods ty name (source.present e))
      (record { types = types; trees = (unless_constant v a).trees; steps = (unless_constant v a).steps })
  no_static_part : {types : List PlainTy} {m : source.PlainMember} → is_static_part t m ≡ false → StaticPart units t types m (record { types = types; trees = []; steps = [] })

pub data StaticParts (units : List source.PlainUnit) (t : source.PlainType) : List PlainTy → List source.PlainMember → Part → Type 0 where
  no_static_parts : {types : List PlainTy} → StaticParts units t types [] (record { types = types; trees = []; steps = [] })
  more_static_parts : {types : List PlainTy} {m : source.PlainMember} {ms : List source.PlainMember} {p r : Part} → StaticPart units t types m p → StaticParts units t p.types ms r
      → StaticParts units t types (m ∷ ms) (record { types = r.types; trees = p.trees ++ r.trees; steps = p.steps ++ r.steps })

-- the initialisers of objects, in text order
pub data InstancePart (units : List source.PlainUnit) (t : source.PlainType) : source.PlainMember → Added → Type 0 where
  instance_field : {at : ℕ} {mods : Mods} {ty : TypeName} {name : Named} {e : source.PlainExpr} {f : Field} {a : Added}
      → field_in t.interface t.name (source.field_member at mods ty name (source.present e)) ≡ Some f → f.is_static ≡ false → HasInitialiser units f e a
      → InstancePart units t (source.field_member at mods ty name (source.present e)) a
  no_instance_part : {m : source.PlainMember} → is_instance_part t m ≡ false → InstancePart units t m nothing_added

pub data InstanceParts (units : List source.PlainUnit) (t : source.PlainType) : List source.PlainMember → Added → Type 0 where
  no_instance_parts : InstanceParts units t [] nothing_added
  more_instance_parts : {m : source.PlainMember} {ms : List source.PlainMember} {a r : Added} → InstancePart units t m a → InstanceParts units t ms r
      → InstanceParts units t (m ∷ ms) (record { trees = a.trees ++ r.trees; steps = a.steps ++ r.steps })

-- ---- constructors (JLS 8.8.7, 8.8.9, 12.5)

-- a method or constructor with the steps of its body
pub record Made : Type 0 where
  pub method : PlainMethod
  pub steps : List PlainPair

-- the class whose constructor is called first
abbrev pub called_class : Context → Bool → Option Named
called_class c true = superclass_at c
called_class c false = Some c.class

-- the constructor of Object has no node
abbrev pub constructor_call : Named → List Typing → Method → List tree.PlainStmt
constructor_call class ts m =
    if bytes_eq class object_name then [] else tree.evaluate (tree.call_special (method_ref class m) (trees_in ts)) ∷ []

abbrev pub first_steps : Context → Named → List Typing → Method → List PlainPair
first_steps c class ts m = steps_in ts ++ (class_step c class ++ argument_steps ts m.params)

abbrev pub call_added : Context → Named → List Typing → Choice → Added
call_added c class ts (one m) = record { trees = constructor_call class ts m; steps = first_steps c class ts m }
call_added c class ts none_applies = nothing_added
call_added c class ts ambiguous = nothing_added

-- The first call of a constructor, and whether it is that of the superclass. Where it isn't written, the whole constructor needs what it needs.
pub data Starts (c : Context) : source.PlainFirst → List Need → Added → Bool → Type 0 where
  written : {at : ℕ} {to_super : Bool} {args : source.PlainExprs} {class : Named} {ts : List Typing} {m : Choice} → TypesAll (before_this c) args ts → called_class c to_super ≡ Some class
      → MostSpecific (world_at c) c.class class constructor_name (types_in ts) m
      → Starts c (source.first_call at to_super args) (choice_needs (λ m. []) m) (call_added c class ts m) to_super
  unwritten : {class : Named} {m : Choice} → superclass_at c ≡ Some class → MostSpecific (world_at c) c.class class constructor_name [] m
      → Starts c source.no_first (choice_needs (λ m. []) m) (call_added c class [] m) true

pub data HasStart (c : Context) : source.PlainFirst → Added → Bool → Type 0 where
  has_start : {first : source.PlainFirst} {needs : List Need} {a : Added} {to_super : Bool} → Starts c first needs a to_super → earliest_missing needs ≡ None → HasStart c first a to_super

-- the initialisers of objects run behind the call of the superclass's constructor alone
abbrev pub with_initialisers : Bool → Added → Added
with_initialisers true i = i
with_initialisers false i = nothing_added

abbrev pub constructor_made : Named → List PlainTy → Bool → List PlainTy → Added → Added → Effects → Made
constructor_made class params hidden types first i b =
    record {
      method = record {
        name = constructor_name;
        params = params;
        result = void_type;
        kind = method_kind.Constructor;
        is_private = hidden;
        locals = types;
        body = tree.stmts_from (first.trees ++ (i.trees ++ b.trees));
      };
      steps = first.steps ++ (i.steps ++ b.steps);
    }

abbrev pub no_effects : List PlainTy → Effects
no_effects types = record { locals = []; types = types; trees = []; steps = [] }

pub data ConstructorBecomes (units : List source.PlainUnit) (t : source.PlainType) (i : Added) : source.PlainMember → Made → Type 0 where
  constructor_becomes : {at : ℕ} {mods : Mods} {name : Named} {params : List Param} {throws : List Named} {first : source.PlainFirst} {body : source.PlainStmts} {a : Added} {to_super : Bool} {b : Effects}
      → HasStart (constructor_context units t.name params) first a to_super
      → RunAll (constructor_context units t.name params) (first_types t.name false (param_types params)) body b
      → ConstructorBecomes units t i (source.constructor_member at mods name params throws first body)
      (constructor_made t.name (param_types params) (is_private mods) b.types a (with_initialisers to_super i) b)

abbrev pub is_constructor_member : source.PlainMember → Bool
is_constructor_member (source.constructor_member at mods name params throws first body) = true
is_constructor_member _ = false

abbrev pub constructor_members : source.PlainType → List source.PlainMember
constructor_members t = filter is_constructor_member t.members

-- an interface has no constructor, and a class that writes none has one without parameters
pub data ConstructorsBecome (units : List source.PlainUnit) (t : source.PlainType) (i : Added) : List Made → Type 0 where
  of_interface : t.interface ≡ true → ConstructorsBecome units t i []
  by_default : {a : Added} → t.interface ≡ false → constructor_members t ≡ [] → HasStart (constructor_context units t.name []) source.no_first a true
      → ConstructorsBecome units t i (constructor_made t.name [] false (first_types t.name false []) a i (no_effects (first_types t.name false [])) ∷ [])
  each_written : {m : source.PlainMember} {ms : List source.PlainMember} {made : List Made} → t.interface ≡ false → constructor_members t ≡ m ∷ ms
      → AllZip (ConstructorBecomes units t i) (m ∷ ms) made → ConstructorsBecome units t i made

-- ---- methods (JLS 8.4, 9.4)

abbrev pub method_record : Method → List PlainTy → tree.PlainStmts → PlainMethod
method_record m types body =
    record { name = m.name; params = m.params; result = m.result; kind = m.kind; is_private = m.is_private; locals = types; body = body }

-- an abstract method has `this` and its parameters as locals, and no body
pub data MethodBecomes (units : List source.PlainUnit) (t : source.PlainType) : source.PlainMember → Made → Type 0 where
  with_a_body : {at : ℕ} {mods : Mods} {result : TypeName} {name : Named} {params : List Param} {throws : List Named} {body : source.PlainStmts} {m : Method} {b : Effects}
      → method_in t.interface t.name (source.method_member at mods result name params throws (source.with_body body)) ≡ Some m
      → RunAll (method_context units m params) (first_types t.name (is_static m) (param_types params)) body b
      → MethodBecomes units t (source.method_member at mods result name params throws (source.with_body body))
      (record { method = method_record m b.types (tree.stmts_from b.trees); steps = b.steps })
  without_body : {at : ℕ} {mods : Mods} {result : TypeName} {name : Named} {params : List Param} {throws : List Named} {m : Method}
      → method_in t.interface t.name (source.method_member at mods result name params throws source.no_body) ≡ Some m
      → MethodBecomes units t (source.method_member at mods result name params throws source.no_body)
      (record { method = method_record m (first_types t.name (is_static m) (param_types params)) tree.no_stmts; steps = [] })

abbrev pub is_method_member : source.PlainMember → Bool
is_method_member (source.method_member at mods result name params throws body) = true
is_method_member _ = false

abbrev pub method_members : source.PlainType → List source.PlainMember
method_members t = filter is_method_member t.members

-- ---- pairs

abbrev pub object_type : PlainTy
object_type = class_type object_name

-- reflexive steps and steps to Object are not listed
abbrev pub is_listed : PlainPair → Bool
is_listed p = not (same_type p.from p.to) && not (same_type p.to object_type)

abbrev pub same_pair : PlainPair → PlainPair → Bool
same_pair p q = same_type p.from q.from && same_type p.to q.to

-- each once, by first use
abbrev pub first_uses : List PlainPair → List PlainPair
first_uses [] = []
first_uses (p ∷ ps) = p ∷ filter (λ q. not (same_pair p q)) (first_uses ps)

abbrev pub pairs_of : List PlainPair → List PlainPair
pairs_of steps = first_uses (filter is_listed steps)

-- ---- classes

abbrev pub head_of : source.PlainType → ClassHead
head_of t =
    record { name = t.name; interface = t.interface; is_abstract = t.is_abstract; superclass = superclass_of t; interfaces = interfaces_of t }

-- constructors stand before the methods, both in text order; the steps of the class initialiser come first
abbrev pub class_from : source.PlainType → List PlainField → Part → List Made → PlainClass
class_from t fields s made =
    record {
      head = head_of t;
      fields = fields;
      init = record { locals = s.types; body = tree.stmts_from s.trees };
      methods = map (λ m. m.method) made;
      pairs = pairs_of (s.steps ++ flat_map (λ m. m.steps) made);
    }

pub data BecomesClass (units : List source.PlainUnit) (t : source.PlainType) : PlainClass → Type 0 where
  becomes_class : {fields : List PlainField} {s : Part} {i : Added} (constructors methods : List Made) → AllZip (FieldBecomes units) (declared_type t).fields fields
      → StaticParts units t [] t.members s → InstanceParts units t t.members i → ConstructorsBecome units t i constructors
      → AllZip (MethodBecomes units t) (method_members t) methods → BecomesClass units t (class_from t fields s (constructors ++ methods))
