-- What the typing of a body knows (JLS 6.3 to 6.5, 8.1.3, 8.3.1.2, 15.28).
use Rattle.std.specs.Prelude.{◌≡◌, ℕ, Bool, true, false, not, ◌&&◌, ◌||◌, List, ◌∷◌, Option, None, Some, if◌then◌else◌}
use Rattle.std.specs.List.{find, list_all}
use Rattle.std.specs.Option.{option_and_then, option_map_or, is_none}
use Rattle.std.specs.Str.{bytes_eq}
use Rattle.bcj_parser_trees.specs.declared.names.TypeName.{TypeName}
use Rattle.bcj_parser_trees.specs.Trees as source
use Rattle.bcj_symbolic_trees.specs.Types.{PlainTy}
use Rattle.bcj_decl_rules.specs.declared.value.Value.{Value}
use Rattle.bcj_decl_rules.specs.World.{Named, Field, World, world_of, type_named, has_type, initialiser_of}
use Rattle.bcj_decl_rules.specs.Members.{field_of}
use Rattle.bcj_decl_rules.specs.Constants.{IsConstant, IsConstantField}
use Rattle.bcj_decl_rules.specs.Faults.{class_names}

-- a local variable or parameter; its number counts the locals of the body in text order, `this` being the first where there is one
pub record Local : Type 0 where
  pub name : Named
  pub ty : PlainTy
  pub number : ℕ

-- the blank final fields of its own class that a body may assign: those of objects in constructors and initialisers of objects,
-- static ones in static initialisers
pub data Finals : Type 0 where
  no_finals : Finals
  instance_finals : Finals
  static_finals : Finals

-- `class` holds the body, which has `this` where it isn't static. An initialiser has no result. The locals in scope stand the
-- innermost first.
pub record Context : Type 0 where
  pub units : List source.PlainUnit
  pub class : Named
  pub is_static : Bool
  pub result : Option PlainTy
  pub in_loop : Bool
  pub finals : Finals
  pub locals : List Local

abbrev pub world_at : Context → World
world_at c = world_of c.units

abbrev pub has_this : Context → Bool
has_this c = not c.is_static

abbrev pub in_a_loop : Context → Context
in_a_loop c = record c { in_loop = true }

abbrev pub with_local : Context → Local → Context
with_local c l = record c { locals = l ∷ c.locals }

abbrev pub with_locals : Context → List Local → Context
with_locals c ls = record c { locals = ls }

-- ---- names

abbrev pub local_named : List Local → Named → Option Local
local_named ls name = find (λ l. bytes_eq l.name name) ls

abbrev pub is_new_local : Context → Named → Bool
is_new_local c name = is_none (local_named c.locals name)

-- what a simple name means where a variable may stand: a local hides a field (JLS 6.4.1, 6.5.6.1)
pub data Meaning : Type 0 where
  a_local : Local → Meaning
  a_field : Field → Meaning
  no_variable : Meaning

abbrev pub field_or_none : Option Field → Meaning
field_or_none None = no_variable
field_or_none (Some f) = a_field f

abbrev pub meaning_in : Option Local → Option Field → Meaning
meaning_in None f = field_or_none f
meaning_in (Some l) f = a_local l

abbrev pub meaning_of : Context → Named → Meaning
meaning_of c name = meaning_in (local_named c.locals name) (field_of (world_at c) c.class name)

abbrev pub is_no_variable : Meaning → Bool
is_no_variable no_variable = true
is_no_variable _ = false

-- the type that an expression before a dot names: a simple name that means no variable (JLS 6.5.2)
abbrev pub type_before_dot : Context → source.PlainExpr → Option Named
type_before_dot c (source.simple_name at x) = if is_no_variable (meaning_of c x) && has_type (world_at c) x then Some x else None
type_before_dot c _ = None

-- each type that is named is there
abbrev pub is_known : Context → TypeName → Bool
is_known c ty = list_all (has_type (world_at c)) (class_names ty)

abbrev pub superclass_at : Context → Option Named
superclass_at c = option_and_then (λ t. t.superclass) (type_named (world_at c) c.class)

abbrev pub is_interface : Context → Named → Bool
is_interface c name = option_map_or (λ t. t.interface) (type_named (world_at c) name) false

abbrev pub is_abstract_type : Context → Named → Bool
is_abstract_type c name = option_map_or (λ t. t.is_abstract) (type_named (world_at c) name) false

-- ---- constants

-- no simple name in a constant expression is that of a local
abbrev pub names_no_local : Context → source.PlainExpr → Bool
names_no_local c (source.simple_name at x) = is_new_local c x
names_no_local c (source.paren at e) = names_no_local c e
names_no_local c (source.dot at e name) = names_no_local c e
names_no_local c (source.unary at o e) = names_no_local c e
names_no_local c (source.cast at ty e) = names_no_local c e
names_no_local c (source.binary at o a b) = names_no_local c a && names_no_local c b
names_no_local c (source.conditional at t a b) = names_no_local c t && (names_no_local c a && names_no_local c b)
names_no_local c _ = true

pub record IsConstantHere (c : Context) (e : source.PlainExpr) (v : Value) : Type 0 where
  pub constant : IsConstant c.units c.class e v
  pub of_fields : names_no_local c e ≡ true

-- the value of an expression as a constant, where it has one
pub data Worth (c : Context) (e : source.PlainExpr) : Option Value → Type 0 where
  a_constant : {v : Value} → IsConstantHere c e v → Worth c e (Some v)
  no_constant : ((v : Value) → IsConstantHere c e v → ⊥) → Worth c e None

-- the value of a field as a constant variable
pub data FieldWorth (c : Context) (f : Field) : Option Value → Type 0 where
  constant_variable : {v : Value} → IsConstantField c.units f v → FieldWorth c f (Some v)
  no_constant_variable : ((v : Value) → IsConstantField c.units f v → ⊥) → FieldWorth c f None

-- ---- access and assignment

-- a private field is open to its own type alone (JLS 6.6.1)
abbrev pub is_open : Context → Field → Bool
is_open c f = not f.is_private || bytes_eq f.class c.class

-- how a field that is assigned is named: by its simple name, behind `this` and a dot, or in any other way
pub data Way : Type 0 where
  by_name : Way
  by_this : Way
  otherwise : Way

abbrev pub way_behind : source.PlainExpr → Way
way_behind (source.this_value at) = by_this
way_behind _ = otherwise

abbrev pub is_absent : source.PlainOption → Bool
is_absent source.absent = true
is_absent (source.present e) = false

-- a final field without an initialiser (JLS 8.3.1.2)
abbrev pub is_blank : Context → Field → Bool
is_blank c f = is_absent (initialiser_of c.units f)

abbrev pub allows : Finals → Way → Bool → Bool
allows instance_finals by_name is_static = not is_static
allows instance_finals by_this is_static = not is_static
allows static_finals by_name is_static = is_static
allows _ _ is_static = false

-- a field that may be assigned where it is named in this way
abbrev pub is_assignable : Context → Way → Field → Bool
is_assignable c way f = not f.is_final || (bytes_eq f.class c.class && (is_blank c f && allows c.finals way f.is_static))
