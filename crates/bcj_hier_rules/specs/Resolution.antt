-- What a reference names (JVMS 5.4.3): the type, field or method that it finds, or the error. The qualifying type is loaded first.
use Rattle.std.specs.Prelude.{ℕ, zero, suc, Bool, true, false, not, ◌&&◌, ◌||◌, List, [], ◌∷◌, Option, None, Some, Result, Ok, Err, if◌then◌else◌}
use Rattle.std.specs.List.{find}
use Rattle.std.specs.Option.{option_or, option_map}
use Rattle.std.specs.Str.{bytes_eq}
use Rattle.bcj_symbolic_trees.specs.Types.{PlainTy, int_type, bool_type, void_type, class_type, array_type}
use Rattle.bcj_hier_rules.specs.declared.call_kind.CallKind.{CallKind}
use Rattle.bcj_hier_rules.specs.declared.call_kind.CallKind.TheVariants as call
use Rattle.bcj_hier_rules.specs.declared.link_error.LinkError.{LinkError}
use Rattle.bcj_hier_rules.specs.declared.link_error.LinkError.TheVariants as error
use Rattle.bcj_hier_rules.specs.Shapes.{Named, Field, Method, Shape, Mixture, found, is_static, is_abstract, is_field, is_method, is_constructor_of, Reference}
use Rattle.bcj_hier_rules.specs.Loading.{turns, load_error, is_interface}

-- a member with the type that declares it
pub record FoundField : Type 0 where
  pub class : Named
  pub field : Field

pub record FoundMethod : Type 0 where
  pub class : Named
  pub method : Method

abbrev pub field_there : Shape → Field → FoundField
field_there s f = record { class = s.head.name; field = f }

abbrev pub method_there : Shape → Method → FoundMethod
method_there s m = record { class = s.head.name; method = m }

-- the first answer of a list of names
abbrev pub first_of : {A : Type 0} → (Named → Option A) → List Named → Option A
first_of f [] = None
first_of f (name ∷ rest) = option_or (f name) (first_of f rest)

abbrev pub of_option : {A : Type 0} → (Named → Option A) → Option Named → Option A
of_option f None = None
of_option f (Some name) = f name

-- ---- searches

module _ (m : Mixture) where
  -- the type itself, then its superinterfaces in order, each with its own, and then its superclass (JVMS 5.4.3.2)
  abbrev pub field_within : ℕ → Named → List ℕ → Named → Option FoundField
  field_within zero name desc type = None
  field_within (suc n) name desc type = elim (found m type) [
    | None ↦ None
    | Some s ↦ option_or (option_map (field_there s) (find (is_field name desc) s.fields))
        (option_or (first_of (field_within n name desc) s.head.interfaces) (of_option (field_within n name desc) s.head.superclass))
  ]

  -- the class and its superclasses, from near to far
  abbrev pub class_method_within : ℕ → Named → List ℕ → Named → Option FoundMethod
  class_method_within zero name desc type = None
  class_method_within (suc n) name desc type = elim (found m type) [
    | None ↦ None
    | Some s ↦ option_or (option_map (method_there s) (find (is_method name desc) s.methods)) (of_option (class_method_within n name desc) s.head.superclass)
  ]

  -- an interface, and then its superinterfaces in order, each with its own
  abbrev pub interface_method_within : ℕ → Named → List ℕ → Named → Option FoundMethod
  interface_method_within zero name desc type = None
  interface_method_within (suc n) name desc type = elim (found m type) [
    | None ↦ None
    | Some s ↦ option_or (option_map (method_there s) (find (is_method name desc) s.methods)) (first_of (interface_method_within n name desc) s.head.interfaces)
  ]

  -- the superinterfaces of a class and of its superclasses, from near to far
  abbrev pub inherited_within : ℕ → Named → List ℕ → Named → Option FoundMethod
  inherited_within zero name desc type = None
  inherited_within (suc n) name desc type = elim (found m type) [
    | None ↦ None
    | Some s ↦ option_or (first_of (interface_method_within n name desc) s.head.interfaces) (of_option (inherited_within n name desc) s.head.superclass)
  ]

  abbrev pub found_field : Reference → Option FoundField
  found_field r = field_within (turns m) r.name r.desc r.class

  -- of a class (JVMS 5.4.3.3)
  abbrev pub found_class_method : Reference → Option FoundMethod
  found_class_method r = option_or (class_method_within (turns m) r.name r.desc r.class) (inherited_within (turns m) r.name r.desc r.class)

  -- of an interface (JVMS 5.4.3.4)
  abbrev pub found_interface_method : Reference → Option FoundMethod
  found_interface_method r = interface_method_within (turns m) r.name r.desc r.class

  -- of the class itself alone
  abbrev pub found_constructor : Reference → Option FoundMethod
  found_constructor r = elim (found m r.class) [ None ↦ None | Some s ↦ option_map (method_there s) (find (is_constructor_of r.desc) s.methods) ]

-- ---- what may be used, and how

abbrev pub then_try : {A : Type 0} → Option LinkError → Result A LinkError → Result A LinkError
then_try None r = r
then_try (Some e) r = Err e

abbrev pub or_error : {A : Type 0} → LinkError → Option A → Result A LinkError
or_error e None = Err e
or_error e (Some x) = Ok x

abbrev pub with_found : {A B : Type 0} → Result A LinkError → (A → Result B LinkError) → Result B LinkError
with_found (Ok x) f = f x
with_found (Err e) f = Err e

-- a private member of another type than the one whose code holds the reference
abbrev pub is_hidden : Named → Named → Bool → Bool
is_hidden from class is_private = is_private && not (bytes_eq class from)

abbrev pub same_bool : Bool → Bool → Bool
same_bool true b = b
same_bool false b = not b

-- access is asked before whether the member is static, and that before whether it is abstract
abbrev pub used_field : Named → Bool → FoundField → Result FoundField LinkError
used_field from static f =
    if is_hidden from f.class f.field.is_private
    then Err error.IllegalAccess
    else if same_bool static f.field.is_static then Ok f else Err error.IncompatibleClassChange

abbrev pub wants_static : CallKind → Bool
wants_static call.Static = true
wants_static _ = false

-- a call that takes what is named, whatever the target's class
abbrev pub is_direct : CallKind → Bool
is_direct call.Special = true
is_direct call.Constructor = true
is_direct _ = false

abbrev pub used_method : Named → CallKind → FoundMethod → Result FoundMethod LinkError
used_method from kind f =
    if is_hidden from f.class f.method.is_private
    then Err error.IllegalAccess
    else if not (same_bool (wants_static kind) (is_static f.method))
    then Err error.IncompatibleClassChange
    else if is_direct kind && is_abstract f.method then Err error.AbstractMethod else Ok f

-- ---- references

module _ (m : Mixture) where
  -- a field, for a static use or one of an instance, by code of the type `from`
  abbrev pub resolved_field : Named → Reference → Bool → Result FoundField LinkError
  resolved_field from r static = then_try (load_error m r.class) (with_found (or_error error.NoSuchField (found_field m r)) (used_field from static))

  abbrev pub class_method : Reference → Result FoundMethod LinkError
  class_method r = if is_interface m r.class then Err error.IncompatibleClassChange else or_error error.NoSuchMethod (found_class_method m r)

  abbrev pub called_method : Reference → CallKind → Result FoundMethod LinkError
  called_method r call.Constructor = or_error error.NoSuchMethod (found_constructor m r)
  called_method r _ = class_method r

  -- a method of a class, or a constructor
  abbrev pub resolved_method : Named → Reference → CallKind → Result FoundMethod LinkError
  resolved_method from r kind = then_try (load_error m r.class) (with_found (called_method r kind) (used_method from kind))

  abbrev pub interface_method : Reference → Result FoundMethod LinkError
  interface_method r = if is_interface m r.class then or_error error.NoSuchMethod (found_interface_method m r) else Err error.IncompatibleClassChange

  -- a method of an interface
  abbrev pub resolved_interface : Named → Reference → Result FoundMethod LinkError
  resolved_interface from r = then_try (load_error m r.class) (with_found (interface_method r) (used_method from call.Instance))

  -- the type of the elements, behind all brackets, loads where it is named
  abbrev pub element_error : PlainTy → Option LinkError
  element_error int_type = None
  element_error bool_type = None
  element_error void_type = None
  element_error (class_type name) = load_error m name
  element_error (array_type component) = element_error component

  abbrev pub cannot_be_made : Named → Bool
  cannot_be_made name = elim (found m name) [ None ↦ true | Some s ↦ s.head.is_abstract || s.head.interface ]

  -- a class of which an object is made
  abbrev pub new_error : PlainTy → Option LinkError
  new_error (class_type name) = option_or (load_error m name) (if cannot_be_made name then Some error.Instantiation else None)
  new_error t = element_error t

  -- a type, by `is_new` to make an object of it
  abbrev pub type_error : PlainTy → Bool → Option LinkError
  type_error t is_new = if is_new then new_error t else element_error t
