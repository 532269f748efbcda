-- What a declaration must not be (JLS 8.1, 8.3, 8.4, 8.8, 9.1, 9.3, 9.4), each with its place, and which refusal comes first.
use Rattle.std.specs.Prelude.{◌≡◌, ◌≤◌, ◌<◌, ◌⊎◌, ℕ, Bool, true, false, not, ◌&&◌, ◌||◌, List, [], ◌∷◌, ◌++◌, map, length, Option, None, Some}
use Rattle.std.specs.List.{find, list_any, Contains, flat_map}
use Rattle.std.specs.Str.{bytes_eq}
use Rattle.bcj_parser_trees.specs.declared.names.Base.TheVariants as base
use Rattle.bcj_parser_trees.specs.declared.names.TypeName.{TypeName}
use Rattle.bcj_parser_trees.specs.declared.names.Access.TheVariants as access
use Rattle.bcj_parser_trees.specs.declared.names.Mods.{Mods}
use Rattle.bcj_parser_trees.specs.declared.names.Param.{Param}
use Rattle.bcj_parser_trees.specs.Trees.{PlainOption, absent, PlainBody, no_body, with_body, PlainFirst, PlainStmts, PlainMember, field_member, method_member, constructor_member, static_member, PlainType, PlainUnit}
use Rattle.bcj_symbolic_trees.specs.declared.class_tree.MethodKind.TheVariants as kind
use Rattle.bcj_symbolic_trees.specs.Same.{same_type, same_types}
use Rattle.bcj_decl_rules.specs.World.{Named, Method, Declared, World, boot_types, source_types, world_of, has_type, type_named, declared_type, interfaces_of, method_in, param_types, is_private}
use Rattle.bcj_decl_rules.specs.Subtypes.{ProperSub}
use Rattle.bcj_decl_rules.specs.Members.{class_chain, same_signature, Passes}

-- `file` counts the units
pub record Place : Type 0 where
  pub file : ℕ
  pub at : ℕ

pub data Refusal : Type 0 where
  duplicate : Named → Refusal
  unknown : Named → Refusal
  bad_hierarchy : Refusal
  bad_member : Refusal

-- at one place the lowest number decides
abbrev pub rank : Refusal → ℕ
rank (duplicate name) = 1
rank (unknown name) = 2
rank bad_hierarchy = 3
rank bad_member = 4

-- ---- unknown names

abbrev pub class_names : TypeName → List Named
class_names t = elim t.base [ base.Named name ↦ name ∷ [] | _ ↦ [] ]

-- the type names of a member in text order
abbrev pub names_in : PlainMember → List Named
names_in (field_member at mods ty name init) = class_names ty
names_in (method_member at mods result name params throws body) = class_names result ++ (flat_map (λ p. class_names p.ty) params ++ throws)
names_in (constructor_member at mods name params throws first body) = flat_map (λ p. class_names p.ty) params ++ throws
names_in (static_member at body) = []

abbrev pub first_unknown : World → List Named → Option Named
first_unknown w names = find (λ name. not (has_type w name)) names

abbrev pub stands_twice : List Named → Bool
stands_twice [] = false
stands_twice (name ∷ names) = list_any (bytes_eq name) names || stands_twice names

-- ---- heads

abbrev pub is_abstract : Method → Bool
is_abstract m = elim m.kind [ kind.Abstract ↦ true | _ ↦ false ]

abbrev pub is_static : Method → Bool
is_static m = elim m.kind [ kind.Static ↦ true | _ ↦ false ]

abbrev pub same_truth : Bool → Bool → Bool
same_truth true b = b
same_truth false b = not b

abbrev pub has_same_result : Method → Method → Bool
has_same_result m n = same_type m.result n.result

-- the first method of a name, its parameters and result in the class chain that is neither static nor private
abbrev pub can_implement : Method → Method → Bool
can_implement m n = same_signature m n && (has_same_result m n && (not (is_static n) && not n.is_private))

abbrev pub implementation : World → Declared → Method → Option Method
implementation w t m = find (can_implement m) (flat_map (λ v. v.type.methods) (class_chain w t))

abbrev pub is_implemented : World → Declared → Method → Bool
is_implemented w t m = elim (implementation w t m) [ None ↦ false | Some n ↦ not (is_abstract n) ]

-- a class that isn't abstract inherits an abstract method, which no declaration of its own hides
abbrev pub lacks_body : World → Declared → Method → Bool
lacks_body w t m = is_abstract m && (not (list_any (same_signature m) t.methods) && not (is_implemented w t m))

-- the type in the list of types behind these
pub data HeadFault (w : World) (before : List PlainType) (t : PlainType) : Refusal → Type 0 where
  second_of_name : has_type (boot_types ++ map declared_type before) t.name ≡ true → HeadFault w before t (duplicate t.name)
  unknown_name : {name : Named} → first_unknown w (t.extends ++ t.implements) ≡ Some name → HeadFault w before t (unknown name)
  extends_interface : {name : Named} {d : Declared} → t.interface ≡ false → Contains t.extends name → type_named w name ≡ Some d → d.interface ≡ true → HeadFault w before t bad_hierarchy
  class_for_interface : {name : Named} {d : Declared} → Contains (interfaces_of t) name → type_named w name ≡ Some d → d.interface ≡ false → HeadFault w before t bad_hierarchy
  named_twice : stands_twice (interfaces_of t) ≡ true → HeadFault w before t bad_hierarchy
  own_supertype : ProperSub w t.name t.name → HeadFault w before t bad_hierarchy
  lacks_method : {m : Method} → t.interface ≡ false → t.is_abstract ≡ false → Passes w (declared_type t) m → lacks_body w (declared_type t) m ≡ true
      → HeadFault w before t bad_member

-- ---- members

abbrev pub has_body : PlainBody → Bool
has_body no_body = false
has_body (with_body body) = true

abbrev pub is_restricted : Mods → Bool
is_restricted mods = elim mods.access [ access.Private ↦ true | access.Protected ↦ true | _ ↦ false ]

abbrev pub param_names : List Param → List Named
param_names = map (λ p. p.name)

-- the names of fields, and the methods and constructors as declared
abbrev pub is_field_of : Named → PlainMember → Bool
is_field_of name (field_member at mods ty other init) = bytes_eq other name
is_field_of name _ = false

abbrev pub is_method_of : Named → List Param → PlainMember → Bool
is_method_of name params (method_member at mods result other others throws body) = bytes_eq other name && same_types (param_types others) (param_types params)
is_method_of name params _ = false

abbrev pub is_constructor_of : List Param → PlainMember → Bool
is_constructor_of params (constructor_member at mods name others throws first body) = same_types (param_types others) (param_types params)
is_constructor_of params _ = false

-- a method of a class or interface that stands behind these members, `d` being the method that it declares
pub data MethodFault (w : World) (t : PlainType) (before : List PlainMember) : Mods → List Param → PlainBody → Method → Type 0 where
  second_method : {mods : Mods} {params : List Param} {body : PlainBody} {d : Method} → list_any (is_method_of d.name params) before ≡ true → MethodFault w t before mods params body d
  parameter_twice : {mods : Mods} {params : List Param} {body : PlainBody} {d : Method} → stands_twice (param_names params) ≡ true → MethodFault w t before mods params body d
  another_result : {mods : Mods} {params : List Param} {body : PlainBody} {d : Method} (n : Method) → Passes w (declared_type t) n → same_signature d n ≡ true
      → has_same_result d n ≡ false → MethodFault w t before mods params body d
  static_and_not : {mods : Mods} {params : List Param} {body : PlainBody} {d : Method} (n : Method) → Passes w (declared_type t) n → same_signature d n ≡ true
      → same_truth (is_static d) (is_static n) ≡ false → MethodFault w t before mods params body d
  private_beside_inherited : {mods : Mods} {params : List Param} {body : PlainBody} {d : Method} (n : Method) → d.is_private ≡ true → Passes w (declared_type t) n
      → same_signature d n ≡ true → MethodFault w t before mods params body d
  abstract_in_class : {mods : Mods} {params : List Param} {body : PlainBody} {d : Method} → t.interface ≡ false → t.is_abstract ≡ false → mods.is_abstract ≡ true
      → MethodFault w t before mods params body d
  body_of_abstract : {mods : Mods} {params : List Param} {body : PlainBody} {d : Method} → is_abstract d ≡ true → has_body body ≡ true → MethodFault w t before mods params body d
  body_missing : {mods : Mods} {params : List Param} {body : PlainBody} {d : Method} → is_abstract d ≡ false → has_body body ≡ false → MethodFault w t before mods params body d
  static_abstract : {mods : Mods} {params : List Param} {body : PlainBody} {d : Method} → (mods.is_static && mods.is_abstract) ≡ true → MethodFault w t before mods params body d
  private_abstract : {mods : Mods} {params : List Param} {body : PlainBody} {d : Method} → (is_private mods && mods.is_abstract) ≡ true → MethodFault w t before mods params body d
  interface_modifier : {mods : Mods} {params : List Param} {body : PlainBody} {d : Method} → t.interface ≡ true → (mods.is_static || is_restricted mods) ≡ true
      → MethodFault w t before mods params body d

-- a member that stands behind these members of its type
pub data MemberFault (w : World) (t : PlainType) (before : List PlainMember) : PlainMember → Refusal → Type 0 where
  unknown_name : {m : PlainMember} {name : Named} → first_unknown w (names_in m) ≡ Some name → MemberFault w t before m (unknown name)
  second_field : {at : ℕ} {mods : Mods} {ty : TypeName} {name : Named} {init : PlainOption} → list_any (is_field_of name) before ≡ true
      → MemberFault w t before (field_member at mods ty name init) bad_member
  field_modifier : {at : ℕ} {mods : Mods} {ty : TypeName} {name : Named} {init : PlainOption} → (mods.is_abstract || (t.interface && is_restricted mods)) ≡ true
      → MemberFault w t before (field_member at mods ty name init) bad_member
  interface_field : {at : ℕ} {mods : Mods} {ty : TypeName} {name : Named} → t.interface ≡ true → MemberFault w t before (field_member at mods ty name absent) bad_member
  in_method : {at : ℕ} {mods : Mods} {result : TypeName} {name : Named} {params : List Param} {throws : List Named} {body : PlainBody} {d : Method}
      → method_in t.interface t.name (method_member at mods result name params throws body) ≡ Some d → MethodFault w t before mods params body d
      → MemberFault w t before (method_member at mods result name params throws body) bad_member
  second_constructor : {at : ℕ} {mods : Mods} {name : Named} {params : List Param} {throws : List Named} {first : PlainFirst} {body : PlainStmts} → list_any (is_constructor_of params) before ≡ true
      → MemberFault w t before (constructor_member at mods name params throws first body) bad_member
  constructor_modifier : {at : ℕ} {mods : Mods} {name : Named} {params : List Param} {throws : List Named} {first : PlainFirst} {body : PlainStmts} → (mods.is_static || mods.is_abstract) ≡ true
      → MemberFault w t before (constructor_member at mods name params throws first body) bad_member
  constructor_name : {at : ℕ} {mods : Mods} {name : Named} {params : List Param} {throws : List Named} {first : PlainFirst} {body : PlainStmts} → bytes_eq name t.name ≡ false
      → MemberFault w t before (constructor_member at mods name params throws first body) bad_member
  constructor_parameter : {at : ℕ} {mods : Mods} {name : Named} {params : List Param} {throws : List Named} {first : PlainFirst} {body : PlainStmts} → stands_twice (param_names params) ≡ true
      → MemberFault w t before (constructor_member at mods name params throws first body) bad_member

-- ---- places

abbrev pub member_at : PlainMember → ℕ
member_at (field_member at mods ty name init) = at
member_at (method_member at mods result name params throws body) = at
member_at (constructor_member at mods name params throws first body) = at
member_at (static_member at body) = at

-- a type stands in a list of units: the number of its file, and all types that stand before it
pub data StandsIn (units : List PlainUnit) : ℕ → List PlainType → PlainType → Type 0 where
  here : (earlier later : List PlainUnit) (before behind : List PlainType) {t : PlainType} → units ≡ earlier ++ (before ++ t ∷ behind) ∷ later
      → StandsIn units (length earlier) (source_types earlier ++ before) t

-- each fault of a list of units with its place
pub data FaultAt (units : List PlainUnit) : Place → Refusal → Type 0 where
  in_head : {file : ℕ} {before : List PlainType} {t : PlainType} {r : Refusal} → StandsIn units file before t → HeadFault (world_of units) before t r
      → FaultAt units (record { file = file; at = t.at }) r
  in_member : {file : ℕ} {before : List PlainType} {t : PlainType} {m : PlainMember} {r : Refusal} (earlier later : List PlainMember) → StandsIn units file before t → t.members ≡ earlier ++ m ∷ later
      → MemberFault (world_of units) t earlier m r → FaultAt units (record { file = file; at = member_at m }) r

-- the files in their order, and in a file the bytes
abbrev pub ComesBefore : Place → Place → Type 0
ComesBefore p q = (p.file < q.file) ⊎ ((p.file ≡ q.file) × (p.at < q.at))

-- no fault has an earlier place, and none at this place a lower number
pub record IsFirstFault (units : List PlainUnit) (p : Place) (r : Refusal) : Type 0 where
  pub is_fault : FaultAt units p r
  pub earliest : (q : Place) (s : Refusal) → FaultAt units q s → ComesBefore q p → ⊥
  pub lowest : (s : Refusal) → FaultAt units p s → rank r ≤ rank s

-- `declared`: nothing is refused
abbrev pub IsDeclared : List PlainUnit → Type 0
IsDeclared units = (p : Place) (r : Refusal) → FaultAt units p r → ⊥
