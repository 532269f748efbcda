-- The faults of a member as tests, beside what is inherited, which needs a search.
use Rattle.std.specs.Prelude.{◌≡◌, Bool, true, false, not, ◌&&◌, ◌||◌, ◌⊎◌, List}
use Rattle.std.specs.List.{list_any}
use Rattle.std.specs.Str.{bytes_eq}
use Rattle.bcj_parser_trees.specs.declared.names.Mods.{Mods}
use Rattle.bcj_parser_trees.specs.declared.names.Param.{Param}
use Rattle.bcj_parser_trees.specs.Trees.{PlainOption, absent, present, PlainBody, PlainMember, field_member, method_member, constructor_member, static_member, PlainType}
use Rattle.bcj_symbolic_trees.specs.declared.class_tree.MethodKind.{MethodKind}
use Rattle.bcj_symbolic_trees.specs.declared.class_tree.MethodKind.TheVariants as kind
use Rattle.bcj_decl_rules.specs.World.{Named, Method, Declared, World, declared_type, method_with, is_private}
use Rattle.bcj_decl_rules.specs.Members.{same_signature, Passes}
use Rattle.bcj_decl_rules.specs.Faults.{stands_twice, is_abstract, is_static, same_truth, has_same_result, has_body, is_restricted, param_names, is_field_of, is_method_of, is_constructor_of}

-- the kind of a static method
abbrev pub is_static_kind : MethodKind → Bool
is_static_kind k = elim k [ kind.Static ↦ true | _ ↦ false ]

-- another result, static and not, or hidden by a private method
abbrev pub is_at_odds : Method → Method → Bool
is_at_odds d n = not (has_same_result d n) || (not (same_truth (is_static d) (is_static n)) || d.is_private)

-- a method passes to the type that is at odds with one of its name and parameters
pub record Clash (w : World) (t : Declared) (d : Method) : Type 0 where
  pub other : Method
  pub passes : Passes w t other
  pub same : same_signature d other ≡ true
  pub at_odds : is_at_odds d other ≡ true

-- modifiers that a method of this type can't have
abbrev pub has_wrong_modifier : Bool → Bool → Mods → Bool
has_wrong_modifier interface abstract_type mods =
    (not interface && (not abstract_type && mods.is_abstract))
    || ((mods.is_static && mods.is_abstract) || ((is_private mods && mods.is_abstract) || (interface && (mods.is_static || is_restricted mods))))

-- an abstract method with a body, or another without one
abbrev pub has_wrong_body : Bool → PlainBody → Bool
has_wrong_body abstract_method body = same_truth abstract_method (has_body body)

-- a field without initialiser
abbrev pub is_absent : PlainOption → Bool
is_absent absent = true
is_absent (present e) = false

-- ---- the members themselves, whatever stands before them

-- the modifiers and the initialiser of a field
abbrev pub is_wrong_field : Bool → Mods → PlainOption → Bool
is_wrong_field interface mods init = (mods.is_abstract || (interface && is_restricted mods)) || (interface && is_absent init)

-- the parameters, the body and the modifiers of a method
abbrev pub is_wrong_method : Bool → Bool → Mods → List Param → PlainBody → Bool → Bool
is_wrong_method interface abstract_type mods params body abstract_method =
    stands_twice (param_names params) || (has_wrong_body abstract_method body || has_wrong_modifier interface abstract_type mods)

-- the modifiers, the name and the parameters of a constructor
abbrev pub is_wrong_constructor : Named → Mods → Named → List Param → Bool
is_wrong_constructor type_name mods name params = (mods.is_static || mods.is_abstract) || (not (bytes_eq name type_name) || stands_twice (param_names params))

-- the method that a member declares has a fault in itself or is at odds with what passes to the type
abbrev pub IsWrongMethod : World → PlainType → Mods → List Param → PlainBody → Method → Type 0
IsWrongMethod w t mods params body d = (is_wrong_method t.interface t.is_abstract mods params body (is_abstract d) ≡ true) ⊎ Clash w (declared_type t) d

-- a member is wrong in itself, or at odds with what passes to the type
abbrev pub IsWrong : World → PlainType → PlainMember → Type 0
IsWrong w t (field_member at mods ty name init) = is_wrong_field t.interface mods init ≡ true
IsWrong w t (method_member at mods result name params throws body) = IsWrongMethod w t mods params body (method_with t.interface t.name mods result name params)
IsWrong w t (constructor_member at mods name params throws first body) = is_wrong_constructor t.name mods name params ≡ true
IsWrong w t (static_member at body) = ⊥

-- ---- the members behind others

-- a method stands before already, or is wrong in itself
abbrev pub has_method_fault : PlainType → List PlainMember → Mods → List Param → PlainBody → Method → Bool
has_method_fault t before mods params body d =
    list_any (is_method_of d.name params) before || is_wrong_method t.interface t.is_abstract mods params body (is_abstract d)

-- a field
abbrev pub has_field_fault : PlainType → List PlainMember → Mods → Named → PlainOption → Bool
has_field_fault t before mods name init = list_any (is_field_of name) before || is_wrong_field t.interface mods init

-- a constructor
abbrev pub has_constructor_fault : PlainType → List PlainMember → Mods → Named → List Param → Bool
has_constructor_fault t before mods name params = list_any (is_constructor_of params) before || is_wrong_constructor t.name mods name params

-- a member has another fault than an unknown name
abbrev pub IsBad : World → PlainType → List PlainMember → PlainMember → Type 0
IsBad w t before (field_member at mods ty name init) = has_field_fault t before mods name init ≡ true
IsBad w t before (method_member at mods result name params throws body) =
    let d = method_with t.interface t.name mods result name params in
    (has_method_fault t before mods params body d ≡ true) ⊎ Clash w (declared_type t) d
IsBad w t before (constructor_member at mods name params throws first body) = has_constructor_fault t before mods name params ≡ true
IsBad w t before (static_member at body) = ⊥
