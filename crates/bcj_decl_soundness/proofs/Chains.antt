-- Chains of named steps, and that nothing stands above Object.
use Rattle.std.proofs.Common.{◌≡◌, List, [], Option, Some, None, refl, sym, ◌∙◌, ap, subst, ◌<◌, length, arith}
use Rattle.bcj_parser_trees.specs.Trees.{PlainUnit}
use Rattle.bcj_symbolic_trees.specs.Types.{class_type, array_type}
use Rattle.bcj_symbolic_trees.specs.Names.{object_name}
use Rattle.bcj_decl_rules.specs.World.{Named, Declared, World, world_of, type_named}
use Rattle.bcj_decl_rules.specs.Subtypes.{Sub, same, through, StepsTo, direct_supertypes, Subtype, itself, of_class, of_component, of_array}
use Rattle.bcj_decl_soundness.specs.Laws as law

-- one chain behind another
pub joined : (w : World) (s u t : Named) → Sub w s u → Sub w u t → Sub w s t
joined w s u t same q = q
joined w s u t (through first rest) q = through first (joined w _ u t rest q)

pub each_is_its_own : law.EachIsItsOwnSubtype
each_is_its_own w t = itself

-- the type that is named Object
abbrev pub object_supertypes : Option Declared → List Named
object_supertypes None = []
object_supertypes (Some t) = direct_supertypes t

pub object-supertypes : (units : List PlainUnit) → object_supertypes (type_named (world_of units) object_name) ≡ []
unfolding world_of
object-supertypes units = refl

-- no step leads from Object
pub object_steps : (units : List PlainUnit) (t : Named) → StepsTo (world_of units) object_name t → ⊥
object_steps units t s =
    let none : direct_supertypes s.type ≡ [] = ap object_supertypes (sym s.is_it) ∙ object-supertypes units in
    let inside : s.names_it.0 < length (direct_supertypes s.type) = s.names_it.1 in
    omega (arith, ap length none)

pub above_object : (units : List PlainUnit) (t : Named) → Sub (world_of units) object_name t → t ≡ object_name
above_object units t same = refl
above_object units t (through first rest) = absurd (object_steps units _ first)

pub subtypes_go_on : law.SubtypesGoOn
subtypes_go_on units s u t itself q = q
subtypes_go_on units s u t (of_class a) itself = of_class a
subtypes_go_on units s u t (of_class a) (of_class b) = of_class (joined (world_of units) _ _ _ a b)
subtypes_go_on units s u t (of_component r a) itself = of_component r a
subtypes_go_on units s u t (of_component r a) (of_component k b) = of_component r (subtypes_go_on units _ _ _ a b)
subtypes_go_on units s u t (of_component r a) of_array = of_array
subtypes_go_on units s u t of_array itself = of_array
subtypes_go_on units (array_type s) u (class_type t) of_array (of_class b) =
    let P : Named → Type 0 = λ n. Subtype (world_of units) (array_type s) (class_type n) in
    subst P (sym (above_object units t b)) of_array
