-- Worked rows: small units, and what the world says of them.
use Rattle.std.specs.Prelude.{◌≡◌, refl, true, false, List, [], ◌∷◌, map, Option, None, Some, option_map, codes}
use Rattle.std.specs.Option.{option_map_or}
use Rattle.bcj_parser_trees.specs.declared.names.Base.TheVariants as base
use Rattle.bcj_parser_trees.specs.declared.names.TypeName.{TypeName}
use Rattle.bcj_parser_trees.specs.declared.names.Access.TheVariants as access
use Rattle.bcj_parser_trees.specs.declared.names.Mods.{Mods}
use Rattle.bcj_parser_trees.specs.declared.names.Param.{Param}
use Rattle.bcj_parser_trees.specs.Trees.{int_literal, absent, present, with_body, no_stmts, PlainMember, field_member, method_member, PlainType, PlainUnit}
use Rattle.bcj_decl_rules.specs.World.{Named, World, world_of, type_named}
use Rattle.bcj_decl_rules.specs.Members.{visits, field_of, methods_of_type}

abbrev pub int_name : TypeName
int_name = record { base = base.Int; dims = 0 }

abbrev pub unmodified : Mods
unmodified = record { access = access.Open; is_static = false; is_abstract = false; is_final = false }

abbrev pub hidden : Mods
hidden = record unmodified { access = access.Private }

abbrev pub fixed : Mods
fixed = record unmodified { is_static = true; is_final = true }

abbrev pub class_with : Named → List Named → List Named → List PlainMember → PlainType
class_with name extends implements members =
    record { at = 0; interface = false; is_abstract = false; name = name; extends = extends; implements = implements; members = members }

abbrev pub interface_with : Named → List Named → List PlainMember → PlainType
interface_with name extends members =
    record { at = 0; interface = true; is_abstract = false; name = name; extends = extends; implements = []; members = members }

abbrev pub method_with : Mods → Named → List Param → PlainMember
method_with mods name params = method_member 0 mods int_name name params [] (with_body no_stmts)

-- interface J { } interface I extends J { int k = 3; } class A { int x; int m() { .. } }
-- class B extends A { private int x; private int m() { .. } } class C extends B implements I { }
abbrev pub unit : PlainUnit
unit =
    interface_with (codes "J") [] []
    ∷ interface_with (codes "I") (codes "J" ∷ []) (field_member 0 unmodified int_name (codes "k") (present (int_literal 0 3 true)) ∷ [])
    ∷ class_with (codes "A") [] [] (field_member 0 unmodified int_name (codes "x") absent ∷ method_with unmodified (codes "m") [] ∷ [])
    ∷ class_with (codes "B") (codes "A" ∷ []) [] (field_member 0 hidden int_name (codes "x") absent ∷ method_with hidden (codes "m") [] ∷ [])
    ∷ class_with (codes "C") (codes "B" ∷ []) (codes "I" ∷ []) []
    ∷ []

abbrev pub world : World
world = world_of (unit ∷ [])

abbrev pub names_above : Named → List Named
names_above name = option_map_or (λ t. map (λ v. v.type.name) (visits world t)) (type_named world name) []

pub order_row : names_above (codes "C") ≡ codes "C" ∷ codes "B" ∷ codes "A" ∷ codes "Object" ∷ codes "I" ∷ codes "J" ∷ []
unfolding world_of
order_row = refl

abbrev pub declarer : Named → Named → Option Named
declarer class name = option_map (λ f. f.class) (field_of world class name)

-- a private field is found in its own type, hides there what it would inherit, and passes to no other type
pub private_row : declarer (codes "B") (codes "x") ≡ Some (codes "B")
unfolding world_of field_of
private_row = refl

pub hidden_row : declarer (codes "C") (codes "x") ≡ None
unfolding world_of field_of
hidden_row = refl

pub inherited_row : declarer (codes "C") (codes "k") ≡ Some (codes "I")
unfolding world_of field_of
inherited_row = refl

abbrev pub method_declarers : Named → List (Named × Named)
method_declarers name = option_map_or (λ t. map (λ m. (m.class, m.name)) (methods_of_type world t)) (type_named world name) []

-- the default constructors, and of `m` nothing in C
pub methods_row : method_declarers (codes "C") ≡ (codes "C", codes "<init>") ∷ []
unfolding world_of methods_of_type
methods_row = refl

pub own_methods_row : method_declarers (codes "B") ≡ (codes "B", codes "<init>") ∷ (codes "B", codes "m") ∷ []
unfolding world_of methods_of_type
own_methods_row = refl
