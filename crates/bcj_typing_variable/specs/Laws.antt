-- With the parts of a context in their places, what a field becomes is what the rules say of it.
use Rattle.std.specs.Prelude.{◌≡◌, [], Option, if◌then◌else◌}
use Rattle.bcj_symbolic_trees.specs.Types.{given}
use Rattle.bcj_decl_rules.specs.declared.value.Value.{Value}
use Rattle.bcj_decl_rules.specs.World.{Named, Field}
use Rattle.bcj_typing_rules.specs.Context.{Context, a_field, is_open, is_assignable, Way, by_name, otherwise}
use Rattle.bcj_typing_rules.specs.Expressions as spec
use Rattle.bcj_typing_variable.specs.Fields as fields

-- a field that a simple name means, read and assigned
abbrev pub OwnTypingIs : Type 0
OwnTypingIs = (c : Context) (f : Field) → spec.typing (fields.read_here c.class f) (given f.ty) [] ≡ spec.name_typing c (a_field f)

abbrev pub OwnPlacingIs : Type 0
OwnPlacingIs = (c : Context) (f : Field) → fields.own_placing c.class (is_assignable c by_name f) f ≡ spec.name_placing c (a_field f)

-- one behind a type's name that is assigned
abbrev pub TypePlacingIs : Type 0
TypePlacingIs = (c : Context) (class : Named) (f : Field) → fields.type_field_placing class (is_assignable c otherwise f) (is_open c f) f ≡ spec.type_field_placing c class f

-- one behind an expression that is assigned
abbrev pub BehindPlacingIs : Type 0
BehindPlacingIs =
    (c : Context) (way : Way) (t : spec.Typing) (class : Named) (f : Field)
    → fields.behind_field_placing t class (is_assignable c (if f.is_static then otherwise else way) f) (is_open c f) f ≡ spec.behind_field_placing c way t class f

-- one behind `super`, read and assigned
abbrev pub SuperTypingIs : Type 0
SuperTypingIs = (c : Context) (class : Named) (v : Option Value) (f : Field) → fields.super_field_typing c.class class v f ≡ spec.super_field_typing c class v f

abbrev pub SuperPlacingIs : Type 0
SuperPlacingIs = (c : Context) (class : Named) (f : Field) → fields.super_field_placing c.class class (is_assignable c otherwise f) (is_open c f) f ≡ spec.super_field_placing c class f
