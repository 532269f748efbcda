-- What a field or an element that is named becomes (JLS 6.5.6, 15.11, 15.13, 15.26), by the parts of the context that it needs.
use Rattle.std.specs.Prelude.{Bool, false, List, [], ◌++◌, Option, None, Some, if◌then◌else◌}
use Rattle.bcj_symbolic_trees.specs.Trees as tree
use Rattle.bcj_symbolic_trees.specs.Types.{int_type, class_type, given}
use Rattle.bcj_symbolic_trees.specs.Units.{PlainPair}
use Rattle.bcj_decl_rules.specs.declared.value.Value.{Value}
use Rattle.bcj_decl_rules.specs.World.{Named, Field}
use Rattle.bcj_typing_rules.specs.Casting.{uses}
use Rattle.bcj_typing_rules.specs.Expressions.{Typing, typing, Placing, placing, no_placing, field_ref, this_tree, value_tree, element_or_void}

-- a field of this object, or a static one
abbrev pub read_here : Named → Field → tree.PlainExpr
read_here class f = if f.is_static then tree.get_static (field_ref class f) else tree.get_field this_tree (field_ref class f)

abbrev pub place_here : Named → Field → tree.PlainPlace
place_here class f = if f.is_static then tree.static_place (field_ref class f) else tree.field_place this_tree (field_ref class f)

abbrev pub own_placing : Named → Bool → Field → Placing
own_placing class assignable f = record (placing (place_here class f) f.ty) { assignable = assignable }

abbrev pub type_field_placing : Named → Bool → Bool → Field → Placing
type_field_placing class assignable open_here f =
    record (placing (tree.static_place (field_ref class f)) f.ty) { assignable = assignable; open_here = open_here }

abbrev pub behind_field_placing : Typing → Named → Bool → Bool → Field → Placing
behind_field_placing t class assignable open_here f =
    record {
      first = if f.is_static then Some t.tree else None;
      place = if f.is_static then tree.static_place (field_ref class f) else tree.field_place t.tree (field_ref class f);
      type = f.ty;
      steps = t.steps;
      assignable = assignable;
      open_here = open_here;
    }

-- from the class of the body to the one that the reference names
abbrev pub class_step : Named → Named → List PlainPair
class_step own class = uses (given (class_type own)) (class_type class)

abbrev pub super_field_typing : Named → Named → Option Value → Field → Typing
super_field_typing own class (Some v) f = typing (value_tree v) (given f.ty) []
super_field_typing own class None f = typing (read_here class f) (given f.ty) (class_step own class)

abbrev pub super_field_placing : Named → Named → Bool → Bool → Field → Placing
super_field_placing own class assignable open_here f =
    record {
      first = None;
      place = place_here class f;
      type = f.ty;
      steps = class_step own class;
      assignable = assignable;
      open_here = open_here;
    }

-- an element of an array (JLS 15.13)
abbrev pub element_placing : Typing → Typing → Placing
element_placing s t = record (placing (tree.element_place s.tree t.tree) (element_or_void s.type)) { steps = s.steps ++ t.steps }

-- the length of an array is final (JLS 10.7)
abbrev pub length_placing : Placing
length_placing = record no_placing { type = int_type; assignable = false }
