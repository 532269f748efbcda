-- Calls by what the context answers: what each needs and gives, with the context's parts as arguments.
use Rattle.std.specs.Prelude.{◌≡◌, Bool, false, not, ◌||◌, List, [], ◌∷◌, ◌++◌, map, None, Result, IfOk, if◌then◌else◌}
use Rattle.bcj_symbolic_trees.specs.Trees as tree
use Rattle.bcj_symbolic_trees.specs.Types.{class_type, given}
use Rattle.bcj_symbolic_trees.specs.Plain.{stmt_of}
use Rattle.bcj_symbolic_trees.specs.Units.{PlainPair}
use Rattle.bcj_decl_rules.specs.World.{Named, Method}
use Rattle.bcj_decl_rules.specs.Methods.{Choice, one, none_applies, ambiguous}
use Rattle.bcj_decl_rules.specs.Faults.{is_static, is_abstract}
use Rattle.bcj_typing_rules.specs.declared.kind.Kind.TheVariants as kind
use Rattle.bcj_typing_rules.specs.Premises.{Need, need}
use Rattle.bcj_typing_rules.specs.Casting.{uses}
use Rattle.bcj_typing_rules.specs.Expressions.{Typing, method_ref, this_tree, trees_in, steps_in, argument_steps, called}
use Rattle.bcj_typing_rules.specs.Members.{Added, nothing_added, constructor_call}
use Rattle.bcj_typing_node.specs.declared.typing.Typing as node
use Rattle.bcj_typing_node.specs.Typings.{pairs_of, typing_of}
use Rattle.bcj_typing_call.specs.declared.constructor.Starting.{Starting}

-- ---- by what the method is

-- a call by a simple name in a class, where there is `this` or not
abbrev pub own_needs_by : Bool → Bool → List Need
own_needs_by static has_this = need kind.Static (static || has_this) ∷ []

abbrev pub own_tree_by : Bool → Named → Method → List Typing → tree.PlainExpr
own_tree_by static class m ts =
    if static
    then tree.call_static (method_ref class m) (trees_in ts)
    else tree.call_virtual this_tree (method_ref class m) (trees_in ts)

abbrev pub own_typing_by : Bool → Named → List Typing → Method → Typing
own_typing_by static class ts m = called (own_tree_by static class m ts) m ts (steps_in ts)

-- a call behind a type's name
abbrev pub type_needs_by : Bool → List Need
type_needs_by static = need kind.Static static ∷ []

-- a call behind an expression, whose type is an interface or not
abbrev pub instance_tree_by : Bool → tree.PlainExpr → Named → List Typing → Method → tree.PlainExpr
instance_tree_by on_interface e class ts m =
    if on_interface
    then tree.call_interface e (method_ref class m) (trees_in ts)
    else tree.call_virtual e (method_ref class m) (trees_in ts)

abbrev pub behind_tree_by : Bool → Bool → tree.PlainExpr → Named → List Typing → Method → tree.PlainExpr
behind_tree_by static on_interface e class ts m =
    if static
    then tree.first_then e false (tree.call_static (method_ref class m) (trees_in ts))
    else instance_tree_by on_interface e class ts m

abbrev pub behind_typing_by : Bool → Bool → Typing → Named → List Typing → Method → Typing
behind_typing_by static on_interface t class ts m =
    called (behind_tree_by static on_interface t.tree class ts m) m ts (t.steps ++ steps_in ts)

-- a call behind `super`, which steps from its own class to the superclass
abbrev pub super_needs_by : Bool → Bool → List Need
super_needs_by abstract has_this = need kind.Static has_this ∷ need kind.Abstract (not abstract) ∷ []

abbrev pub class_step : Named → Named → List PlainPair
class_step own class = uses (given (class_type own)) (class_type class)

abbrev pub super_tree_by : Bool → Named → List Typing → Method → tree.PlainExpr
super_tree_by static class ts m =
    if static then tree.call_static (method_ref class m) (trees_in ts) else tree.call_special (method_ref class m) (trees_in ts)

abbrev pub super_typing_by : Bool → Named → Named → List Typing → Method → Typing
super_typing_by static own class ts m = called (super_tree_by static class ts m) m ts (steps_in ts ++ class_step own class)

-- ---- by the method

abbrev pub own_needs : Bool → Method → List Need
own_needs has_this m = own_needs_by (is_static m) has_this

abbrev pub own_typing : Named → List Typing → Method → Typing
own_typing class ts m = own_typing_by (is_static m) class ts m

abbrev pub behind_typing : Bool → Typing → Named → List Typing → Method → Typing
behind_typing on_interface t class ts m = behind_typing_by (is_static m) on_interface t class ts m

abbrev pub super_needs : Bool → Method → List Need
super_needs has_this m = super_needs_by (is_abstract m) has_this

abbrev pub super_typing : Named → Named → List Typing → Method → Typing
super_typing own class ts m = super_typing_by (is_static m) own class ts m

-- a new object of a class that is abstract or not
abbrev pub object_needs : Bool → Method → List Need
object_needs is_abstract m = need kind.Abstract (not is_abstract) ∷ []

-- the first call of a constructor
abbrev pub first_added : Named → Named → List Typing → Choice → Added
first_added own class ts (one m) =
    record { trees = constructor_call class ts m; steps = steps_in ts ++ (class_step own class ++ argument_steps ts m.params) }
first_added own class ts none_applies = nothing_added
first_added own class ts ambiguous = nothing_added

-- a node that nothing but memory can keep from being there, and that is no constant
abbrev pub Makes : {E : Type 0} → Typing → Result node.Typing E → Type 0
Makes t r = IfOk r (λ x. typing_of x ≡ t) × IfOk r (λ x. x.value ≡ None)

abbrev pub starting_of : Starting → Added
starting_of s = record { trees = map stmt_of s.trees; steps = pairs_of s.steps }
