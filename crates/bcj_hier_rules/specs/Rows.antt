-- Examples: a small mixture by hand, with a circle, a missing type, a class where an interface must stand and the reverse.
use Rattle.std.specs.Prelude.{◌≡◌, refl, ℕ, Bool, true, false, List, [], ◌∷◌, Option, None, Some, Ok, Err, codes}
use Rattle.bcj_symbolic_trees.specs.declared.class_tree.MethodKind.{MethodKind}
use Rattle.bcj_symbolic_trees.specs.declared.class_tree.MethodKind.TheVariants as kind
use Rattle.bcj_symbolic_trees.specs.Types.{int_type, class_type, array_type}
use Rattle.bcj_hier_rules.specs.declared.call_kind.CallKind.TheVariants as call
use Rattle.bcj_hier_rules.specs.declared.link_error.LinkError.TheVariants as error
use Rattle.bcj_hier_rules.specs.Shapes.{Named, Field, Method, Shape, Mixture, Reference}
use Rattle.bcj_hier_rules.specs.Loading.{load_error, is_below, implements}
use Rattle.bcj_hier_rules.specs.Trees.{low, high}
use Rattle.bcj_hier_rules.specs.Resolution.{resolved_field, resolved_method, resolved_interface, type_error}
use Rattle.bcj_hier_rules.specs.Selection.{selected, selected_by_interface}
use Rattle.bcj_hier_rules.specs.Linking.{pair_error, instance}

abbrev pub class_with : Named → Option Named → List Named → List Field → List Method → Shape
class_with name superclass interfaces fields methods = record {
  head = record { name = name; interface = false; is_abstract = false; superclass = superclass; interfaces = interfaces };
  fields = fields;
  methods = methods;
  pairs = [];
}

abbrev pub interface_with : Named → List Named → List Method → Shape
interface_with name interfaces methods = record {
  head = record { name = name; interface = true; is_abstract = true; superclass = None; interfaces = interfaces };
  fields = [];
  methods = methods;
  pairs = [];
}

abbrev pub method : Named → MethodKind → Bool → Method
method name kind is_private = record { name = name; desc = codes "()V"; kind = kind; is_private = is_private }

abbrev pub int_field : Named → Bool → Bool → Field
int_field name is_static is_private = record { name = name; desc = codes "I"; is_static = is_static; is_private = is_private }

abbrev pub object : Option Named
object = Some (codes "Object")

-- class Object; interface I { void m(); }; class A implements I { private int x; static int y; void m() { } private void p() { } };
-- class B extends A { void p() { } }; class C extends D; class D extends C; class E extends I; class F implements A; class G extends Gone
abbrev pub some : Mixture
some =
    class_with (codes "Object") None [] [] []
    ∷ interface_with (codes "I") [] (method (codes "m") kind.Abstract false ∷ [])
    ∷ class_with (codes "A") object (codes "I" ∷ []) (int_field (codes "x") false true ∷ int_field (codes "y") true false ∷ [])
    (method (codes "m") kind.Instance false ∷ method (codes "p") kind.Instance true ∷ [])
    ∷ class_with (codes "B") (Some (codes "A")) [] [] (method (codes "p") kind.Instance false ∷ [])
    ∷ class_with (codes "C") (Some (codes "D")) [] [] []
    ∷ class_with (codes "D") (Some (codes "C")) [] [] []
    ∷ class_with (codes "E") (Some (codes "I")) [] [] []
    ∷ class_with (codes "F") object (codes "A" ∷ []) [] []
    ∷ class_with (codes "G") (Some (codes "Gone")) [] [] []
    ∷ []

pub loads_row : load_error some (codes "B") ≡ None
loads_row = refl

pub circle_row : load_error some (codes "C") ≡ Some error.ClassCircularity
circle_row = refl

pub interface_above_row : load_error some (codes "E") ≡ Some error.IncompatibleClassChange
interface_above_row = refl

pub class_beside_row : load_error some (codes "F") ≡ Some error.IncompatibleClassChange
class_beside_row = refl

pub missing_row : load_error some (codes "G") ≡ Some error.NoClassDefFound
missing_row = refl

pub below_row : is_below some (codes "B") (codes "A") ≡ true
below_row = refl

pub implements_row : implements some (codes "B") (codes "I") ≡ true
implements_row = refl

abbrev pub reference : Named → Named → List ℕ → Reference
reference class name desc = record { class = class; name = name; desc = desc }

-- a private field is found through a subclass, and hidden there
pub hidden_row : resolved_field some (codes "B") (reference (codes "B") (codes "x") (codes "I")) false ≡ Err error.IllegalAccess
hidden_row = refl

pub static_row : resolved_field some (codes "B") (reference (codes "B") (codes "y") (codes "I")) false ≡ Err error.IncompatibleClassChange
static_row = refl

pub field_row : resolved_field some (codes "B") (reference (codes "B") (codes "y") (codes "I")) true
    ≡ Ok (record { class = codes "A"; field = int_field (codes "y") true false })
field_row = refl

pub no_method_row : resolved_method some (codes "B") (reference (codes "B") (codes "q") (codes "()V")) call.Instance ≡ Err error.NoSuchMethod
no_method_row = refl

pub not_interface_row : resolved_interface some (codes "B") (reference (codes "A") (codes "m") (codes "()V")) ≡ Err error.IncompatibleClassChange
not_interface_row = refl

pub abstract_row : resolved_interface some (codes "B") (reference (codes "I") (codes "m") (codes "()V"))
    ≡ Ok (record { class = codes "I"; method = method (codes "m") kind.Abstract false })
abstract_row = refl

pub selected_row : selected_by_interface some (codes "I") (codes "B") (record { class = codes "I"; method = method (codes "m") kind.Abstract false })
    ≡ Ok (record { class = codes "A"; method = method (codes "m") kind.Instance false })
selected_row = refl

-- a private method is taken as it was resolved
pub private_row : selected some (codes "B") (record { class = codes "A"; method = method (codes "p") kind.Instance true })
    ≡ Ok (record { class = codes "A"; method = method (codes "p") kind.Instance true })
private_row = refl

pub new_row : type_error some (class_type (codes "I")) true ≡ Some error.Instantiation
new_row = refl

pub verify_row : pair_error some (class_type (codes "A")) (class_type (codes "B")) ≡ Some error.Verify
verify_row = refl

pub to_interface_row : pair_error some (class_type (codes "A")) (class_type (codes "I")) ≡ None
to_interface_row = refl

pub arrays_row : pair_error some (array_type (class_type (codes "B"))) (array_type (class_type (codes "A"))) ≡ None
arrays_row = refl

pub instance_row : instance some (array_type (array_type int_type)) (array_type (class_type (codes "Object"))) ≡ true
instance_row = refl

-- Object is 1, A is 2 and B is 3
pub low_row : low some (codes "B") ≡ 3
low_row = refl

pub high_row : high some (codes "A") ≡ 4
high_row = refl

pub object_row : high some (codes "Object") ≡ 4
object_row = refl
