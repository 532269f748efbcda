-- The steps of a type by those of its supertypes.
use Rattle.std.proofs.Common.{◌≡◌, Some, None, true, false, not, ◌&&◌, ◌||◌, sym, ◌∙◌, ap}
use Rattle.std.proofs.lemmas.Bool.{and_from, or_left, or_right, not_from_false}
use Rattle.std.specs.Cmp.{both_ways}
use Rattle.std.specs.List.{list_any}
use Rattle.std.specs.Option.{option_map_or}
use Rattle.std.specs.Str.{bytes_eq}
use Rattle.bcj_hier_rules.specs.Shapes.{Named, Shape, Mixture, found}
use Rattle.bcj_hier_rules.specs.Loading.{is_interface, turns, load_error, Below, same, step, Implements, self, through, is_below, implements}
use Rattle.bcj_hier_soundness.specs.Laws as law
use Rattle.bcj_hier_soundness.proofs.Names.{bytes_same}
use Rattle.bcj_hier_soundness.proofs.Steps.{below_at, below_found, below_right, implements_at, implements_found, implements_right, super_found, each_class_below_is_found, each_interface_is_found}
use Rattle.bcj_hier_soundness.proofs.Loads.{superclasses_load}
use Rattle.bcj_hier_soundness.proofs.Circles.{interface_by}

-- a type has one shape
one_shape : (m : Mixture) (c : Named) (s t : Shape) → found m c ≡ Some s → found m c ≡ Some t → s ≡ t
one_shape m c s t e f =
    let both : Some s ≡ Some t = sym e ∙ f in
    cc

implements_parts : (m : Mixture) (c i : Named) (s : Shape) → found m c ≡ Some s → Implements m c i → implements_at m (turns m) c i (Some s) ≡ true
implements_parts m c i s e (self {s = t} f it) =
    or_left (s.head.interface && bytes_eq c i) _ (and_from s.head.interface _ (ap (λ v. v.head.interface) (one_shape m c s t e f) ∙ it) (bytes_same c))
implements_parts m c i s e (through {p = p} {s = t} f up rest) =
    or_right (s.head.interface && bytes_eq c i) _
    (ap (λ v. option_map_or (λ q. implements m q i) v.head.superclass false || list_any (λ q. implements m q i) v.head.interfaces) (one_shape m c s t e f)
    ∙ super_found (λ q. implements m q i) t p up ((each_interface_is_found m p i).1 rest))

pub implements_by_parts : law.ImplementsByParts
implements_by_parts m c i s e =
    both_ways (implements m c i) (implements_at m (turns m) c i (Some s))
    (λ h. implements_parts m c i s e ((each_interface_is_found m c i).0 h))
    (λ h. (each_interface_is_found m c i).1 (implements_found m (turns m) c i (implements_right m (turns m) i) (Some s) e h))

below_parts : (m : Mixture) (c d : Named) (s : Shape) → found m c ≡ Some s → Below m c d → below_at m (turns m) c d (Some s) ≡ true
below_parts m c d s e (same {s = t} f class) =
    and_from (not s.head.interface) _ (not_from_false s.head.interface (ap (λ v. v.head.interface) (one_shape m c s t e f) ∙ class)) (or_left (bytes_eq c d) _ (bytes_same c))
below_parts m c d s e (step {p = p} {s = t} f class up rest) =
    and_from (not s.head.interface) _ (not_from_false s.head.interface (ap (λ v. v.head.interface) (one_shape m c s t e f) ∙ class))
    (or_right (bytes_eq c d) _
    (ap (λ v. option_map_or (λ q. is_below m q d) v.head.superclass false) (one_shape m c s t e f)
    ∙ (ap (λ o. option_map_or (λ q. is_below m q d) o false) up ∙ (each_class_below_is_found m p d).1 rest)))

pub below_by_parts : law.BelowByParts
below_by_parts m c d s e =
    both_ways (is_below m c d) (below_at m (turns m) c d (Some s))
    (λ h. below_parts m c d s e ((each_class_below_is_found m c d).0 h))
    (λ h. (each_class_below_is_found m c d).1 (below_found m (turns m) c d (below_right m (turns m) d) (Some s) e h))

pub classes_above_load : law.ClassesAboveLoad
classes_above_load m c d h (same e class) = (h, ap interface_by e ∙ class)
classes_above_load m c d h (step {p = p} {s = s} e class up rest) =
    let parts : (load_error m p ≡ None) × (is_interface m p ≡ false) = superclasses_load m c p s h e up in
    classes_above_load m p d parts.0 rest
