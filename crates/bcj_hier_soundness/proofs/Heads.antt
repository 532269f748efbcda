-- The heads of a mixture decide what loads, which pairs hold, and how classes are numbered.
use Rattle.std.proofs.Common.{◌≡◌, ◌+◌, List, [], ◌∷◌, map, filter, flat_map, position, slice_get, Option, Some, None, Bool, true, false, not, cond, ◌&&◌, ◌||◌, refl, sym, ◌∙◌, ap, ℕ, zero, suc, length, is_none}
use Rattle.std.proofs.Math.Path.{fun_ext}
use Rattle.std.proofs.lemmas.List.{length-map}
use Rattle.std.specs.List.{list_any}
use Rattle.std.specs.Option.{option_or, option_map, option_map_or}
use Rattle.std.specs.Str.{bytes_eq}
use Rattle.bcj_symbolic_trees.specs.Names.{object_name}
use Rattle.bcj_symbolic_trees.specs.Types.{PlainTy, int_type, bool_type, void_type, class_type, array_type}
use Rattle.bcj_hier_rules.specs.declared.link_error.LinkError.{LinkError}
use Rattle.bcj_hier_rules.specs.declared.link_error.LinkError.TheVariants as error
use Rattle.bcj_hier_rules.specs.Shapes.{Named, Shape, Mixture, found}
use Rattle.bcj_hier_rules.specs.Loading.{is_interface, turns, error_where, superclass_error, interfaces_error, head_error, load_within, load_error, below_within, is_below, implements_within, implements}
use Rattle.bcj_hier_rules.specs.Resolution.{element_error, cannot_be_made, new_error}
use Rattle.bcj_hier_rules.specs.Linking.{components, class_pair, pair_holds}
use Rattle.bcj_hier_rules.specs.Trees.{is_child, children, preorder_within, preorder_of, preorder, number_behind, low}
use Rattle.bcj_hier_rules.specs.Heads.{head_shape, heads_of}
use Rattle.bcj_hier_soundness.specs.Laws.{bare}
use Rattle.bcj_hier_soundness.specs.Laws as law
use Rattle.bcj_hier_soundness.proofs.Names.{is_in}

abbrev bare_shape : Shape → Shape
bare_shape s = head_shape s.head

found_by : (b : Bool) (s : Shape) (o p : Option Shape) → p ≡ option_map bare_shape o → cond b (Some (bare_shape s)) p ≡ option_map bare_shape (cond b (Some s) o)
found_by true s o p h = refl
found_by false s o p h = h

-- a name finds the head of what it finds
pub heads_find : law.HeadsFind
heads_find [] name = refl
heads_find (s ∷ ms) name = found_by (bytes_eq s.head.name name) s (found ms name) (found (bare ms) name) (heads_find ms name)

pub heads_count : law.HeadsCount
heads_count m = ap suc (sym (length-map (heads_of m) head_shape ∙ length-map m (λ s. s.head)))

interface_of : (o : Option Shape) → option_map_or (λ s. s.head.interface) o false ≡ option_map_or (λ s. s.head.interface) (option_map bare_shape o) false
interface_of None = refl
interface_of (Some s) = refl

pub heads_tell_interfaces : law.HeadsTellInterfaces
heads_tell_interfaces m name = interface_of (found m name) ∙ ap (λ o. option_map_or (λ s. s.head.interface) o false) (sym (heads_find m name))

-- ---- loading

superclass_same : (m : Mixture) (load : Named → Option LinkError) (o : Option Named) → superclass_error m load o ≡ superclass_error (bare m) load o
superclass_same m load None = refl
superclass_same m load (Some p) = ap (λ b. option_or (load p) (error_where b error.IncompatibleClassChange)) (heads_tell_interfaces m p)

interfaces_same : (m : Mixture) (load : Named → Option LinkError) (names : List Named) → interfaces_error m load names ≡ interfaces_error (bare m) load names
interfaces_same m load [] = refl
interfaces_same m load (i ∷ rest) =
    ap (λ b. option_or (option_or (load i) (error_where (not b) error.IncompatibleClassChange)) (interfaces_error m load rest)) (heads_tell_interfaces m i)
    ∙ ap (option_or (option_or (load i) (error_where (not (is_interface (bare m) i)) error.IncompatibleClassChange))) (interfaces_same m load rest)

pub head_same : (m : Mixture) (load : Named → Option LinkError) (s : Shape) → head_error m load s ≡ head_error (bare m) load s
head_same m load s =
    ap (λ e. option_or e (interfaces_error m load s.head.interfaces)) (superclass_same m load s.head.superclass)
    ∙ ap (option_or (superclass_error (bare m) load s.head.superclass)) (interfaces_same m load s.head.interfaces)

abbrev load_at : Mixture → ℕ → List Named → Named → Option Shape → Option LinkError
load_at m n way name o = elim o [ None ↦ Some error.NoClassDefFound | Some s ↦ cond (is_in name way) (Some error.ClassCircularity) (head_error m (load_within m n (name ∷ way)) s) ]

load_same_at : (m : Mixture) (n : ℕ) → ((way : List Named) (name : Named) → load_within m n way name ≡ load_within (bare m) n way name) → (way : List Named) (name : Named) (o : Option Shape)
    → load_at m n way name o ≡ load_at (bare m) n way name (option_map bare_shape o)
load_same_at m n again way name None = refl
load_same_at m n again way name (Some s) =
    let above : load_within m n (name ∷ way) ≡ load_within (bare m) n (name ∷ way) = fun_ext (again (name ∷ way)) in
    ap (cond (is_in name way) (Some error.ClassCircularity)) (ap (λ f. head_error m f s) above ∙ head_same m (load_within (bare m) n (name ∷ way)) s)

load_same : (m : Mixture) (n : ℕ) (way : List Named) (name : Named) → load_within m n way name ≡ load_within (bare m) n way name
load_same m zero way name = refl
load_same m (suc n) way name = load_same_at m n (load_same m n) way name (found m name) ∙ ap (load_at (bare m) n way name) (sym (heads_find m name))

pub heads_load : law.HeadsLoad
heads_load m name = load_same m (turns m) [] name ∙ ap (λ n. load_within (bare m) n [] name) (heads_count m)

-- ---- steps

abbrev below_at : Mixture → ℕ → Named → Named → Option Shape → Bool
below_at m n c d o = elim o [ None ↦ false | Some s ↦ not s.head.interface && (bytes_eq c d || option_map_or (λ p. below_within m n p d) s.head.superclass false) ]

below_same_at : (m : Mixture) (n : ℕ) (d : Named) → ((p : Named) → below_within m n p d ≡ below_within (bare m) n p d) → (c : Named) (o : Option Shape) → below_at m n c d o ≡ below_at (bare m) n c d (option_map bare_shape o)
below_same_at m n d again c None = refl
below_same_at m n d again c (Some s) = ap (λ f. not s.head.interface && (bytes_eq c d || option_map_or f s.head.superclass false)) (fun_ext again)

below_same : (m : Mixture) (n : ℕ) (d c : Named) → below_within m n c d ≡ below_within (bare m) n c d
below_same m zero d c = refl
below_same m (suc n) d c = below_same_at m n d (below_same m n d) c (found m c) ∙ ap (below_at (bare m) n c d) (sym (heads_find m c))

pub heads_step_up : law.HeadsStepUp
heads_step_up m c d = below_same m (turns m) d c ∙ ap (λ n. below_within (bare m) n c d) (heads_count m)

abbrev implements_at : Mixture → ℕ → Named → Named → Option Shape → Bool
implements_at m n c i o =
    elim o [
      | None ↦ false
      | Some s ↦ s.head.interface && bytes_eq c i
          || (option_map_or (λ p. implements_within m n p i) s.head.superclass false || list_any (λ p. implements_within m n p i) s.head.interfaces)
    ]

implements_same_at : (m : Mixture) (n : ℕ) (i : Named) → ((p : Named) → implements_within m n p i ≡ implements_within (bare m) n p i) → (c : Named) (o : Option Shape)
    → implements_at m n c i o ≡ implements_at (bare m) n c i (option_map bare_shape o)
implements_same_at m n i again c None = refl
implements_same_at m n i again c (Some s) = ap (λ f. s.head.interface && bytes_eq c i || (option_map_or f s.head.superclass false || list_any f s.head.interfaces)) (fun_ext again)

implements_same : (m : Mixture) (n : ℕ) (i c : Named) → implements_within m n c i ≡ implements_within (bare m) n c i
implements_same m zero i c = refl
implements_same m (suc n) i c = implements_same_at m n i (implements_same m n i) c (found m c) ∙ ap (implements_at (bare m) n c i) (sym (heads_find m c))

pub heads_implement : law.HeadsImplement
heads_implement m c i = implements_same m (turns m) i c ∙ ap (λ n. implements_within (bare m) n c i) (heads_count m)

-- ---- types and pairs

pub heads_load_elements : law.HeadsLoadElements
heads_load_elements m int_type = refl
heads_load_elements m bool_type = refl
heads_load_elements m void_type = refl
heads_load_elements m (class_type name) = heads_load m name
heads_load_elements m (array_type component) = heads_load_elements m component

abbrev unmade_at : Option Shape → Bool
unmade_at o = elim o [ None ↦ true | Some s ↦ s.head.is_abstract || s.head.interface ]

made_at : (o : Option Shape) → unmade_at o ≡ unmade_at (option_map bare_shape o)
made_at None = refl
made_at (Some s) = refl

made_same : (m : Mixture) (name : Named) → cannot_be_made m name ≡ cannot_be_made (bare m) name
made_same m name = made_at (found m name) ∙ ap unmade_at (sym (heads_find m name))

new_same : (m : Mixture) (t : PlainTy) → new_error m t ≡ new_error (bare m) t
new_same m (class_type name) =
    ap (λ e. option_or e (cond (cannot_be_made m name) (Some error.Instantiation) None)) (heads_load m name)
    ∙ ap (λ b. option_or (load_error (bare m) name) (cond b (Some error.Instantiation) None)) (made_same m name)
new_same m int_type = refl
new_same m bool_type = refl
new_same m void_type = refl
new_same m (array_type component) = heads_load_elements m component

pub heads_load_types : law.HeadsLoadTypes
heads_load_types m t true = new_same m t
heads_load_types m t false = heads_load_elements m t

class_pair_same : (m : Mixture) (s t : Named) → class_pair m s t ≡ class_pair (bare m) s t
class_pair_same m s t =
    ap (λ b. cond b (is_interface m s || not (bytes_eq s object_name)) (is_below m s t)) (heads_tell_interfaces m t)
    ∙ (ap (λ b. cond (is_interface (bare m) t) (b || not (bytes_eq s object_name)) (is_below m s t)) (heads_tell_interfaces m s)
    ∙ ap (cond (is_interface (bare m) t) (is_interface (bare m) s || not (bytes_eq s object_name))) (heads_step_up m s t))

holds_same : (m : Mixture) (s t : PlainTy) → pair_holds m s t ≡ pair_holds (bare m) s t
holds_same m (class_type s) (class_type t) = class_pair_same m s t
holds_same m (array_type a) (array_type b) = ap (λ related. components related a b) (holds_same m a b)
holds_same m _ _ = refl

pub heads_pair : law.HeadsPair
heads_pair m s t =
    ap (λ e. option_or e (option_or (element_error m t) (cond (pair_holds m s t) None (Some error.Verify)))) (heads_load_elements m s)
    ∙ (ap (λ e. option_or (element_error (bare m) s) (option_or e (cond (pair_holds m s t) None (Some error.Verify)))) (heads_load_elements m t)
    ∙ ap (λ b. option_or (element_error (bare m) s) (option_or (element_error (bare m) t) (cond b None (Some error.Verify)))) (holds_same m s t))

pub heads_tell_instances : law.HeadsTellInstances
heads_tell_instances m (class_type d) (class_type t) = ap (λ b. b || implements m d t) (heads_step_up m d t) ∙ ap (λ b. is_below (bare m) d t || b) (heads_implement m d t)
heads_tell_instances m (array_type a) (array_type b) = ap (λ related. components related a b) (heads_tell_instances m a b)
heads_tell_instances m _ _ = refl

-- ---- the tree of classes

pub heads_tell_children : law.HeadsTellChildren
heads_tell_children m p s = ap (λ e. not s.head.interface && (is_none e && option_map_or (bytes_eq p) s.head.superclass false)) (heads_load m s.head.name)

filtered_by : (b : Bool) (s : Shape) (ms ns : List Shape) → map (λ t. t.head.name) ms ≡ map (λ t. t.head.name) ns
    → map (λ t. t.head.name) (cond b (s ∷ ms) ms) ≡ map (λ t. t.head.name) (cond b (bare_shape s ∷ ns) ns)
filtered_by true s ms ns h = ap (λ l. s.head.name ∷ l) h
filtered_by false s ms ns h = h

filtered_same : (f g : Shape → Bool) → ((s : Shape) → f s ≡ g (bare_shape s)) → (ms : List Shape) → map (λ t. t.head.name) (filter f ms) ≡ map (λ t. t.head.name) (filter g (bare ms))
filtered_same f g alike [] = refl
filtered_same f g alike (s ∷ ms) =
    filtered_by (f s) s (filter f ms) (filter g (bare ms)) (filtered_same f g alike ms)
    ∙ ap (λ b. map (λ t. t.head.name) (cond b (bare_shape s ∷ filter g (bare ms)) (filter g (bare ms)))) (alike s)

pub heads_have_children : law.HeadsHaveChildren
heads_have_children m p = filtered_same (is_child m p) (is_child (bare m) p) (heads_tell_children m p) m

preorder_same : (m : Mixture) (n : ℕ) (c : Named) → preorder_within n m c ≡ preorder_within n (bare m) c
preorder_same m zero c = refl
preorder_same m (suc n) c =
    let f : Named → List Named = preorder_within n (bare m) in
    ap (λ g. c ∷ flat_map g (children m c)) (fun_ext (preorder_same m n)) ∙ ap (λ l. c ∷ flat_map f l) (heads_have_children m c)

pub heads_order_below : law.HeadsOrderBelow
heads_order_below m c = preorder_same m (turns m) c ∙ ap (λ n. preorder_within n (bare m) c) (heads_count m)

pub heads_order : law.HeadsOrder
heads_order m = heads_order_below m object_name

pub heads_number : law.HeadsNumber
heads_number m c = ap (λ l. number_behind (position (bytes_eq c) l)) (heads_order m)

pub heads_end_numbers : law.HeadsEndNumbers
heads_end_numbers m c =
    ap (λ b. cond b 0 (low m c + length (preorder_of m c))) (heads_tell_interfaces m c)
    ∙ (ap (λ n. cond (is_interface (bare m) c) 0 (n + length (preorder_of m c))) (heads_number m c)
    ∙ ap (λ l. cond (is_interface (bare m) c) 0 (low (bare m) c + length l)) (heads_order_below m c))

pub heads_go_on : law.HeadsGoOn
heads_go_on m c =
    ap (λ b. cond b None (slice_get (preorder m) (low m c))) (heads_tell_interfaces m c)
    ∙ (ap (λ n. cond (is_interface (bare m) c) None (slice_get (preorder m) n)) (heads_number m c)
    ∙ ap (λ l. cond (is_interface (bare m) c) None (slice_get l (low (bare m) c))) (heads_order m))
