-- What a reader expects of a mixture of classes.
use Rattle.std.specs.Prelude.{◌≡◌, ◌↔◌, ◌<◌, ◌≤◌, ℕ, suc, Bool, true, false, not, ◌&&◌, ◌||◌, List, [], ◌∷◌, ◌++◌, length, None, Some, Ok, IsTrue, count_by, slice_get, Contains, codes}
use Rattle.std.specs.List.{list_any, list_all, flat_map}
use Rattle.std.specs.Option.{option_map, option_map_or}
use Rattle.std.specs.Str.{bytes_eq}
use Rattle.bcj_symbolic_trees.specs.declared.class_tree.ClassHead.{ClassHead}
use Rattle.bcj_symbolic_trees.specs.Names.{object_name}
use Rattle.bcj_symbolic_trees.specs.Types.{PlainTy}
use Rattle.bcj_hier_rules.specs.declared.call_kind.CallKind.{CallKind}
use Rattle.bcj_hier_rules.specs.declared.call_kind.CallKind.TheVariants as call
use Rattle.bcj_hier_rules.specs.declared.link_error.LinkError.TheVariants as error
use Rattle.bcj_hier_rules.specs.Shapes.{Named, Method, Shape, Mixture, found, is_field, is_method, is_constructor_of, Reference}
use Rattle.bcj_hier_rules.specs.Loading.{is_interface, turns, superclass_error, interfaces_error, head_error, load_within, load_error, Below, Super, Implements, is_below, implements}
use Rattle.bcj_hier_rules.specs.Trees.{is_child, children, preorder_of, preorder, low, high, next_in_tree}
use Rattle.bcj_hier_rules.specs.Resolution.{FoundField, FoundMethod, resolved_field, resolved_method, resolved_interface, element_error, type_error}
use Rattle.bcj_hier_rules.specs.Linking.{pair_error, instance}
use Rattle.bcj_hier_rules.specs.Heads.{head_shape, of_heads, heads_of, number_of, AreDistinct, is_placed, IsRooted}
use Rattle.bcj_hier_rules.specs.Rows.{some}

-- ---- searches

-- no way needs more turns than a search has, on circles neither
abbrev pub EachClassBelowIsFound : Type 0
EachClassBelowIsFound = (m : Mixture) (c d : Named) → IsTrue (is_below m c d) ↔ Below m c d

abbrev pub EachInterfaceIsFound : Type 0
EachInterfaceIsFound = (m : Mixture) (c i : Named) → IsTrue (implements m c i) ↔ Implements m c i

-- ---- loading

abbrev pub TurnsSuffice : Type 0
TurnsSuffice = (m : Mixture) (n : ℕ) (name : Named) → turns m ≤ n → load_within m n [] name ≡ load_error m name

abbrev pub EachThatLoadsIsThere : Type 0
EachThatLoadsIsThere = (m : Mixture) (c : Named) → load_error m c ≡ None → (s : Shape) × (found m c ≡ Some s)

abbrev pub SuperclassesLoad : Type 0
SuperclassesLoad =
    (m : Mixture) (c p : Named) (s : Shape) → load_error m c ≡ None → found m c ≡ Some s → s.head.superclass ≡ Some p → (load_error m p ≡ None) × (is_interface m p ≡ false)

abbrev pub SuperinterfacesLoad : Type 0
SuperinterfacesLoad =
    (m : Mixture) (c i : Named) (s : Shape) (front back : List Named) → load_error m c ≡ None → found m c ≡ Some s → s.head.interfaces ≡ front ++ i ∷ back
    → (load_error m i ≡ None) × (is_interface m i ≡ true)

-- ---- the tree of classes

-- no name stands twice, and no class but Object is without a superclass
pub record IsHierarchy (m : Mixture) : Type 0 where
  pub names : (before : List Shape) (s : Shape) (behind : List Shape) → m ≡ before ++ s ∷ behind → found before s.head.name ≡ None
  pub top : (c : Named) (s : Shape) → found m c ≡ Some s → s.head.interface ≡ false → s.head.superclass ≡ None → c ≡ object_name

-- a class is below another exactly where its number lies in the other's interval
abbrev pub BelowByInterval : Type 0
BelowByInterval =
    (m : Mixture) → IsHierarchy m → (c d : Named) → load_error m c ≡ None → load_error m d ≡ None → is_interface m c ≡ false → is_interface m d ≡ false
    → Below m c d ↔ ((low m d ≤ low m c) × (low m c < high m d))

abbrev pub EachClassStandsOnce : Type 0
EachClassStandsOnce = (m : Mixture) → IsHierarchy m → (c : Named) → load_error m c ≡ None → is_interface m c ≡ false → count_by (bytes_eq c) (preorder m) ≡ 1

-- where Object is a class that loads, nothing else stands there
abbrev pub EachThatStandsLoads : Type 0
EachThatStandsLoads =
    (m : Mixture) → IsHierarchy m → load_error m object_name ≡ None → is_interface m object_name ≡ false → (c : Named) → Contains (preorder m) c → (load_error m c ≡ None) × (is_interface m c ≡ false)

-- the mixture `some`, with its circle and its missing type, is one of these
abbrev pub SomeIsHierarchy : Type 0
SomeIsHierarchy = IsHierarchy some

-- ---- resolution

-- superclass and superinterface steps lead from a type to a type, in none or more
pub data Reaches (m : Mixture) : Named → Named → Type 0 where
  at_once : {c : Named} {s : Shape} → found m c ≡ Some s → Reaches m c c
  onward : {c p d : Named} {s : Shape} → found m c ≡ Some s → Super s p → Reaches m p d → Reaches m c d

-- a member that fits, declared by a type that is reached from this one
pub record IsMember {A : Type 0} (m : Mixture) (members : Shape → List A) (fits : A → Bool) (type declaring : Named) (member : A) : Type 0 where
  pub shape : Shape
  pub is_it : found m declaring ≡ Some shape
  pub declares : Contains (members shape) member
  pub is_meant : IsTrue (fits member)
  pub reached : Reaches m type declaring

-- what a call asks of a method
abbrev pub is_called : CallKind → Reference → Method → Bool
is_called call.Constructor r = is_constructor_of r.desc
is_called _ r = is_method r.name r.desc

abbrev pub FieldsAreMembers : Type 0
FieldsAreMembers =
    (m : Mixture) (from : Named) (r : Reference) (static : Bool) (f : FoundField) → resolved_field m from r static ≡ Ok f
    → (load_error m r.class ≡ None) × IsMember m (λ s. s.fields) (is_field r.name r.desc) r.class f.class f.field

abbrev pub MethodsAreMembers : Type 0
MethodsAreMembers =
    (m : Mixture) (from : Named) (r : Reference) (kind : CallKind) (f : FoundMethod) → resolved_method m from r kind ≡ Ok f
    → (load_error m r.class ≡ None) × IsMember m (λ s. s.methods) (is_called kind r) r.class f.class f.method

-- a constructor is one of the class that is named
abbrev pub ConstructorsAreOwn : Type 0
ConstructorsAreOwn = (m : Mixture) (from : Named) (r : Reference) (f : FoundMethod) → resolved_method m from r call.Constructor ≡ Ok f → f.class ≡ r.class

abbrev pub InterfaceMethodsAreMembers : Type 0
InterfaceMethodsAreMembers =
    (m : Mixture) (from : Named) (r : Reference) (f : FoundMethod) → resolved_interface m from r ≡ Ok f
    → (load_error m r.class ≡ None) × (is_interface m r.class ≡ true) × IsMember m (λ s. s.methods) (is_method r.name r.desc) r.class f.class f.method

-- ---- heads

-- a mixture of which the heads alone are known
abbrev pub bare : Mixture → Mixture
bare m = of_heads (heads_of m)

abbrev pub HeadsFind : Type 0
HeadsFind = (m : Mixture) (name : Named) → found (bare m) name ≡ option_map (λ s. head_shape s.head) (found m name)

abbrev pub HeadsCount : Type 0
HeadsCount = (m : Mixture) → turns m ≡ turns (bare m)

abbrev pub HeadsTellInterfaces : Type 0
HeadsTellInterfaces = (m : Mixture) (c : Named) → is_interface m c ≡ is_interface (bare m) c

abbrev pub HeadsLoad : Type 0
HeadsLoad = (m : Mixture) (c : Named) → load_error m c ≡ load_error (bare m) c

abbrev pub HeadsStepUp : Type 0
HeadsStepUp = (m : Mixture) (c d : Named) → is_below m c d ≡ is_below (bare m) c d

abbrev pub HeadsImplement : Type 0
HeadsImplement = (m : Mixture) (c i : Named) → implements m c i ≡ implements (bare m) c i

abbrev pub HeadsLoadElements : Type 0
HeadsLoadElements = (m : Mixture) (t : PlainTy) → element_error m t ≡ element_error (bare m) t

abbrev pub HeadsLoadTypes : Type 0
HeadsLoadTypes = (m : Mixture) (t : PlainTy) (is_new : Bool) → type_error m t is_new ≡ type_error (bare m) t is_new

abbrev pub HeadsPair : Type 0
HeadsPair = (m : Mixture) (s t : PlainTy) → pair_error m s t ≡ pair_error (bare m) s t

abbrev pub HeadsTellInstances : Type 0
HeadsTellInstances = (m : Mixture) (s t : PlainTy) → instance m s t ≡ instance (bare m) s t

abbrev pub HeadsTellChildren : Type 0
HeadsTellChildren = (m : Mixture) (p : Named) (s : Shape) → is_child m p s ≡ is_child (bare m) p (head_shape s.head)

abbrev pub HeadsHaveChildren : Type 0
HeadsHaveChildren = (m : Mixture) (p : Named) → children m p ≡ children (bare m) p

abbrev pub HeadsOrderBelow : Type 0
HeadsOrderBelow = (m : Mixture) (c : Named) → preorder_of m c ≡ preorder_of (bare m) c

abbrev pub HeadsOrder : Type 0
HeadsOrder = (m : Mixture) → preorder m ≡ preorder (bare m)

abbrev pub HeadsNumber : Type 0
HeadsNumber = (m : Mixture) (c : Named) → low m c ≡ low (bare m) c

abbrev pub HeadsEndNumbers : Type 0
HeadsEndNumbers = (m : Mixture) (c : Named) → high m c ≡ high (bare m) c

abbrev pub HeadsGoOn : Type 0
HeadsGoOn = (m : Mixture) (c : Named) → next_in_tree m c ≡ next_in_tree (bare m) c

-- ---- lists of heads

-- the head at a place of a list, which its name finds
pub record StandsAt (heads : List ClassHead) (name : Named) (k : ℕ) : Type 0 where
  pub head : ClassHead
  pub there : slice_get heads k ≡ Some head
  pub named : head.name ≡ name
  pub is_it : found (of_heads heads) name ≡ Some (head_shape head)

abbrev pub HeadsMakeHierarchies : Type 0
HeadsMakeHierarchies = (heads : List ClassHead) → AreDistinct heads → list_all is_placed heads ≡ true → IsHierarchy (of_heads heads)

abbrev pub NamesHaveNumbers : Type 0
NamesHaveNumbers = (heads : List ClassHead) (k : ℕ) (h : ClassHead) → AreDistinct heads → slice_get heads k ≡ Some h → number_of heads h.name ≡ Some k

abbrev pub HeadsAreFound : Type 0
HeadsAreFound = (heads : List ClassHead) (k : ℕ) (h : ClassHead) → AreDistinct heads → slice_get heads k ≡ Some h → found (of_heads heads) h.name ≡ Some (head_shape h)

-- in any list, the number of a name is that of the head that it finds
abbrev pub NumbersStand : Type 0
NumbersStand = (heads : List ClassHead) (name : Named) (k : ℕ) → number_of heads name ≡ Some k → StandsAt heads name k

abbrev pub NoneIsMissed : Type 0
NoneIsMissed = (heads : List ClassHead) (name : Named) → (number_of heads name ≡ None) ↔ (found (of_heads heads) name ≡ None)

-- ---- steps by those of the supertypes

abbrev pub ImplementsByParts : Type 0
ImplementsByParts =
    (m : Mixture) (c i : Named) (s : Shape) → found m c ≡ Some s
    → implements m c i ≡ (s.head.interface && bytes_eq c i || (option_map_or (λ p. implements m p i) s.head.superclass false || list_any (λ p. implements m p i) s.head.interfaces))

abbrev pub BelowByParts : Type 0
BelowByParts =
    (m : Mixture) (c d : Named) (s : Shape) → found m c ≡ Some s → is_below m c d ≡ (not s.head.interface && (bytes_eq c d || option_map_or (λ p. is_below m p d) s.head.superclass false))

abbrev pub ClassesAboveLoad : Type 0
ClassesAboveLoad = (m : Mixture) (c d : Named) → load_error m c ≡ None → Below m c d → (load_error m d ≡ None) × (is_interface m d ≡ false)

-- ---- loading by parts

-- the way to a type makes no difference
abbrev pub LoadsByParts : Type 0
LoadsByParts = (m : Mixture) (c : Named) → load_error m c ≡ elim (found m c) [ None ↦ Some error.NoClassDefFound | Some s ↦ head_error m (load_error m) s ]

-- the first part of a type that doesn't load is one of these types
pub data Waits (m : Mixture) (U : Named → Bool) (c : Named) : Type 0 where
  by_superclass : {s : Shape} {p : Named} → found m c ≡ Some s → s.head.superclass ≡ Some p → U p ≡ true → Waits m U c
  by_interface : {s : Shape} (front back : List Named) (i : Named) → found m c ≡ Some s → superclass_error m (load_error m) s.head.superclass ≡ None → s.head.interfaces ≡ front ++ i ∷ back
      → interfaces_error m (load_error m) front ≡ None → U i ≡ true → Waits m U c

-- types that wait for one another stand on or below a circle
abbrev pub CirclesFail : Type 0
CirclesFail = (m : Mixture) (U : Named → Bool) → ((c : Named) → U c ≡ true → Waits m U c) → (c : Named) → U c ≡ true → load_error m c ≡ Some error.ClassCircularity

-- the circle of the mixture `some` is such a set
abbrev pub some_circle : Named → Bool
some_circle c = bytes_eq c (codes "C") || bytes_eq c (codes "D")

abbrev pub SomeWait : Type 0
SomeWait = (c : Named) → some_circle c ≡ true → Waits some some_circle c

-- ---- walks over the tree of classes

abbrev pub ChildrenLoad : Type 0
ChildrenLoad = (m : Mixture) → IsHierarchy m → (p e : Named) → list_any (bytes_eq e) (children m p) ≡ true → (load_error m e ≡ None) × (is_interface m e ≡ false)

abbrev pub PreorderUnrolls : Type 0
PreorderUnrolls =
    (m : Mixture) → IsHierarchy m → (d : Named) → load_error m d ≡ None → is_interface m d ≡ false → preorder_of m d ≡ d ∷ flat_map (preorder_of m) (children m d)

-- in place of a class its children are still to be met
abbrev pub WalkGoesOn : Type 0
WalkGoesOn =
    (m : Mixture) → IsHierarchy m → (d : Named) (rest : List Named) → load_error m d ≡ None → is_interface m d ≡ false
    → flat_map (preorder_of m) (d ∷ rest) ≡ d ∷ flat_map (preorder_of m) (children m d ++ rest)

abbrev pub NoneStandsBefore : Type 0
NoneStandsBefore = (m : Mixture) → IsHierarchy m → (before behind : List Named) (c : Named) → preorder m ≡ before ++ c ∷ behind → list_any (bytes_eq c) before ≡ false

abbrev pub LowBehind : Type 0
LowBehind = (m : Mixture) → IsHierarchy m → (before behind : List Named) (c : Named) → preorder m ≡ before ++ c ∷ behind → low m c ≡ suc (length before)

abbrev pub LowIsPlace : Type 0
LowIsPlace = (m : Mixture) → IsHierarchy m → (k : ℕ) (c : Named) → slice_get (preorder m) k ≡ Some c → low m c ≡ suc k

abbrev pub PlacesDiffer : Type 0
PlacesDiffer = (m : Mixture) → IsHierarchy m → (i k : ℕ) (c : Named) → slice_get (preorder m) i ≡ Some c → slice_get (preorder m) k ≡ Some c → i ≡ k

-- each class that loads has a place
abbrev pub ClassesStand : Type 0
ClassesStand =
    (m : Mixture) → IsHierarchy m → (c : Named) → load_error m c ≡ None → is_interface m c ≡ false → (k : ℕ) × (slice_get (preorder m) k ≡ Some c) × (low m c ≡ suc k)

abbrev pub PlacesLoad : Type 0
PlacesLoad =
    (m : Mixture) → IsHierarchy m → load_error m object_name ≡ None → is_interface m object_name ≡ false → (k : ℕ) (c : Named) → slice_get (preorder m) k ≡ Some c
    → (load_error m c ≡ None) × (is_interface m c ≡ false)

abbrev pub FewStand : Type 0
FewStand = (m : Mixture) → IsHierarchy m → load_error m object_name ≡ None → is_interface m object_name ≡ false → length (preorder m) ≤ length m

abbrev pub RootsLoad : Type 0
RootsLoad = (heads : List ClassHead) → IsRooted heads → (load_error (of_heads heads) object_name ≡ None) × (is_interface (of_heads heads) object_name ≡ false)

abbrev pub RootsMakeHierarchies : Type 0
RootsMakeHierarchies = (heads : List ClassHead) → AreDistinct heads → IsRooted heads → IsHierarchy (of_heads heads)

abbrev pub SomeIsRooted : Type 0
SomeIsRooted = AreDistinct (heads_of some) × IsRooted (heads_of some)
