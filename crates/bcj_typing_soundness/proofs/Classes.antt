-- What a type becomes is a well-typed class.
use Rattle.std.proofs.Common.{◌≡◌, refl, sym, ap, subst, ◌∙◌, inl, inr, ◌<◌, Bool, true, false, ◌&&◌, ◌||◌, List, [], ◌∷◌, ◌++◌, map, length, Option, Some, None}
use Rattle.std.specs.List.{AllZip, flat_map}
use Rattle.std.proofs.lemmas.Bool.{cases_Bool}
use Rattle.bcj_names.specs.Identifiers.{is_identifier}
use Rattle.bcj_parser_trees.specs.Trees as source
use Rattle.bcj_parser_trees.specs.Trees.{PlainMember, PlainType, PlainUnit}
use Rattle.bcj_parser_wellformed.specs.WellFormed.{IsName}
use Rattle.bcj_symbolic_trees.specs.declared.class_tree.MethodKind.TheVariants as kind
use Rattle.bcj_symbolic_trees.specs.Names.{object_name, constructor_name}
use Rattle.bcj_symbolic_trees.specs.Types.{PlainTy}
use Rattle.bcj_symbolic_trees.specs.Units.{PlainField, PlainMethod, PlainPair, PlainClass}
use Rattle.bcj_symbolic_check.specs.Classes.{init_frame, method_frame}
use Rattle.bcj_symbolic_check.specs.Limits.{max_types}
use Rattle.bcj_symbolic_check.specs.Typing.{Each, each_of_none, each_of_more, Differ, none_differ, more_differ, HaveRules, HasRightSuperclass, topmost, below, HeadFits, ConstantFits, no_constant, int_constant, false_constant, true_constant, FieldFits, SameField, SameMethod, ConstructorsFirst, constructor_first, methods_behind, WellTypedClass}
use Rattle.bcj_decl_rules.specs.declared.value.Value.{Value}
use Rattle.bcj_decl_rules.specs.World.{Named, Field, Method, world_of, has_type, boot_types, declared_type, param_types, field_with, field_in, superclass_in}
use Rattle.bcj_decl_rules.specs.Faults.{field_modifier, is_restricted, second_of_name}
use Rattle.bcj_typing_rules.specs.Context.{constant_variable}
use Rattle.bcj_typing_rules.specs.Members.{value_number, start_value, FieldBecomes, field_becomes, Part, Added, Made, ConstructorBecomes, constructor_becomes, is_constructor_member, constructor_members, ConstructorsBecome, of_interface, by_default, each_written, MethodBecomes, with_a_body, without_body, is_method_member, method_members, pairs_of, head_of, class_from, BecomesClass, becomes_class}
use Rattle.bcj_typing_soundness.specs.World.{IsSoundField, WorldIsSound, AreSoundSteps}
use Rattle.bcj_typing_soundness.specs.Values.{IsValueOf, int_of, bool_of}
use Rattle.bcj_typing_soundness.proofs.Steps.{both_sound, covers_left, covers_right}
use Rattle.bcj_typing_soundness.proofs.Worths.{each_constant}
use Rattle.bcj_typing_soundness.proofs.Lists.{each_weaker, each_both, each_append, each_map, each_filter, each_picked}
use Rattle.bcj_typing_soundness.proofs.Declared.{IsMemberOf, each_alone, IsDeclaredType}
use Rattle.bcj_typing_soundness.proofs.Sound.{some_is, member_field_sound, object_named, no_constructor_name}
use Rattle.bcj_typing_soundness.proofs.Pairs.{pairs_cover, pairs_below, pairs_fit, made_sound, made_covered}
use Rattle.bcj_typing_soundness.proofs.Contexts.{values_known}
use Rattle.bcj_typing_soundness.proofs.Initialisers.{IsAdded, instances_added, IsStaticPart, static_parts}
use Rattle.bcj_typing_soundness.proofs.Methods.{IsMade, either_true, private_restricted, no_constructor, method_made}
use Rattle.bcj_typing_soundness.proofs.Constructors.{constructor_is, default_is}
use Rattle.bcj_typing_soundness.proofs.Differing.{differ_both, differ_filter, differ_picked, differ_map, each_zipped, differ_zipped, SameNamedFields, SameMethods, SameConstructors, fields_of_type_differ, methods_of_type_differ, constructors_of_type_differ}

-- ---- fields

-- a field that a type declares
record IsOwnField (units : List PlainUnit) (t : PlainType) (f : Field) : Type 0 where
  sound : IsSoundField (world_of units) f
  static_in_interface : t.interface ≡ true → f.is_static ≡ true
  private_in_class : f.is_private ≡ true → t.interface ≡ false

-- each field of a declared type
own_field : (units : List PlainUnit) (t : PlainType) (m : PlainMember) → IsMemberOf units t m → (f : Field) → field_in t.interface t.name m ≡ Some f → IsOwnField units t f
own_field units t (source.field_member at mods ty name init) k f e =
    some_is (IsOwnField units t) e
    (record {
      sound = member_field_sound (source.field_member at mods ty name init) k (field_with t.interface t.name mods ty name) refl;
      static_in_interface = λ i. ap (λ b. b || mods.is_static) i;
      private_in_class = λ h. elim (cases_Bool t.interface) [
        | inl it ↦
            absurd (k.is.fine _
            (field_modifier
            (either_true mods.is_abstract (t.interface && is_restricted mods)
            (ap (λ b. b && is_restricted mods) it ∙ private_restricted mods h))))
        | inr other ↦ other
      ];
    })
own_field units t (source.method_member at mods result name params throws body) k f e = cc
own_field units t (source.constructor_member at mods name params throws first body) k f e = cc
own_field units t (source.static_member at body) k f e = cc

-- a value of a type is a constant of it
value_fits : {v : Value} {ty : PlainTy} → IsValueOf v ty → ConstantFits ty true (Some (value_number v))
value_fits (int_of f) = int_constant f
value_fits (bool_of {b = true}) = true_constant
value_fits (bool_of {b = false}) = false_constant

-- so is the number that a static field starts with
start_fits : (units : List PlainUnit) (f : Field) (c : Bool) (v : Option Value) → ((w : Value) → v ≡ Some w → IsValueOf w f.ty) → ConstantFits f.ty c (start_value c v)
start_fits units f true None h = no_constant
start_fits units f true (Some v) h = value_fits (h v refl)
start_fits units f false None h = no_constant
start_fits units f false (Some v) h = no_constant

-- the conditions on a field
field_fits : (units : List PlainUnit) (t : PlainType) (f : Field) (p : PlainField) → IsOwnField units t f → FieldBecomes units f p → FieldFits t.interface p
field_fits units t f p k (field_becomes {v = None} w) =
    record { name = k.sound.name; ty = k.sound.ty.value; static_in_interface = k.static_in_interface; private_in_class = k.private_in_class; constant = start_fits units f f.is_static None (λ v e. cc) }
field_fits units t f p k (field_becomes {v = Some v} (constant_variable c)) =
    record {
      name = k.sound.name;
      ty = k.sound.ty.value;
      static_in_interface = k.static_in_interface;
      private_in_class = k.private_in_class;
      constant = start_fits units f f.is_static (Some v) (λ w e. some_is (λ (x : Value). IsValueOf x f.ty) e (each_constant units f v c));
    }

-- two members that declare fields of one name
named_alike : (i : Bool) (class : Named) (a b : PlainMember) (f g : Field) → field_in i class a ≡ Some f → field_in i class b ≡ Some g → f.name ≡ g.name → SameNamedFields a b
named_alike i class (source.field_member at mods ty name init) (source.field_member at2 mods2 ty2 name2 init2) f g d e h =
    let first : name ≡ f.name = some_is (λ (x : Field). name ≡ x.name) d refl in
    let second : g.name ≡ name2 = some_is (λ (x : Field). x.name ≡ name2) e refl in
    first ∙ (h ∙ second)
named_alike i class (source.field_member at mods ty name init) _ f g d e h = absurd (cc)
named_alike i class _ b f g d e h = absurd (cc)

-- fields that become the same have one name
same_fields : (units : List PlainUnit) (f g : Field) (p q : PlainField) → FieldBecomes units f p → FieldBecomes units g q → SameField p q → f.name ≡ g.name
same_fields units f g p q (field_becomes w) (field_becomes v) same = same.0

-- ---- heads

-- the superclass of a head
right_superclass : (name : Named) (i is_abstract : Bool) (extends interfaces : List Named) → ¬ (name ≡ object_name) → Each IsName extends
    → HasRightSuperclass (record { name = name; interface = i; is_abstract = is_abstract; superclass = elim i [ true ↦ None | false ↦ Some (superclass_in extends) ]; interfaces = interfaces })
right_superclass name true is_abstract extends interfaces n e = topmost (inl refl) refl
right_superclass name false is_abstract [] interfaces n e = below object_name refl n refl object_named
right_superclass name false is_abstract (above ∷ others) interfaces n (each_of_more k r) = below above refl n refl k

-- and its superinterfaces
interfaces_named : (i : Bool) (extends implements : List Named) → Each IsName extends → Each IsName implements → Each IsName (elim i [ true ↦ extends | false ↦ implements ])
interfaces_named true extends implements e f = e
interfaces_named false extends implements e f = f

-- ---- constructors and methods

-- what a constructor is
abbrev IsConstructor : Made → Type 0
IsConstructor x = (x.method.kind ≡ kind.Constructor) × (x.method.name ≡ constructor_name)

-- what any other method is
abbrev IsOther : Made → Type 0
IsOther x = ¬ (x.method.kind ≡ kind.Constructor) × (is_identifier x.method.name ≡ true)

-- of one name and descriptor
abbrev AlikeMade : Made → Made → Type 0
AlikeMade x y = SameMethod x.method y.method

-- the member that a constructor comes from
abbrev IsOfConstructor : PlainMember → Made → Type 0
IsOfConstructor (source.constructor_member at mods name params throws first body) x = x.method.params ≡ param_types params
IsOfConstructor _ x = ⊥

-- a constructor comes from its member
of_constructor : (units : List PlainUnit) (t : PlainType) (i : Added) (m : PlainMember) (x : Made) → ConstructorBecomes units t i m x → IsOfConstructor m x
of_constructor units t i m x (constructor_becomes s r) = refl

-- constructors that are alike come from members that are
constructors_alike : (a b : PlainMember) (x y : Made) → IsOfConstructor a x → IsOfConstructor b y → AlikeMade x y → SameConstructors a b
constructors_alike (source.constructor_member at mods name params throws first body) (source.constructor_member at2 mods2 name2 params2 throws2 first2 body2) x y d e h = sym d ∙ (h.params ∙ e)
constructors_alike (source.constructor_member at mods name params throws first body) _ x y d e h = absurd (e)
constructors_alike _ b x y d e h = absurd (d)

-- a constructor is one
is_constructor : (units : List PlainUnit) (t : PlainType) (i : Added) (m : PlainMember) (x : Made) → ConstructorBecomes units t i m x → IsConstructor x
is_constructor units t i m x (constructor_becomes s r) = (refl, refl)

-- the member that a method comes from
abbrev IsOfMethod : PlainMember → Made → Type 0
IsOfMethod (source.method_member at mods result name params throws body) x = (x.method.name ≡ name) × (x.method.params ≡ param_types params)
IsOfMethod _ x = ⊥

-- a method comes from its member
of_method : (units : List PlainUnit) (t : PlainType) (m : PlainMember) (x : Made) → MethodBecomes units t m x → IsOfMethod m x
of_method units t m x (with_a_body {name = name} {params = params} is r) = some_is (λ (d : Method). (d.name ≡ name) × (d.params ≡ param_types params)) is (refl, refl)
of_method units t m x (without_body {name = name} {params = params} is) = some_is (λ (d : Method). (d.name ≡ name) × (d.params ≡ param_types params)) is (refl, refl)

-- methods that are alike come from members that are
methods_alike : (a b : PlainMember) (x y : Made) → IsOfMethod a x → IsOfMethod b y → AlikeMade x y → SameMethods a b
methods_alike (source.method_member at mods result name params throws body) (source.method_member at2 mods2 result2 name2 params2 throws2 body2) x y d e h =
    (sym d.0 ∙ (h.name ∙ e.0), sym d.1 ∙ (h.params ∙ e.1))
methods_alike (source.method_member at mods result name params throws body) _ x y d e h = absurd (e)
methods_alike _ b x y d e h = absurd (d)

-- a method is no constructor
is_other : (units : List PlainUnit) (t : PlainType) (m : PlainMember) (x : Made) → IsMemberOf units t m → MethodBecomes units t m x → IsOther x
is_other units t m x k (with_a_body {mods = mods} {name = name} is r) =
    some_is (λ (d : Method). ¬ (d.kind ≡ kind.Constructor) × (is_identifier d.name ≡ true)) is (no_constructor t.interface mods, k.is.formed.1)
is_other units t m x k (without_body {mods = mods} {name = name} is) =
    some_is (λ (d : Method). ¬ (d.kind ≡ kind.Constructor) × (is_identifier d.name ≡ true)) is (no_constructor t.interface mods, k.is.formed.1)

-- constructors stand first
first_constructors : (xs ys : List Made) → Each IsConstructor xs → Each IsOther ys → ConstructorsFirst (map (λ (x : Made). x.method) (xs ++ ys))
first_constructors [] ys e f = methods_behind (each_map (λ (x : Made). x.method) (each_weaker (λ x k. k.0) f))
first_constructors (x ∷ xs) ys (each_of_more k r) f = constructor_first k.0 (first_constructors xs ys r f)

-- the name of constructors is no identifier
init_named : is_identifier constructor_name ≡ true → ⊥
init_named h = no_constructor_name constructor_name h refl

-- so no method is like a constructor
apart : (xs ys : List Made) → Each IsConstructor xs → Each IsOther ys → Each (λ x. Each (λ y. ¬ AlikeMade x y) ys) xs
apart xs ys e f =
    each_weaker (λ x k. each_weaker (λ y l same. init_named (subst (λ (n : Named). is_identifier n ≡ true) (sym same.name ∙ k.1) l.1)) f) e

-- ---- all constructors and methods

module _ (units : List PlainUnit) (sound : WorldIsSound units) (before : List PlainType) (t : PlainType) (declared : IsDeclaredType units before t) where
  -- each member of the type
  each_member : Each (IsMemberOf units t) t.members
  each_member = each_alone declared.members

  -- the constructors of the class
  record AreConstructors (made : List Made) : Type 0 where
    typed : Each (IsMade units t) made
    named : Each IsConstructor made
    differ : Differ AlikeMade made

  -- those that are written
  written_constructors : (i : Added) → IsAdded units t false i → t.interface ≡ false → (made : List Made) → AllZip (ConstructorBecomes units t i) (constructor_members t) made → AreConstructors made
  written_constructors i added class made z = record {
    typed =
        each_zipped (constructor_members t) made (λ m x k b. constructor_is units sound before t declared class i added m x k b) (each_filter is_constructor_member each_member) z;
    named = each_zipped (constructor_members t) made (λ m x k b. is_constructor units t i m x b) (each_filter is_constructor_member each_member) z;
    differ =
        differ_zipped (constructor_members t) made
        (λ a b x y p q same. constructors_alike a b x y (of_constructor units t i a x p) (of_constructor units t i b y q) same)
        (differ_filter is_constructor_member (constructors_of_type_differ declared.members)) z;
  }

  -- and all
  constructors : (i : Added) → IsAdded units t false i → (made : List Made) → ConstructorsBecome units t i made → AreConstructors made
  constructors i added made (of_interface e) = record { typed = each_of_none; named = each_of_none; differ = none_differ }
  constructors i added made (by_default {a = a} class none start) = record {
    typed = each_of_more (default_is units sound before t declared class i added a start) each_of_none;
    named = each_of_more (refl, refl) each_of_none;
    differ = more_differ each_of_none none_differ;
  }
  constructors i added made (each_written class is z) =
      written_constructors i added class made (subst (λ (ms : List PlainMember). AllZip (ConstructorBecomes units t i) ms made) (sym is) z)

  -- its methods
  record AreMethods (made : List Made) : Type 0 where
    typed : Each (IsMade units t) made
    named : Each IsOther made
    differ : Differ AlikeMade made

  -- of all method members
  methods : (made : List Made) → AllZip (MethodBecomes units t) (method_members t) made → AreMethods made
  methods made z = record {
    typed = each_zipped (method_members t) made (λ m x k b. method_made units sound before t declared m x k b) (each_filter is_method_member each_member) z;
    named = each_zipped (method_members t) made (λ m x k b. is_other units t m x k b) (each_filter is_method_member each_member) z;
    differ =
        differ_zipped (method_members t) made
        (λ a b x y p q same. methods_alike a b x y (of_method units t a x p) (of_method units t b y q) same)
        (differ_filter is_method_member (methods_of_type_differ declared.members)) z;
  }

  -- ---- the class

  -- the type is not Object
  not_object : ¬ (t.name ≡ object_name)
  not_object e = declared.fine _ (second_of_name (ap (has_type (boot_types ++ map declared_type before)) e))

  -- its head
  head : HeadFits (head_of t)
  head = record {
    name = declared.formed.name;
    superclass = right_superclass t.name t.interface t.is_abstract t.extends _ not_object declared.formed.extends;
    interfaces = interfaces_named t.interface t.extends t.implements declared.formed.extends declared.formed.implements;
  }

  -- its fields
  own_fields : Each (IsOwnField units t) (declared_type t).fields
  own_fields = each_picked (field_in t.interface t.name) (each_weaker (own_field units t) each_member)

  -- have different names
  own_fields_differ : Differ (λ (f g : Field). f.name ≡ g.name) (declared_type t).fields
  own_fields_differ = differ_picked (field_in t.interface t.name) (named_alike t.interface t.name) (fields_of_type_differ declared.members)

  -- its class initialiser
  init_typed : (fields : List PlainField) (s : Part) (made : List Made) → IsStaticPart units t [] s → AreSoundSteps (world_of units) (s.steps ++ flat_map (λ (m : Made). m.steps) made)
      → HaveRules (init_frame (class_from t fields s made)) false (class_from t fields s made).init.body
  unfolding init_frame
  init_typed fields s made k steps =
      let all : List PlainPair = s.steps ++ flat_map (λ (m : Made). m.steps) made in
      k.rules (init_frame (class_from t fields s made)) (record { class = refl; superclass = refl; this = refl; pairs = pairs_below all steps }) refl (λ i r a. a)
      (covers_left s.steps (flat_map (λ (m : Made). m.steps) made) (pairs_cover all))

  -- the bodies of constructors and methods
  methods_typed : (fields : List PlainField) (s : Part) (made : List Made) → Each (IsMade units t) made → AreSoundSteps (world_of units) (s.steps ++ flat_map (λ (m : Made). m.steps) made)
      → Each (λ (m : PlainMethod). HaveRules (method_frame (class_from t fields s made) m) false m.body) (map (λ (m : Made). m.method) made)
  unfolding method_frame
  methods_typed fields s made k steps =
      let all : List PlainPair = s.steps ++ flat_map (λ (m : Made). m.steps) made in
      each_map (λ (m : Made). m.method)
      (each_weaker (λ m both. both.0.rules (pairs_of all) (pairs_below all steps) both.1)
      (each_both k (made_covered made (covers_right s.steps (flat_map (λ (m : Made). m.steps) made) (pairs_cover all)))))

  -- the whole class
  pub class_typed : (earlier : List PlainClass) (c : PlainClass) → BecomesClass units t c → length earlier < max_types → Each (λ (b : PlainClass). ¬ (t.name ≡ b.head.name)) earlier → WellTypedClass earlier c
  class_typed earlier c (becomes_class {fields = fields} {s = s} {i = i} xs ys fs ss is cs ms) few once =
      let static : IsStaticPart units t [] s = static_parts units sound before t declared [] t.members s each_member ss in
      let added : IsAdded units t false i = instances_added units sound before t declared t.members i each_member is in
      let x : AreConstructors xs = constructors i added xs cs in
      let y : AreMethods ys = methods ys ms in
      let both : Each (IsMade units t) (xs ++ ys) = each_append x.typed y.typed in
      let steps : AreSoundSteps (world_of units) (s.steps ++ flat_map (λ (m : Made). m.steps) (xs ++ ys)) = both_sound static.sound (made_sound (each_weaker (λ m k. k.sound) both)) in
      record {
        fits = record {
          few = few;
          named_once = once;
          head = head;
          fields = each_zipped (declared_type t).fields fields (λ f p k b. field_fits units t f p k b) own_fields fs;
          fields_differ = differ_zipped (declared_type t).fields fields (λ f g p q a b same. same_fields units f g p q a b same) own_fields_differ fs;
          init_locals = values_known (static.known each_of_none);
          methods = each_map (λ (m : Made). m.method) (each_weaker (λ m k. k.fits) both);
          methods_differ = differ_map (λ (m : Made). m.method) (differ_both x.differ y.differ (apart xs ys x.named y.named));
          constructors_first = first_constructors xs ys x.named y.named;
          pairs = pairs_fit (s.steps ++ flat_map (λ (m : Made). m.steps) (xs ++ ys)) steps;
        };
        init = init_typed fields s (xs ++ ys) static steps;
        methods = methods_typed fields s (xs ++ ys) both steps;
      }
