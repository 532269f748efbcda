-- A unit is within the limits by its largest numbers exactly where none of its numbers is past its limit.
use Rattle.std.proofs.Common.{◌≡◌, refl, sym, ap, ◌∙◌, subst, ℕ, zero, suc, ◌+◌, ◌≤◌, ◌<◌, nat_lt, Bool, true, false, List, [], ◌∷◌, ◌++◌, map, length, Option, None, Some, if◌then◌else◌, arith, length-append}
use Rattle.std.specs.List.{AllZip, AllByRecursion}
use Rattle.std.specs.Option.{option_or}
use Rattle.std.proofs.lemmas.Bool.{ltb-false, le-ltb}
use Rattle.std.proofs.lemmas.List.{map-append, length-map}
use Rattle.std.proofs.lemmas.Slice.Zip.{AllZip-long}
use Rattle.bcj_parser_trees.specs.Trees as source
use Rattle.bcj_symbolic_trees.specs.Units.{PlainMethod, PlainClass, PlainUnit}
use Rattle.bcj_symbolic_measure.specs.Bodies.{init_frame_size, init_pieces, method_frame_size, method_pieces, methods_frame_size, methods_pieces, class_frame_size, class_bodies, largest_words, words}
use Rattle.bcj_symbolic_measure.specs.Measures.{frames_of, methods_of}
use Rattle.bcj_symbolic_measure.specs.Objects.{object_size}
use Rattle.bcj_symbolic_measure.specs.Totals.{larger}
use Rattle.bcj_decl_rules.specs.Faults.{member_at}
use Rattle.bcj_typing_rules.specs.Members.{Added, Made, constructor_members, method_members, ConstructorsBecome, of_interface, by_default, each_written, ConstructorBecomes, MethodBecomes, BecomesClass, becomes_class}
use Rattle.bcj_typing.specs.declared.stop.Limited.TheVariants as limited
use Rattle.bcj_typing.specs.Limits as typing
use Rattle.bcj_typing.specs.Limits.{Size, Past}
use Rattle.bcj_object_rules.specs.declared.limit.ObjectLimit.TheVariants as limit
use Rattle.bcj_object_rules.specs.Sizes.{IsSmall, excess, max_object}

-- ---- numbers

larger_within : (a b n : ℕ) → larger a b ≤ n → (a ≤ n) × (b ≤ n)
unfolding larger
larger_within a b n h = (omega arith, omega arith)

within_larger : (a b n : ℕ) → a ≤ n → b ≤ n → larger a b ≤ n
unfolding larger
within_larger a b n h k = omega arith

-- ---- options

neither : {A : Type 0} (o p : Option A) → option_or o p ≡ None → (o ≡ None) × (p ≡ None)
neither None p e = (refl, e)
neither (Some x) p e = (e, absurd cc)

none_of_two : {A : Type 0} (o p : Option A) → o ≡ None → p ≡ None → option_or o p ≡ None
none_of_two o p e f = ap (λ q. option_or q p) e ∙ f

-- ---- bodies

abbrev Fits : Size → Type 0
Fits s = (s.frame ≤ typing.frame_limit) × (s.words ≤ typing.method_limit)

fits_not_past : (at : ℕ) (s : Size) → Fits s → typing.body_past at s ≡ None
fits_not_past at s f =
    ap (λ b. if b then Some (record { what = limited.Frame; at = at }) else (if nat_lt typing.method_limit s.words then Some (record { what = limited.Method; at = at }) else None)) (le-ltb typing.frame_limit s.frame f.0)
    ∙ ap (λ b. if b then Some (record { what = limited.Method; at = at }) else None) (le-ltb typing.method_limit s.words f.1)

-- the same of a test that comes to none
chosen : {A : Type 0} (b : Bool) (x : A) (o : Option A) → (if b then Some x else o) ≡ None → (b ≡ false) × (o ≡ None)
chosen true x o e = (absurd cc, absurd cc)
chosen false x o e = (refl, e)

not_past_fits : (at : ℕ) (s : Size) → typing.body_past at s ≡ None → Fits s
not_past_fits at s e =
    let frame = chosen (nat_lt typing.frame_limit s.frame) _ _ e in
    let method = chosen (nat_lt typing.method_limit s.words) _ _ frame.1 in
    (ltb-false typing.frame_limit s.frame frame.0, ltb-false typing.method_limit s.words method.0)

fit_not_past : (places : List ℕ) (sizes : List Size) → AllByRecursion Fits sizes → typing.bodies_past places sizes ≡ None
fit_not_past [] sizes f = refl
fit_not_past (at ∷ places) [] f = refl
fit_not_past (at ∷ places) (s ∷ sizes) f = none_of_two (typing.body_past at s) (typing.bodies_past places sizes) (fits_not_past at s f.0) (fit_not_past places sizes f.1)

not_past_fit : (places : List ℕ) (sizes : List Size) → length sizes ≤ length places → typing.bodies_past places sizes ≡ None → AllByRecursion Fits sizes
not_past_fit places [] few e = tt
not_past_fit [] (s ∷ sizes) few e = absurd (omega arith)
not_past_fit (at ∷ places) (s ∷ sizes) few e =
    let both = neither (typing.body_past at s) (typing.bodies_past places sizes) e in
    (not_past_fits at s both.0, not_past_fit places sizes (omega arith) both.1)

-- ---- classes

methods_fit : (c : PlainClass) (ms : List PlainMethod) → methods_frame_size ms ≤ typing.frame_limit → largest_words (methods_pieces c ms) ≤ typing.method_limit
    → AllByRecursion Fits (map (typing.method_size c) ms)
methods_fit c [] h k = tt
methods_fit c (m ∷ ms) h k =
    let frames = larger_within (method_frame_size m) (methods_frame_size ms) typing.frame_limit h in
    let sizes = larger_within (words (method_pieces c m)) (largest_words (methods_pieces c ms)) typing.method_limit k in
    ((frames.0, sizes.0), methods_fit c ms frames.1 sizes.1)

fit_methods : (c : PlainClass) (ms : List PlainMethod) → AllByRecursion Fits (map (typing.method_size c) ms)
    → (methods_frame_size ms ≤ typing.frame_limit) × (largest_words (methods_pieces c ms) ≤ typing.method_limit)
fit_methods c [] f = (omega arith, omega arith)
fit_methods c (m ∷ ms) f =
    let rest = fit_methods c ms f.1 in
    (within_larger (method_frame_size m) (methods_frame_size ms) typing.frame_limit f.0.0 rest.0, within_larger (words (method_pieces c m)) (largest_words (methods_pieces c ms)) typing.method_limit f.0.1 rest.1)

class_fits : (c : PlainClass) → class_frame_size c ≤ typing.frame_limit → largest_words (class_bodies c) ≤ typing.method_limit → AllByRecursion Fits (typing.body_sizes c)
class_fits c h k =
    let frames = larger_within (init_frame_size c) (methods_frame_size c.methods) typing.frame_limit h in
    let sizes = larger_within (words (init_pieces c)) (largest_words (methods_pieces c c.methods)) typing.method_limit k in
    ((frames.0, sizes.0), methods_fit c c.methods frames.1 sizes.1)

fits_class : (c : PlainClass) → AllByRecursion Fits (typing.body_sizes c) → (class_frame_size c ≤ typing.frame_limit) × (largest_words (class_bodies c) ≤ typing.method_limit)
fits_class c f =
    let rest = fit_methods c c.methods f.1 in
    (within_larger (init_frame_size c) (methods_frame_size c.methods) typing.frame_limit f.0.0 rest.0, within_larger (words (init_pieces c)) (largest_words (methods_pieces c c.methods)) typing.method_limit f.0.1 rest.1)

-- ---- places

or_type_length : (at : ℕ) (places : List ℕ) → length places ≤ length (typing.or_type at places)
or_type_length at [] = omega arith
or_type_length at (p ∷ ps) = omega arith

or_type_some : (at : ℕ) (places : List ℕ) → 1 ≤ length (typing.or_type at places)
or_type_some at [] = omega arith
or_type_some at (p ∷ ps) = omega arith

-- each constructor has a place
constructors_placed : (units : List source.PlainUnit) (t : source.PlainType) (i : Added) (made : List Made) → ConstructorsBecome units t i made → length made ≤ length (typing.constructor_places t)
constructors_placed units t i made (of_interface is) = omega arith
constructors_placed units t i made (by_default {a} is none start) =
    subst (λ b. 1 ≤ length (if b then [] else typing.or_type t.at (map member_at (constructor_members t)))) (sym is) (or_type_some t.at (map member_at (constructor_members t)))
constructors_placed units t i made (each_written {m} {ms} is are become) =
    let long : length made ≡ length (m ∷ ms) = AllZip-long (ConstructorBecomes units t i) (m ∷ ms) made become in
    let all : length (map member_at (constructor_members t)) ≡ length (m ∷ ms) = length-map (constructor_members t) member_at ∙ ap length are in
    let least = or_type_length t.at (map member_at (constructor_members t)) in
    subst (λ b. length made ≤ length (if b then [] else typing.or_type t.at (map member_at (constructor_members t)))) (sym is) (omega (arith, long, all, least))

class_placed : (units : List source.PlainUnit) (t : source.PlainType) (c : PlainClass) → BecomesClass units t c → length (typing.body_sizes c) ≤ length (typing.body_places t)
class_placed units t c (becomes_class {fields} {s} {i} constructors methods fs ss is cs ms) =
    let placed = constructors_placed units t i constructors cs in
    let written : length methods ≡ length (method_members t) = AllZip-long (MethodBecomes units t) (method_members t) methods ms in
    omega (
      arith,
      placed,
      written,
      length-map c.methods (typing.method_size c),
      length-map (constructors ++ methods) (λ (m : Made). m.method),
      length-append constructors methods,
      length-append (typing.constructor_places t) (map member_at (method_members t)),
      length-map (method_members t) member_at,
    )

-- ---- units

classes_not_past : (ts : List source.PlainType) (cs : List PlainClass) → frames_of cs ≤ typing.frame_limit → methods_of cs ≤ typing.method_limit → typing.classes_past ts cs ≡ None
classes_not_past [] cs h k = refl
classes_not_past (t ∷ ts) [] h k = refl
classes_not_past (t ∷ ts) (c ∷ cs) h k =
    let frames = larger_within (class_frame_size c) (frames_of cs) typing.frame_limit h in
    let sizes = larger_within (largest_words (class_bodies c)) (methods_of cs) typing.method_limit k in
    none_of_two (typing.class_past t c) (typing.classes_past ts cs) (fit_not_past (typing.body_places t) (typing.body_sizes c) (class_fits c frames.0 sizes.0)) (classes_not_past ts cs frames.1 sizes.1)

not_past_classes : (units : List source.PlainUnit) (ts : List source.PlainType) (cs : List PlainClass) → AllZip (BecomesClass units) ts cs → typing.classes_past ts cs ≡ None
    → (frames_of cs ≤ typing.frame_limit) × (methods_of cs ≤ typing.method_limit)
not_past_classes units [] [] become e = (omega arith, omega arith)
not_past_classes units [] (c ∷ cs) become e = absurd become
not_past_classes units (t ∷ ts) [] become e = absurd become
not_past_classes units (t ∷ ts) (c ∷ cs) become e =
    let both = neither (typing.class_past t c) (typing.classes_past ts cs) e in
    let class = fits_class c (not_past_fit (typing.body_places t) (typing.body_sizes c) (class_placed units t c become.0) both.0) in
    let rest = not_past_classes units ts cs become.1 both.1 in
    (within_larger (class_frame_size c) (frames_of cs) typing.frame_limit class.0 rest.0, within_larger (largest_words (class_bodies c)) (methods_of cs) typing.method_limit class.1 rest.1)

-- within the limits by its largest numbers, a unit has no number past its own
pub small_within : (ts : List source.PlainType) (u : PlainUnit) → IsSmall u → typing.first_past ts u ≡ None
small_within ts u s =
    none_of_two (typing.classes_past ts u.classes) (typing.object_past ts u) (classes_not_past ts u.classes s.frame s.method)
    (ap (λ b. if b then Some (record { what = limited.Object; at = typing.object_place ts }) else None) (le-ltb typing.object_limit (object_size u) s.object))

-- and the other way round, of what the types become
pub within_small : (units : List source.PlainUnit) (ts : List source.PlainType) (u : PlainUnit) → AllZip (BecomesClass units) ts u.classes → typing.first_past ts u ≡ None → IsSmall u
within_small units ts u become e =
    let both = neither (typing.classes_past ts u.classes) (typing.object_past ts u) e in
    let classes = not_past_classes units ts u.classes become both.0 in
    let object = chosen (nat_lt typing.object_limit (object_size u)) _ _ both.1 in
    record { frame = classes.0; method = classes.1; object = ltb-false typing.object_limit (object_size u) object.0 }

-- such a unit has no number of which its object is refused
pub small_object : (u : PlainUnit) → IsSmall u → excess u ≡ None
unfolding excess
small_object u s =
    ap (λ b. if b then Some limit.Frame else if nat_lt typing.method_limit (methods_of u.classes) then Some limit.Method else if nat_lt max_object (object_size u) then Some limit.Object else None) (le-ltb typing.frame_limit (frames_of u.classes) s.frame)
    ∙ ap (λ b. if b then Some limit.Method else if nat_lt max_object (object_size u) then Some limit.Object else None) (le-ltb typing.method_limit (methods_of u.classes) s.method)
    ∙ ap (λ b. if b then Some limit.Object else None) (le-ltb max_object (object_size u) s.object)
