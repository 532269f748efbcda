-- A search that leaves out hidden methods finds what one finds that doesn't.
use Rattle.std.proofs.Common.{◌≡◌, List, [], ◌∷◌, map, filter, Some, None, Bool, true, false, cond, not, ◌||◌, ◌&&◌, refl, sym, ◌∙◌, ap, subst, inl, inr}
use Rattle.std.proofs.lemmas.Bool.{cases_Bool, and_parts}
use Rattle.std.proofs.lemmas.List.Folds.{find-append, list_any_at}
use Rattle.std.specs.List.{Contains, find, list_any, list_all, flat_map}
use Rattle.std.specs.Option.{option_or, option_and_then, option_map_or}
use Rattle.std.specs.Str.{bytes_eq}
use Rattle.bcj_symbolic_trees.specs.Names.{constructor_name}
use Rattle.bcj_symbolic_trees.specs.Same.{same_types}
use Rattle.bcj_symbolic_trees.proofs.SameLemmas.{same_types-Decides}
use Rattle.bcj_decl_rules.specs.World.{Named, Method, Declared, World, type_named}
use Rattle.bcj_decl_rules.specs.Members.{Visit, methods_at, method_passes, declares_method, is_constructor, same_signature, methods_of_type, IsMember, declared, inherited, Passes, from}
use Rattle.bcj_decl_rules.specs.Methods.{methods_named, candidates, Chooses}
use Rattle.bcj_decl_rules.specs.function.Above.{types_searched, HasSameFirsts}
use Rattle.bcj_decl_soundness.proofs.Climbing.{same_bytes, bytes_same}
use Rattle.bcj_decl_methods.specs.Candidates.{is_open, open_methods, simple_candidates}
use Rattle.bcj_decl_methods.specs.Laws as law
use Rattle.bcj_decl_methods.proofs.Finding.{both_true, find_filter, find_alike, find_none, any_none, or_same, find_flat, flat_alike, any_found}
use Rattle.bcj_decl_methods.proofs.Choosing.{Respects, FirstsAgree, choices_alike}
use Rattle.bcj_decl_methods.proofs.Visiting.{Reach, direct, through, Below, EachBelow, Fair, Laid, further_visits, laid_visits}

-- ---- a private method has none of its kind above it

-- an open method of the same name and parameters
record Twin (m x : Method) : Type 0 where
  name : m.name ≡ x.name
  params : m.params ≡ x.params
  visible : x.is_private ≡ false
  plain : is_constructor x ≡ false

signature_parts : (m n : Method) → same_signature m n ≡ true → (m.name ≡ n.name) × (m.params ≡ n.params)
signature_parts m n h =
    let parts : (bytes_eq m.name n.name ≡ true) × (same_types m.params n.params ≡ true) = and_parts _ _ h in
    (same_bytes m.name n.name parts.0, (same_types-Decides m.params n.params).0 parts.1)

signature_of : (m n : Method) → m.name ≡ n.name → m.params ≡ n.params → same_signature m n ≡ true
signature_of m n e f = both_true _ _ (ap (bytes_eq m.name) (sym e) ∙ bytes_same m.name) ((same_types-Decides m.params n.params).1 f)

constructor_alike : (m x : Method) → m.name ≡ x.name → is_constructor m ≡ is_constructor x
constructor_alike m x e = ap (λ n. bytes_eq n constructor_name) e

-- what passes to a type, or a declaration of its own in place of it, is a member
record Kept (w : World) (t : Declared) (m : Method) : Type 0 where
  method : Method
  twin : Twin m method
  member : IsMember w t method

kept_by : (w : World) → law.PrivateMethodsStandAlone w → (called : Named) (t : Declared) → type_named w called ≡ Some t → (m x : Method) → Twin m x → Passes w t x → Kept w t m
kept_by w alone called t known m x twin passes =
    elim (cases_Bool (declares_method x t)) [
      | inr lacks ↦ record { method = x; twin = twin; member = inherited lacks passes }
      | inl has ↦
          let own : (d : Method) × Contains t.methods d × (same_signature x d ≡ true) = any_found (same_signature x) t.methods has in
          let parts : (x.name ≡ own.0.name) × (x.params ≡ own.0.params) = signature_parts x own.0 own.2 in
          let plain : is_constructor own.0 ≡ false = sym (constructor_alike x own.0 parts.0) ∙ twin.plain in
          elim (cases_Bool own.0.is_private) [
            | inl hidden ↦ absurd (alone called t known own.0 x own.1 hidden plain passes (signature_of own.0 x (sym parts.0) (sym parts.1)))
            | inr visible ↦ record { method = own.0; twin = record { name = twin.name ∙ parts.0; params = twin.params ∙ parts.1; visible = visible; plain = plain }; member = declared own.1 }
          ]
    ]

record Passing (w : World) (t : Declared) (m : Method) : Type 0 where
  method : Method
  twin : Twin m method
  passes : Passes w t method

passing : (w : World) → law.PrivateMethodsStandAlone w → (k : Declared) (name : Named) (u : Declared) (m : Method) → Reach w k name → type_named w name ≡ Some u → Contains u.methods m
    → m.is_private ≡ false → is_constructor m ≡ false → Passing w k m
passing w alone k name u m (direct c) named inside visible plain =
    record { method = m; twin = record { name = refl; params = refl; visible = visible; plain = plain }; passes = from name u c named visible plain (declared inside) }
passing w alone k name u m (through step j c known up) named inside visible plain =
    let above : Passing w j m = passing w alone j name u m up named inside visible plain in
    let kept : Kept w j m = kept_by w alone step j known m above.method above.twin above.passes in
    record { method = kept.method; twin = kept.twin; passes = from step j c known kept.twin.visible kept.twin.plain kept.member }

none_above : (w : World) → law.PrivateMethodsStandAlone w → (k : Declared) (name : Named) (u : Declared) (d m : Method) → Below w k name → type_named w name ≡ Some u → Contains u.methods m
    → m.is_private ≡ false → is_constructor m ≡ false → Contains k.methods d → d.is_private ≡ true → same_signature m d ≡ true → ⊥
none_above w alone k name u d m below named inside visible plain own hidden same =
    let parts : (m.name ≡ d.name) × (m.params ≡ d.params) = signature_parts m d same in
    let above : Passing w k m = passing w alone k name u m below.reach named inside visible plain in
    alone below.called k below.known d above.method own hidden (sym (constructor_alike m d parts.0) ∙ plain) above.passes
    (signature_of d above.method (sym parts.0 ∙ above.twin.name) (sym parts.1 ∙ above.twin.params))

-- ---- one visit

abbrev open_types : Declared → List Method
open_types t = filter is_open t.methods

-- no open method of the type passes the test
abbrev has_none : (Method → Bool) → Declared → Bool
has_none g t = not (list_any (λ m. is_open m && g m) t.methods)

not_true : (b : Bool) → not b ≡ true → b ≡ false
not_true true e = cc
not_true false e = refl

open_parts : (m : Method) → is_open m ≡ true → (m.is_private ≡ false) × (is_constructor m ≡ false)
open_parts m h =
    let parts : (not m.is_private ≡ true) × (not (is_constructor m) ≡ true) = and_parts _ _ h in
    (not_true m.is_private parts.0, not_true (is_constructor m) parts.1)

open_from : (m : Method) → m.is_private ≡ false → is_constructor m ≡ false → is_open m ≡ true
open_from m p q = both_true _ _ (ap not p) (ap not q)

not_declared : (w : World) → law.PrivateMethodsStandAlone w → (g : Method → Bool) → Respects g → (k : Declared) (name : Named) (u : Declared) (m : Method) → Below w k name → type_named w name ≡ Some u
    → Contains u.methods m → is_open m ≡ true → g m ≡ true → has_none g k ≡ true → declares_method m k ≡ false
not_declared w alone g respects k name u m below named inside visible it none =
    elim (cases_Bool (declares_method m k)) [
      | inr lacks ↦ lacks
      | inl has ↦
          let own : (d : Method) × Contains k.methods d × (same_signature m d ≡ true) = any_found (same_signature m) k.methods has in
          let signature : (m.name ≡ own.0.name) × (m.params ≡ own.0.params) = signature_parts m own.0 own.2 in
          let parts : (m.is_private ≡ false) × (is_constructor m ≡ false) = open_parts m visible in
          elim (cases_Bool own.0.is_private) [
            | inl hidden ↦ absurd (none_above w alone k name u own.0 m below named inside parts.0 parts.1 own.1 hidden own.2)
            | inr seen ↦
                let passes : (is_open own.0 && g own.0) ≡ true =
                both_true _ _ (open_from own.0 seen (sym (constructor_alike m own.0 signature.0) ∙ parts.1)) (sym (respects m own.0 signature.0 signature.1 parts.0 seen) ∙ it) in
                let some : list_any (λ x. is_open x && g x) k.methods ≡ true =
                list_any_at (λ x. is_open x && g x) k.methods own.1.0 own.0 own.1.1 (ap (λ x. is_open x && g x) own.1.2 ∙ passes) in
                let wrong : true ≡ false = sym some ∙ not_true (list_any (λ x. is_open x && g x) k.methods) none in
                absurd (cc)
          ]
    ]

none_on_way : (w : World) → law.PrivateMethodsStandAlone w → (g : Method → Bool) → Respects g → (way : List Declared) (name : Named) (u : Declared) (m : Method) → EachBelow w way name
    → type_named w name ≡ Some u → Contains u.methods m → is_open m ≡ true → g m ≡ true → list_all (has_none g) way ≡ true → list_any (declares_method m) way ≡ false
none_on_way w alone g respects [] name u m below named inside visible it none = refl
none_on_way w alone g respects (k ∷ ks) name u m below named inside visible it none =
    let parts : (has_none g k ≡ true) × (list_all (has_none g) ks ≡ true) = and_parts _ _ none in
    ap (λ b. b || list_any (declares_method m) ks) (not_declared w alone g respects k name u m below.0 named inside visible it parts.0)
    ∙ none_on_way w alone g respects ks name u m below.1 named inside visible it parts.1

passes_by : (a b c : Bool) → ((a && b) ≡ true → c ≡ false) → (a && (b && not c)) ≡ (a && b)
passes_by false b c h = refl
passes_by true false c h = refl
passes_by true true c h = ap not (h refl)

passes_way : (way : List Declared) (lowest : Declared) (rest : List Declared) (m : Method) → way ≡ lowest ∷ rest
    → method_passes way m ≡ (not m.is_private && (not (is_constructor m) && not (list_any (declares_method m) way)))
passes_way [] lowest rest m e = cc
passes_way (t ∷ ts) lowest rest m e = refl

with_false : (b : Bool) → (b && false) ≡ false
with_false true = refl
with_false false = refl

passes_alike : (w : World) → law.PrivateMethodsStandAlone w → (g : Method → Bool) → Respects g → (v : Visit) → Fair w (has_none g) v → (m : Method) → Contains v.type.methods m
    → (method_passes v.way m && g m) ≡ (is_open m && g m)
passes_alike w alone g respects v fair m inside =
    elim (cases_Bool (g m)) [
      | inl it ↦
          ap (λ b. b && g m)
          (passes_way v.way fair.lowest fair.rest m fair.way_is
          ∙ passes_by (not m.is_private) (not (is_constructor m)) (list_any (declares_method m) v.way)
          (λ visible. none_on_way w alone g respects v.way fair.called v.type m fair.below fair.known inside visible it fair.shown))
      | inr lacks ↦ ap (λ b. method_passes v.way m && b) lacks ∙ (with_false (method_passes v.way m) ∙ (sym (with_false (is_open m)) ∙ ap (λ b. is_open m && b) (sym lacks)))
    ]

visit_alike : (w : World) → law.PrivateMethodsStandAlone w → (g : Method → Bool) → Respects g → (v : Visit) → Fair w (has_none g) v → find g (methods_at v) ≡ find g (open_types v.type)
visit_alike w alone g respects v fair =
    find_filter g (method_passes v.way) v.type.methods
    ∙ (find_alike (λ m. method_passes v.way m && g m) (λ m. is_open m && g m) v.type.methods (passes_alike w alone g respects v fair) ∙ sym (find_filter g is_open v.type.methods))

none_of : (g : Method → Bool) (t : Declared) → find g (open_types t) ≡ None → has_none g t ≡ true
none_of g t e = ap not (find_none (λ m. is_open m && g m) t.methods (sym (find_filter g is_open t.methods) ∙ e))

-- ---- all visits

visits_alike : (w : World) → law.PrivateMethodsStandAlone w → (g : Method → Bool) → Respects g → (vs : List Visit) → Laid w (has_none g) vs
    → find g (flat_map methods_at vs) ≡ find g (flat_map open_types (map (λ v. v.type) vs))
visits_alike w alone g respects [] laid = refl
visits_alike w alone g respects (v ∷ vs) laid =
    find-append g (methods_at v) (flat_map methods_at vs)
    ∙ (ap (λ o. option_or o (find g (flat_map methods_at vs))) (visit_alike w alone g respects v laid.0)
    ∙ (or_same (find g (open_types v.type)) (find g (flat_map methods_at vs)) (find g (flat_map open_types (map (λ u. u.type) vs)))
    (λ none. visits_alike w alone g respects vs (laid.1 (none_of g v.type none)))
    ∙ sym (find-append g (open_types v.type) (flat_map open_types (map (λ u. u.type) vs)))))

-- a test of the types, that the first of two lists is passed over
rest_alike : (q : Declared → Bool) (t : Declared) (ts us : List Declared) → q t ≡ false → find q (t ∷ ts) ≡ find q (t ∷ us) → find q ts ≡ find q us
rest_alike q t ts us lacks same = ap (λ b. cond b (Some t) (find q ts)) (sym lacks) ∙ (same ∙ ap (λ b. cond b (Some t) (find q us)) lacks)

and_any : (g : Method → Bool) (ms : List Method) → list_any g ms ≡ false → list_any (λ m. is_open m && g m) ms ≡ false
and_any g [] none = refl
and_any g (m ∷ ms) none =
    elim (cases_Bool (g m)) [
      | inl it ↦
          let wrong : true ≡ false = ap (λ b. b || list_any g ms) (sym it) ∙ none in
          absurd (cc)
      | inr lacks ↦
          ap (λ b. (is_open m && b) || list_any (λ x. is_open x && g x) ms) lacks
          ∙ (ap (λ b. b || list_any (λ x. is_open x && g x) ms) (with_false (is_open m)) ∙ and_any g ms (ap (λ b. b || list_any g ms) (sym lacks) ∙ none))
    ]

and_none : (g : Method → Bool) (ms : List Method) → find g ms ≡ None → find (λ m. is_open m && g m) ms ≡ None
and_none g ms none = any_none (λ m. is_open m && g m) ms (and_any g ms (find_none g ms none))

any_open : (g : Method → Bool) (t : Declared) → find g t.methods ≡ None → list_any g (open_types t) ≡ false
any_open g t none = find_none g (open_types t) (find_filter g is_open t.methods ∙ and_none g t.methods none)

types_alike : (g : Method → Bool) (t : Declared) (ts us : List Declared) → HasSameFirsts (t ∷ ts) (t ∷ us) → find g t.methods ≡ None → find g (flat_map open_types ts) ≡ find g (flat_map open_types us)
types_alike g t ts us same none =
    find_flat g open_types ts
    ∙ (ap (option_and_then (λ u. find g (open_types u)))
    (rest_alike (λ u. list_any g (open_types u)) t ts us (any_open g t none) (same (λ u. list_any g (open_types u))))
    ∙ sym (find_flat g open_types us))

-- ---- with the name

abbrev named_and : Named → (Method → Bool) → Method → Bool
named_and name g m = bytes_eq m.name name && g m

named_respects : (name : Named) (g : Method → Bool) → Respects g → Respects (named_and name g)
named_respects name g respects m n e f p q = λ i. bytes_eq (e i) name && respects m n e f p q i

and_swap : (a b c : Bool) → (a && (b && c)) ≡ (b && (a && c))
and_swap true true c = refl
and_swap true false c = refl
and_swap false true c = refl
and_swap false false c = refl

open_named : (name : Named) (g : Method → Bool) (t : Declared) → find g (open_methods name t) ≡ find (named_and name g) (open_types t)
open_named name g t =
    find_filter g is_open (methods_named name t.methods)
    ∙ (find_filter (λ m. is_open m && g m) (λ m. bytes_eq m.name name) t.methods
    ∙ ((λ i. find (λ m. and_swap (bytes_eq m.name name) (is_open m) (g m) i) t.methods) ∙ sym (find_filter (named_and name g) is_open t.methods)))

firsts_agree : (w : World) → law.PrivateMethodsStandAlone w → (class name : Named) (t : Declared) → type_named w class ≡ Some t → (us : List Declared) → HasSameFirsts (types_searched w t) (t ∷ us)
    → FirstsAgree (methods_named name (methods_of_type w t)) (simple_candidates name (t ∷ us))
unfolding methods_of_type
firsts_agree w alone class name t known us same g respects =
    let h : Method → Bool = named_and name g in
    find_filter g (λ m. bytes_eq m.name name) (methods_of_type w t)
    ∙ (find-append h (filter (λ m. true) t.methods) (flat_map methods_at (further_visits w t))
    ∙ (ap (λ o. option_or o (find h (flat_map methods_at (further_visits w t)))) (find_filter h (λ m. true) t.methods)
    ∙ (or_same (find h t.methods) (find h (flat_map methods_at (further_visits w t))) (find g (flat_map (open_methods name) us))
    (λ none.
    visits_alike w alone h (named_respects name g respects) (further_visits w t)
    (laid_visits w (has_none h) class t known (ap not (and_any h t.methods (find_none h t.methods none))))
    ∙ (types_alike h t (map (λ v. v.type) (further_visits w t)) us same none ∙ sym (flat_alike g h (open_methods name) open_types us (open_named name g))))
    ∙ (ap (λ o. option_or o (find g (flat_map (open_methods name) us))) (sym (find_filter g (λ m. bytes_eq m.name name) t.methods))
    ∙ sym (find-append g (methods_named name t.methods) (flat_map (open_methods name) us))))))

pub choices_agree : law.ChoicesAgree
unfolding candidates
choices_agree w alone class name t known us same caller args c =
    let P : List Method → Type 0 =
    λ l. (Chooses w caller args l c → Chooses w caller args (simple_candidates name (t ∷ us)) c) × (Chooses w caller args (simple_candidates name (t ∷ us)) c → Chooses w caller args l c) in
    subst P (ap (λ o. option_map_or (λ u. methods_named name (methods_of_type w u)) o []) (sym known))
    (choices_alike w caller args (methods_named name (methods_of_type w t)) (simple_candidates name (t ∷ us)) (firsts_agree w alone class name t known us same) c)
