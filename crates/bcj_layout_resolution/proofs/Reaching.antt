-- A search over superinterfaces finds nothing where no type above has what is sought.
use Rattle.std.proofs.Common.{◌≡◌, ◌<◌, ◌≤◌, List, [], ◌∷◌, ◌++◌, slice_get, length, Option, Some, None, true, false, cond, ◌||◌, refl, sym, ◌∙◌, ap, subst, ℕ, zero, suc, inl, inr, append_assoc, is_none, arith}
use Rattle.std.proofs.lemmas.Bool.{cases_Bool, and_parts}
use Rattle.std.proofs.lemmas.Option.{slice_get_within}
use Rattle.std.proofs.lemmas.List.{length-map}
use Rattle.std.specs.List.{list_all}
use Rattle.std.specs.Option.{option_or, option_map_or}
use Rattle.std.specs.Str.{bytes_eq}
use Rattle.bcj_symbolic_trees.specs.declared.class_tree.ClassHead.{ClassHead}
use Rattle.bcj_symbolic_trees.specs.Names.{object_name}
use Rattle.bcj_tables_rules.specs.declared.records.ClassRecord.{ClassRecord}
use Rattle.bcj_hier_rules.specs.Shapes.{Named, Shape, Mixture, found, record_shape, is_method}
use Rattle.bcj_hier_rules.specs.Heads.{is_placed}
use Rattle.bcj_hier_rules.specs.Loading.{is_interface, load_error, Implements, self, through, interface, implements}
use Rattle.bcj_hier_rules.specs.Resolution.{same_bool, first_of, of_option, field_within, interface_method_within}
use Rattle.bcj_hier_soundness.proofs.Loads.{superinterfaces_load}
use Rattle.bcj_hier_soundness.proofs.Steps.{each_interface_is_found}
use Rattle.bcj_hier_soundness.proofs.Names.{same_bytes}
use Rattle.bcj_layout_rules.specs.Rows.{Classes, mixture_of}
use Rattle.bcj_layout_resolution.specs.Places.{heads_in}
use Rattle.bcj_layout_resolution.specs.Searches.{IsWithout, own_field, own_method}

-- ---- records

-- the record of a type that is found
record Recorded (cs : Classes) (name : Named) (s : Shape) : Type 0 where
  number : ℕ
  class : ClassRecord
  there : slice_get cs number ≡ Some class
  shape : record_shape class ≡ s
  named : class.head.name ≡ name

-- each type that is found has a record
recorded : (cs : Classes) (name : Named) (s : Shape) → found (mixture_of cs) name ≡ Some s → Recorded cs name s
recorded [] name s e = cc
recorded (c ∷ cs) name s e =
    elim (cases_Bool (bytes_eq c.head.name name)) [
      | inl it ↦
          let both : Some (record_shape c) ≡ Some s = ap (λ b. cond b (Some (record_shape c)) (found (mixture_of cs) name)) (sym it) ∙ e in
          record { number = 0; class = c; there = refl; shape = let same : record_shape c ≡ s = cc in same; named = same_bytes c.head.name name it }
      | inr other ↦
          let rest : Recorded cs name s = recorded cs name s (ap (λ b. cond b (Some (record_shape c)) (found (mixture_of cs) name)) (sym other) ∙ e) in
          record { number = suc rest.number; class = rest.class; there = rest.there; shape = rest.shape; named = rest.named }
    ]

-- interfaces have no superclass
abbrev IsPlaced : Classes → Type 0
IsPlaced cs = (k : ℕ) (r : ClassRecord) → slice_get cs k ≡ Some r → r.head.interface ≡ true → r.head.superclass ≡ None

-- an interface at its place has no superclass
none_by_placed : (h : ClassHead) → is_placed h ≡ true → h.interface ≡ true → (o : Option Named) → h.superclass ≡ o → o ≡ None
none_by_placed h placed face None e = refl
none_by_placed h placed face (Some p) e =
    let wrong : false ≡ true =
    ap (λ b. same_bool false (b || bytes_eq h.name object_name)) (sym face)
    ∙ (ap (λ o. same_bool (is_none o) (h.interface || bytes_eq h.name object_name)) (sym e) ∙ placed)
    in
    cc

-- where all heads stand at their places, interfaces have no superclass
pub placed : (cs : Classes) → list_all is_placed (heads_in cs) ≡ true → IsPlaced cs
placed [] all k r e face = cc
placed (c ∷ cs) all zero r e face =
    let parts : (is_placed c.head ≡ true) × (list_all is_placed (heads_in cs) ≡ true) = and_parts (is_placed c.head) (list_all is_placed (heads_in cs)) all in
    let same : c ≡ r = cc in
    let P : ClassRecord → Type 0 = λ x. x.head.interface ≡ true → x.head.superclass ≡ None in
    subst P same (λ f. none_by_placed c.head parts.0 f c.head.superclass refl) face
placed (c ∷ cs) all (suc k) r e face =
    let parts : (is_placed c.head ≡ true) × (list_all is_placed (heads_in cs) ≡ true) = and_parts (is_placed c.head) (list_all is_placed (heads_in cs)) all in
    placed cs parts.1 k r e face

-- ---- searches

-- a search that asks the interface itself, and then its superinterfaces in order
pub record IsWalk {X : Type 0} (m : Mixture) (own : Shape → Option X) (f : ℕ → Named → Option X) : Type 0 where
  pub start : (p : Named) → f zero p ≡ None
  pub step : (n : ℕ) (p : Named) (s : Shape) → found m p ≡ Some s → s.head.superclass ≡ None → f (suc n) p ≡ option_or (own s) (first_of (f n) s.head.interfaces)

-- nothing behind an answer changes nothing
or_nothing : {X : Type 0} (o : Option X) → option_or o None ≡ o
or_nothing None = refl
or_nothing (Some x) = refl

-- two searches that find none find none together
both_none : {X : Type 0} (a b : Option X) → a ≡ None → b ≡ None → option_or a b ≡ None
both_none a b ea eb = ap (λ o. option_or o b) ea ∙ eb

-- the type that an interface's name finds is an interface
face_of : (m : Mixture) (p : Named) (s : Shape) → found m p ≡ Some s → is_interface m p ≡ true → s.head.interface ≡ true
face_of m p s e face = ap (λ o. option_map_or (λ (x : Shape). x.head.interface) o false) (sym e) ∙ face

-- what an interface reaches, a type below it reaches
without_beside : {X : Type 0} (cs : Classes) (own : Shape → Option X) (p i : Named) (s : Shape) (front back : List Named) → found (mixture_of cs) p ≡ Some s → s.head.interfaces ≡ front ++ i ∷ back
    → ((k : ℕ) → IsWithout cs own p k) → (k : ℕ) → IsWithout cs own i k
without_beside cs own p i s front back e up without k r there loads reached =
    let above : Implements (mixture_of cs) i r.head.name = (each_interface_is_found (mixture_of cs) i r.head.name).0 reached in
    without k r there loads ((each_interface_is_found (mixture_of cs) p r.head.name).1 (through e (interface front back up) above))

-- one step of such a search, where the superinterfaces answer nothing
at_shape : {X : Type 0} (cs : Classes) (own : Shape → Option X) (f : ℕ → Named → Option X) → IsWalk (mixture_of cs) own f → IsPlaced cs → (n : ℕ) (p : Named) (s : Shape)
    → found (mixture_of cs) p ≡ Some s → load_error (mixture_of cs) p ≡ None → is_interface (mixture_of cs) p ≡ true → ((k : ℕ) → IsWithout cs own p k)
    → first_of (f n) s.head.interfaces ≡ None → f (suc n) p ≡ None
at_shape cs own f walk places n p s e loads face without beside =
    let r : Recorded cs p s = recorded cs p s e in
    let is_face : s.head.interface ≡ true = face_of (mixture_of cs) p s e face in
    let class_face : r.class.head.interface ≡ true = ap (λ (x : Shape). x.head.interface) r.shape ∙ is_face in
    let alone : s.head.superclass ≡ None = ap (λ (x : Shape). x.head.superclass) (sym r.shape) ∙ places r.number r.class r.there class_face in
    let reached : implements (mixture_of cs) p r.class.head.name ≡ true =
    ap (implements (mixture_of cs) p) r.named ∙ (each_interface_is_found (mixture_of cs) p p).1 (self e is_face)
    in
    let own_none : own s ≡ None = ap own (sym r.shape) ∙ without r.number r.class r.there (ap (load_error (mixture_of cs)) r.named ∙ loads) reached in
    walk.step n p s e alone ∙ both_none (own s) (first_of (f n) s.head.interfaces) own_none beside

-- the superinterfaces answer nothing, since what they reach the interface reaches
beside_none : {X : Type 0} (cs : Classes) (own : Shape → Option X) (f : ℕ → Named → Option X) (n : ℕ) (p : Named) (s : Shape)
    → ((i : Named) → load_error (mixture_of cs) i ≡ None → is_interface (mixture_of cs) i ≡ true → ((k : ℕ) → IsWithout cs own i k) → f n i ≡ None)
    → found (mixture_of cs) p ≡ Some s → load_error (mixture_of cs) p ≡ None → ((k : ℕ) → IsWithout cs own p k) → (front names : List Named) → s.head.interfaces ≡ front ++ names
    → first_of (f n) names ≡ None
beside_none cs own f n p s again e loads without front [] up = refl
beside_none cs own f n p s again e loads without front (i ∷ rest) up =
    let part : (load_error (mixture_of cs) i ≡ None) × (is_interface (mixture_of cs) i ≡ true) = superinterfaces_load (mixture_of cs) p i s front rest loads e up in
    both_none (f n i) (first_of (f n) rest) (again i part.0 part.1 (without_beside cs own p i s front rest e up without))
    (beside_none cs own f n p s again e loads without (front ++ i ∷ []) rest (up ∙ sym (append_assoc front (i ∷ []) rest)))

-- one step of such a search
walk_at : {X : Type 0} (cs : Classes) (own : Shape → Option X) (f : ℕ → Named → Option X) → IsWalk (mixture_of cs) own f → IsPlaced cs → (n : ℕ) (p : Named)
    → ((i : Named) → load_error (mixture_of cs) i ≡ None → is_interface (mixture_of cs) i ≡ true → ((k : ℕ) → IsWithout cs own i k) → f n i ≡ None)
    → load_error (mixture_of cs) p ≡ None → is_interface (mixture_of cs) p ≡ true → ((k : ℕ) → IsWithout cs own p k)
    → (o : Option Shape) → found (mixture_of cs) p ≡ o → f (suc n) p ≡ None
walk_at cs own f walk places n p again loads face without None e =
    let wrong : false ≡ true = ap (λ o. option_map_or (λ (x : Shape). x.head.interface) o false) (sym e) ∙ face in
    cc
walk_at cs own f walk places n p again loads face without (Some s) e =
    at_shape cs own f walk places n p s e loads face without (beside_none cs own f n p s again e loads without [] s.head.interfaces refl)

-- where no type above has such a member, the search finds none
pub walk_none : {X : Type 0} (cs : Classes) (own : Shape → Option X) (f : ℕ → Named → Option X) → IsWalk (mixture_of cs) own f → IsPlaced cs → (n : ℕ) (p : Named)
    → load_error (mixture_of cs) p ≡ None → is_interface (mixture_of cs) p ≡ true → ((k : ℕ) → IsWithout cs own p k) → f n p ≡ None
walk_none cs own f walk places zero p loads face without = walk.start p
walk_none cs own f walk places (suc n) p loads face without =
    walk_at cs own f walk places n p (λ i l g w. walk_none cs own f walk places n i l g w) loads face without (found (mixture_of cs) p) refl

-- ---- both searches

-- the search for a field is such a one
field_walk : (cs : Classes) (name desc : Named) → IsWalk (mixture_of cs) (own_field name desc) (λ n. field_within (mixture_of cs) n name desc)
field_walk cs name desc = record {
  start = λ p. refl;
  step = λ n p s e alone.
      let m : Mixture = mixture_of cs in
      ap
      (λ o. elim o [ None ↦ None | Some x ↦ option_or (own_field name desc x) (option_or (first_of (field_within m n name desc) x.head.interfaces) (of_option (field_within m n name desc) x.head.superclass)) ])
      e
      ∙ (ap (λ o. option_or (own_field name desc s) (option_or (first_of (field_within m n name desc) s.head.interfaces) (of_option (field_within m n name desc) o))) alone
      ∙ ap (option_or (own_field name desc s)) (or_nothing (first_of (field_within m n name desc) s.head.interfaces)));
}

-- and so is that for a method of an interface
method_walk : (cs : Classes) (name desc : Named) → IsWalk (mixture_of cs) (own_method (is_method name desc)) (λ n. interface_method_within (mixture_of cs) n name desc)
method_walk cs name desc = record {
  start = λ p. refl;
  step = λ n p s e alone.
      ap
      (λ o. elim o [ None ↦ None | Some x ↦ option_or (own_method (is_method name desc) x) (first_of (interface_method_within (mixture_of cs) n name desc) x.head.interfaces) ])
      e;
}

-- a search for a field that no type above has
pub no_field : (cs : Classes) (name desc p : Named) → list_all is_placed (heads_in cs) ≡ true → load_error (mixture_of cs) p ≡ None → is_interface (mixture_of cs) p ≡ true
    → ((k : ℕ) → IsWithout cs (own_field name desc) p k) → (n : ℕ) → field_within (mixture_of cs) n name desc p ≡ None
no_field cs name desc p all loads face without n =
    walk_none cs (own_field name desc) (λ k. field_within (mixture_of cs) k name desc) (field_walk cs name desc) (placed cs all) n p loads face without

-- a search for a method that no type above has
pub no_method : (cs : Classes) (name desc p : Named) → list_all is_placed (heads_in cs) ≡ true → load_error (mixture_of cs) p ≡ None → is_interface (mixture_of cs) p ≡ true
    → ((k : ℕ) → IsWithout cs (own_method (is_method name desc)) p k) → (n : ℕ) → interface_method_within (mixture_of cs) n name desc p ≡ None
no_method cs name desc p all loads face without n =
    walk_none cs (own_method (is_method name desc)) (λ k. interface_method_within (mixture_of cs) k name desc) (method_walk cs name desc) (placed cs all) n p loads face without

-- no number past the last one is that of a type
pub all_without : {X : Type 0} (heads : List ClassHead) (cs : Classes) (own : Shape → Option X) (type : Named) (n : ℕ) → heads ≡ heads_in cs → length heads ≤ n
    → ((k : ℕ) → k < n → IsWithout cs own type k) → (k : ℕ) → IsWithout cs own type k
all_without heads cs own type n agree end without k r there =
    let within : k < length cs = slice_get_within cs k r there in
    let count : length heads ≡ length cs = ap length agree ∙ length-map cs (λ (x : ClassRecord). x.head) in
    without k (omega arith) r there
