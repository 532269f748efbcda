-- A method passes to a type just where a search along the steps from it finds a type that declares it.
use Rattle.std.proofs.Common.{◌≡◌, ℕ, Bool, true, false, ◌&&◌, List, [], ◌∷◌, ◌||◌, slice_get, Some, refl, sym, ap, subst, ◌∙◌}
use Rattle.std.proofs.lemmas.Bool.{and_parts}
use Rattle.std.proofs.lemmas.Slice.Eq.{bytes_eq-Decides}
use Rattle.std.specs.List.{Contains, list_any}
use Rattle.std.specs.Option.{option_map_or}
use Rattle.std.specs.Str.{bytes_eq}
use Rattle.bcj_symbolic_trees.specs.Same.{same_types}
use Rattle.bcj_symbolic_trees.proofs.SameLemmas.{same_types-Decides}
use Rattle.bcj_decl_rules.specs.World.{Method, Declared, World}
use Rattle.bcj_decl_rules.specs.Subtypes.{direct_supertypes}
use Rattle.bcj_decl_rules.specs.Members.{same_signature, declares_method, is_constructor, IsMember, declared, inherited, Passes, from}
use Rattle.bcj_decl_listing.specs.Places.{place_of, steps_from, steps_of_world}
use Rattle.bcj_decl_graph.specs.Reached.{steps_of, Reached, start, onward}
use Rattle.bcj_decl_graph.specs.Laws as law
use Rattle.bcj_decl_graph.specs.Laws.{closed_by}
use Rattle.bcj_decl_graph.proofs.Within.{GivenBy, given_item, steps_by}
use Rattle.bcj_decl_graph.proofs.Stepping.{type_of_place, Placed, placed, StepFrom, step_from, steps_to}

-- methods of one signature are of one signature with the same methods
same_as_both : (d n m : Method) → same_signature d n ≡ true → same_signature d m ≡ same_signature n m
same_as_both d n m e =
    let parts : (bytes_eq d.name n.name ≡ true) × (same_types d.params n.params ≡ true) = and_parts _ _ e in
    let name : d.name ≡ n.name = (bytes_eq-Decides d.name n.name).0 parts.0 in
    let params : d.params ≡ n.params = (same_types-Decides d.params n.params).0 parts.1 in
    ap (λ x. bytes_eq x m.name && same_types d.params m.params) name ∙ ap (λ x. bytes_eq n.name m.name && same_types x m.params) params

among_both : (d n : Method) (ms : List Method) → same_signature d n ≡ true → list_any (same_signature d) ms ≡ list_any (same_signature n) ms
among_both d n [] e = refl
among_both d n (m ∷ ms) e = ap (λ b. b || list_any (same_signature d) ms) (same_as_both d n m e) ∙ ap (λ b. same_signature n m || b) (among_both d n ms e)

-- a type declares a method of the one signature just where it declares one of the other
pub declares_both : (d n : Method) (t : Declared) → same_signature d n ≡ true → declares_method d t ≡ declares_method n t
declares_both d n t e = among_both d n t.methods e

closed_at : (w : World) (d : Method) (k : ℕ) (t : Declared) → slice_get w k ≡ Some t → closed_by w d k ≡ declares_method d t
closed_at w d k t e = ap (λ o. option_map_or (declares_method d) o false) e

-- what is reached from the steps of a place that is reached and open
reached_behind : (steps : List (List ℕ)) (closed : ℕ → Bool) (near far : List ℕ) (j : ℕ) → Reached steps closed near j → closed j ≡ false → steps_of steps j ≡ far → (k : ℕ) → Reached steps closed far k
    → Reached steps closed near k
reached_behind steps closed near far j before free e k (start h) = let P : List ℕ → Type 0 = λ l. Contains l k in onward before free (subst P (sym e) h)
reached_behind steps closed near far j before free e k (onward {j = i} r o s) = onward (reached_behind steps closed near far j before free e i r) o s

-- a method that a reached type declares
record Source (w : World) (d n : Method) (t : Declared) : Type 0 where
  place : ℕ
  type : Declared
  stands : slice_get w place ≡ Some type
  declares : Contains type.methods n
  open_to_all : n.is_private ≡ false
  ordinary : is_constructor n ≡ false
  reached : Reached (steps_of_world w) (closed_by w d) (steps_from w t) place

passes_source : (w : World) (d n : Method) → same_signature d n ≡ true → (t : Declared) → Passes w t n → Source w d n t
passes_source w d n e t (from name u among named hidden ordinary (declared h)) =
    let p : Placed w name = placed w name u named in
    let it_is : Some p.type ≡ Some u = sym p.named ∙ named in
    record { place = p.place; type = u; stands = p.stands ∙ it_is; declares = h; open_to_all = hidden; ordinary = ordinary; reached = start (steps_to w t name p.place among p.at) }
passes_source w d n e t (from name u among named hidden ordinary (inherited none passes)) =
    let p : Placed w name = placed w name u named in
    let it_is : Some p.type ≡ Some u = sym p.named ∙ named in
    let stands : slice_get w p.place ≡ Some u = p.stands ∙ it_is in
    let s : Source w d n u = passes_source w d n e u passes in
    let free : closed_by w d p.place ≡ false = closed_at w d p.place u stands ∙ (declares_both d n u e ∙ none) in
    record {
      place = s.place;
      type = s.type;
      stands = s.stands;
      declares = s.declares;
      open_to_all = s.open_to_all;
      ordinary = s.ordinary;
      reached = reached_behind (steps_of_world w) (closed_by w d) (steps_from w t) (steps_from w u) p.place (start (steps_to w t name p.place among p.at)) free (steps_by w p.place (Some u) stands) s.place s.reached;
    }

-- what a reached type has as a member passes
reached_passes : (w : World) (d n : Method) → same_signature d n ≡ true → n.is_private ≡ false → is_constructor n ≡ false → (t : Declared) (k : ℕ) (u : Declared) → slice_get w k ≡ Some u → IsMember w u n
    → Reached (steps_of_world w) (closed_by w d) (steps_from w t) k → Passes w t n
reached_passes w d n e hidden ordinary t k u stands member (start h) =
    let g : GivenBy (place_of w) (direct_supertypes t) k = given_item (place_of w) (direct_supertypes t) k h in
    from g.item u g.among (type_of_place w g.item k g.gives ∙ stands) hidden ordinary member
reached_passes w d n e hidden ordinary t k u stands member (onward {j = j} before free step) =
    let f : StepFrom w j k = step_from w j k step in
    let g : GivenBy (place_of w) (direct_supertypes f.type) k = given_item (place_of w) (direct_supertypes f.type) k f.leads in
    let passes : Passes w f.type n = from g.item u g.among (type_of_place w g.item k g.gives ∙ stands) hidden ordinary member in
    let none : declares_method n f.type ≡ false = sym (declares_both d n f.type e) ∙ (sym (closed_at w d j f.type f.stands) ∙ free) in
    reached_passes w d n e hidden ordinary t j f.type f.stands (inherited none passes) before

pub each_passing_method_is_reached : law.EachPassingMethodIsReached
each_passing_method_is_reached w t d n e = (
  λ p. let s : Source w d n t = passes_source w d n e t p in (s.place, s.type, s.stands, s.declares, s.open_to_all, s.ordinary, s.reached),
  λ s. reached_passes w d n e s.4 s.5 t s.0 s.1 s.2 (declared s.3) s.6,
)
