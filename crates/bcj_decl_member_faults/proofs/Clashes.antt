-- What a search finds above a type clashes with a method just where something that passes to the type does.
use Rattle.std.proofs.Common.{◌≡◌, ◌↔◌, ◌+◌, ℕ, suc, Bool, true, false, not, ◌&&◌, ◌||◌, cond, List, [], ◌∷◌, map, slice_get, Option, None, Some, inl, inr, refl, sym, ◌∙◌, ap, subst, arith}
use Rattle.std.proofs.lemmas.Bool.{cases_Bool, and_parts, and_from, and_left, and_right, or_cases, not-true, not_from_false}
use Rattle.std.proofs.lemmas.Slice.Eq.{bytes_eq-Decides}
use Rattle.std.proofs.lemmas.List.Elements.{Contains-append_left, Contains-append_right, Contains-push}
use Rattle.std.proofs.lemmas.List.Folds.{list_any_at}
use Rattle.std.proofs.lemmas.Option.{slice_get-map}
use Rattle.std.specs.Bool.{Decides}
use Rattle.std.specs.List.{Contains, list_any}
use Rattle.std.specs.Option.{option_map, option_map_or}
use Rattle.std.specs.Str.{bytes_eq}
use Rattle.bcj_symbolic_trees.specs.Same.{same_types}
use Rattle.bcj_decl_rules.specs.World.{Named, Method, Declared, World}
use Rattle.bcj_decl_rules.specs.Members.{same_signature, is_constructor, Passes}
use Rattle.bcj_decl_listing.specs.Places.{positions_from, method_positions, steps_from, steps_of_world}
use Rattle.bcj_decl_graph.specs.Reached.{Reached}
use Rattle.bcj_decl_graph.specs.Laws.{EachPassingMethodIsReached}
use Rattle.bcj_decl_member_faults.specs.Decisions.{is_at_odds, Clash}
use Rattle.bcj_decl_member_faults.specs.Inherited.{declares_at, is_clash, clashes_at, method_at}

-- ---- methods of one name

-- the test holds of methods of that name alone
abbrev IsOf : Named → (Method → Bool) → Type 0
IsOf name test = (n : Method) → test n ≡ true → bytes_eq n.name name ≡ true

-- a test that fails first
by_head : (a b : Bool) → a ≡ false → (a || b) ≡ b
by_head true b e = cc
by_head false b e = refl

-- counted from a number
by_name : (test : Method → Bool) (name : Named) → IsOf name test → (i : ℕ) (ms : List Method) (at : ℕ → Bool) → ((j : ℕ) → at (i + j) ≡ method_at test ms j) → list_any test ms ≡ list_any at (positions_from i name ms)
by_name test name only i [] at same = refl
by_name test name only i (m ∷ ms) at same =
    let step : (j : ℕ) → at ((i + 1) + j) ≡ method_at test ms j = λ j. let further : (i + 1) + j ≡ i + suc j = omega arith in ap at further ∙ same (suc j) in
    let rest : list_any test ms ≡ list_any at (positions_from (i + 1) name ms) = by_name test name only (i + 1) ms at step in
    let here_it : i ≡ i + 0 = omega arith in
    let first : at i ≡ test m = ap at here_it ∙ same 0 in
    elim (cases_Bool (bytes_eq m.name name)) [
      | inl it ↦
          ap (λ b. test m || b) rest
          ∙ (ap (λ b. b || list_any at (positions_from (i + 1) name ms)) (sym first)
          ∙ sym (ap (λ b. list_any at (cond b (i ∷ positions_from (i + 1) name ms) (positions_from (i + 1) name ms))) it))
      | inr other ↦
          let never : test m ≡ false = elim (cases_Bool (test m)) [ inl holds_it ↦ absurd (let both : bytes_eq m.name name ≡ true = only m holds_it in cc) | inr never_holds ↦ never_holds ] in
          by_head (test m) (list_any test ms) never
          ∙ (rest ∙ sym (ap (λ b. list_any at (cond b (i ∷ positions_from (i + 1) name ms) (positions_from (i + 1) name ms))) other))
    ]

-- the methods of a name are all that a test for it needs
pub by_positions : (test : Method → Bool) (name : Named) (ms : List Method) → IsOf name test → list_any (method_at test ms) (positions_from 0 name ms) ≡ list_any test ms
by_positions test name ms only =
    sym (by_name test name only 0 ms (method_at test ms) (λ j. let same : 0 + j ≡ j = omega arith in ap (method_at test ms) same))

-- methods of one signature have one name
signature_name : (d : Method) → IsOf d.name (same_signature d)
signature_name d n h =
    let parts : (bytes_eq d.name n.name ≡ true) × (same_types d.params n.params ≡ true) = and_parts (bytes_eq d.name n.name) (same_types d.params n.params) h in
    (bytes_eq-Decides n.name d.name).1 (sym ((bytes_eq-Decides d.name n.name).0 parts.0))

-- what clashes has the name too
clash_name : (d : Method) → IsOf d.name (is_clash d)
unfolding is_clash
clash_name d n h = signature_name d n (and_parts (same_signature d n) ((not n.is_private && not (is_constructor n)) && is_at_odds d n) h).0

-- the positions are those of the type at the place
positions_at : (w : World) (k : ℕ) (name : Named) (u : Declared) → slice_get w k ≡ Some u → method_positions w k name ≡ positions_from 0 name u.methods
positions_at w k name u e = ap (λ p. option_map_or (λ t. positions_from 0 name t.methods) p []) e

-- the methods of the name tell what the type at the place declares
pub declares_some : (w : World) (d : Method) (k : ℕ) (u : Declared) → slice_get w k ≡ Some u → list_any (method_at (same_signature d) u.methods) (method_positions w k d.name) ≡ declares_at w d k
declares_some w d k u e =
    ap (list_any (method_at (same_signature d) u.methods)) (positions_at w k d.name u e)
    ∙ (by_positions (same_signature d) d.name u.methods (signature_name d) ∙ ap (λ p. option_map_or (λ t. list_any (same_signature d) t.methods) p false) (sym e))

-- and what clashes there
pub clashes_some : (w : World) (d : Method) (k : ℕ) (u : Declared) → slice_get w k ≡ Some u → list_any (method_at (is_clash d) u.methods) (method_positions w k d.name) ≡ clashes_at w d k
clashes_some w d k u e =
    ap (list_any (method_at (is_clash d) u.methods)) (positions_at w k d.name u e)
    ∙ (by_positions (is_clash d) d.name u.methods (clash_name d) ∙ ap (λ p. option_map_or (λ t. list_any (is_clash d) t.methods) p false) (sym e))

-- what the methods of the name say is said of all
pub declares_in : (w : World) (d : Method) (k : ℕ) (u : Declared) (b : Bool) (ms : List Method) (ps : List ℕ) → b ≡ list_any (method_at (same_signature d) ms) ps → ms ≡ u.methods → ps ≡ method_positions w k d.name
    → slice_get w k ≡ Some u → b ≡ declares_at w d k
declares_in w d k u b ms ps e same at here_it =
    e ∙ (ap (λ l. list_any (method_at (same_signature d) l) ps) same ∙ (ap (list_any (method_at (same_signature d) u.methods)) at ∙ declares_some w d k u here_it))

pub clashes_in : (w : World) (d : Method) (k : ℕ) (u : Declared) (b : Bool) (ms : List Method) (ps : List ℕ) → b ≡ list_any (method_at (is_clash d) ms) ps → ms ≡ u.methods → ps ≡ method_positions w k d.name
    → slice_get w k ≡ Some u → b ≡ clashes_at w d k
clashes_in w d k u b ms ps e same at here_it =
    e ∙ (ap (λ l. list_any (method_at (is_clash d) l) ps) same ∙ (ap (list_any (method_at (is_clash d) u.methods)) at ∙ clashes_some w d k u here_it))

-- the type at a place of a table stands there in the world
pub type_is : {A : Type 0} (f : A → Declared) (xs : List A) (k : ℕ) (x : A) → Some x ≡ slice_get xs k → slice_get (map f xs) k ≡ Some (f x)
type_is f xs k x e = slice_get-map f xs k ∙ ap (option_map f) (sym e)

-- a method of another name or other parameters is no clash
pub clash_by_signature : (d n : Method) (b : Bool) → b ≡ same_signature d n → b ≡ false → false ≡ is_clash d n
unfolding is_clash
clash_by_signature d n b e h = sym (ap (λ x. x && ((not n.is_private && not (is_constructor n)) && is_at_odds d n)) (sym e ∙ h))

-- nor one that doesn't pass on
pub clash_by_passing : (d n : Method) (p : Bool) → p ≡ (not n.is_private && not (is_constructor n)) → p ≡ false → false ≡ is_clash d n
unfolding is_clash
clash_by_passing d n p e h = sym (and_right (same_signature d n) ((not n.is_private && not (is_constructor n)) && is_at_odds d n) (and_left (not n.is_private && not (is_constructor n)) (is_at_odds d n) (sym e ∙ h)))

-- any other is one where it is at odds
pub clash_by_parts : (d n : Method) (b p o : Bool) → b ≡ same_signature d n → b ≡ true → p ≡ (not n.is_private && not (is_constructor n)) → p ≡ true → o ≡ is_at_odds d n → o ≡ is_clash d n
unfolding is_clash
clash_by_parts d n b p o e h f g same =
    same
    ∙ (ap (λ x. x && is_at_odds d n) (sym g ∙ f)
    ∙ ap (λ x. x && ((not n.is_private && not (is_constructor n)) && is_at_odds d n)) (sym h ∙ e))

-- ---- the places found

-- an item of a list passes a test
pub record Among {A : Type 0} (p : A → Bool) (xs : List A) : Type 0 where
  pub item : A
  pub among : Contains xs item
  pub holds : p item ≡ true

-- a test of a list finds one of its items
among : {A : Type 0} (p : A → Bool) (xs : List A) → list_any p xs ≡ true → Among p xs
among p [] h = cc
among p (x ∷ xs) h =
    elim (or_cases (p x) (list_any p xs) h) [
      | inl it ↦ record { item = x; among = Contains-append_left (x ∷ []) xs x (Contains-push [] x); holds = it }
      | inr other ↦ let rest : Among p xs = among p xs other in record { item = rest.item; among = Contains-append_right (x ∷ []) xs rest.item rest.among; holds = rest.holds }
    ]

-- and the other way round
any_of : {A : Type 0} (p : A → Bool) (xs : List A) (x : A) → Contains xs x → p x ≡ true → list_any p xs ≡ true
any_of p xs x h e = list_any_at p xs h.0 x h.1 (ap p h.2 ∙ e)

-- the type at a place with a clash
pub record ClashAt (w : World) (d : Method) (k : ℕ) : Type 0 where
  pub type : Declared
  pub stands : slice_get w k ≡ Some type
  pub clashes : list_any (is_clash d) type.methods ≡ true

-- the place is that of a type
clash_by : (w : World) (d : Method) (k : ℕ) (o : Option Declared) → slice_get w k ≡ o → option_map_or (λ u. list_any (is_clash d) u.methods) o false ≡ true → ClashAt w d k
clash_by w d k None e h = cc
clash_by w d k (Some u) e h = record { type = u; stands = e; clashes = h }

-- what passes is what is reached
abbrev pub PassingIsReached : World → Declared → Method → Type 0
PassingIsReached w t d =
    (n : Method) → same_signature d n ≡ true
    → Passes w t n
    ↔ ((k : ℕ) × (u : Declared) × (slice_get w k ≡ Some u) × Contains u.methods n × (n.is_private ≡ false) × (is_constructor n ≡ false)
    × Reached (steps_of_world w) (declares_at w d) (steps_from w t) k)

-- what a search found
abbrev pub AreReached : World → Declared → Method → List ℕ → Type 0
AreReached w t d places = (k : ℕ) → Contains places k ↔ Reached (steps_of_world w) (declares_at w d) (steps_from w t) k

-- what is found passes to the type and is at odds
found_clash : (w : World) (t : Declared) (d : Method) (places : List ℕ) → PassingIsReached w t d → AreReached w t d places → list_any (clashes_at w d) places ≡ true → Clash w t d
unfolding is_clash
found_clash w t d places law reached h =
    let at_place : Among (clashes_at w d) places = among (clashes_at w d) places h in
    let k : ℕ = at_place.item in
    let clash : ClashAt w d k = clash_by w d k (slice_get w k) refl at_place.holds in
    let one : Among (is_clash d) clash.type.methods = among (is_clash d) clash.type.methods clash.clashes in
    let n : Method = one.item in
    let parts : (same_signature d n ≡ true) × (((not n.is_private && not (is_constructor n)) && is_at_odds d n) ≡ true) = and_parts (same_signature d n) ((not n.is_private && not (is_constructor n)) && is_at_odds d n) one.holds in
    let more : ((not n.is_private && not (is_constructor n)) ≡ true) × (is_at_odds d n ≡ true) = and_parts (not n.is_private && not (is_constructor n)) (is_at_odds d n) parts.1 in
    let passing : (not n.is_private ≡ true) × (not (is_constructor n) ≡ true) = and_parts (not n.is_private) (not (is_constructor n)) more.0 in
    record {
      other = n;
      passes = (law n parts.0).1 (k, clash.type, clash.stands, one.among, not-true n.is_private passing.0, not-true (is_constructor n) passing.1, (reached k).0 at_place.among);
      same = parts.0;
      at_odds = more.1;
    }

-- what passes to the type and is at odds is found
clash_found : (w : World) (t : Declared) (d : Method) (places : List ℕ) → PassingIsReached w t d → AreReached w t d places → Clash w t d → list_any (clashes_at w d) places ≡ true
unfolding is_clash
clash_found w t d places law reached clash =
    let n : Method = clash.other in
    let it = (law n clash.same).0 clash.passes in
    let passing : (not n.is_private && not (is_constructor n)) ≡ true = and_from (not n.is_private) (not (is_constructor n)) (not_from_false n.is_private it.4) (not_from_false (is_constructor n) it.5) in
    let one : is_clash d n ≡ true = and_from (same_signature d n) ((not n.is_private && not (is_constructor n)) && is_at_odds d n) clash.same (and_from (not n.is_private && not (is_constructor n)) (is_at_odds d n) passing clash.at_odds) in
    let here_it : list_any (is_clash d) it.1.methods ≡ true = any_of (is_clash d) it.1.methods n it.3 one in
    any_of (clashes_at w d) places it.0 ((reached it.0).1 it.6) (ap (λ p. option_map_or (λ u. list_any (is_clash d) u.methods) p false) it.2 ∙ here_it)

-- what is found decides it
pub clash_decided : (w : World) (t : Declared) (d : Method) (places : List ℕ) → PassingIsReached w t d → AreReached w t d places → Decides (list_any (clashes_at w d) places) (Clash w t d)
clash_decided w t d places law reached = (found_clash w t d places law reached, clash_found w t d places law reached)

-- what a search found decides it
pub clash_answer : EachPassingMethodIsReached → (w : World) (t : Declared) (d : Method) (steps : List (List ℕ)) (from found places : List ℕ) (b : Bool) → steps ≡ steps_of_world w → from ≡ steps_from w t
    → ((k : ℕ) → Contains found k ↔ Reached steps (declares_at w d) from k) → places ≡ found → b ≡ list_any (clashes_at w d) places → Decides b (Clash w t d)
clash_answer law w t d steps from found places b all start reached same e =
    let P : List (List ℕ) → Type 0 = λ s. (k : ℕ) → Contains found k ↔ Reached s (declares_at w d) from k in
    let Q : List ℕ → Type 0 = λ l. (k : ℕ) → Contains found k ↔ Reached (steps_of_world w) (declares_at w d) l k in
    let S : List ℕ → Type 0 = λ l. (k : ℕ) → Contains l k ↔ Reached (steps_of_world w) (declares_at w d) (steps_from w t) k in
    let D : Bool → Type 0 = λ x. Decides x (Clash w t d) in
    subst D (sym e) (clash_decided w t d places (λ n. law w t d n) (subst S (sym same) (subst Q start (subst P all reached))))
