-- What members add up to is what the class is made of.
use Rattle.std.proofs.Common.{◌≡◌, ◌++◌, List, [], ◌∷◌, map, Option, Some, None, refl, sym, ◌∙◌, ap, append_assoc, ℕ, false}
use Rattle.std.proofs.lemmas.List.Elements.{filter_map-append}
use Rattle.std.specs.List.{filter_map, flat_map, cons_option}
use Rattle.std.specs.Option.{option_to_list}
use Rattle.bcj_parser_trees.specs.Trees as source
use Rattle.bcj_symbolic_trees.specs.Trees as tree
use Rattle.bcj_decl_rules.specs.World.{Named}
use Rattle.bcj_typing_rules.specs.Members.{Added, nothing_added, Made, head_of, pairs_of, constructor_made, first_types, no_effects, with_initialisers}
use Rattle.bcj_typing_rules.specs.declared.kind.Kind.{Kind}
use Rattle.bcj_typing_rules.specs.function.Expressions.{Outcome, result, fault, and_then, Answers}
use Rattle.bcj_typing_rules.specs.function.Members.{TypedMember, typed_field, typed_block, typed_method, typed_constructor, types_behind, types_through, both_added, static_of, static_added, instance_of, instance_added, field_made, method_made, constructor_of, constructors_made, class_of, type_member, type_members, type_class, default_start, type_instance, type_initialisers}
use Rattle.bcj_typing_rules.proofs.Initialisers.{initialisers_same}
use Rattle.bcj_typing_member.specs.Gathered.{PlainMembers, no_members, constructor_in, with_member, with_members, outcome_map, PlainMaking, with_made, with_mades, or_default, constructors_with, making_from, making_with, class_with}

append_none : {A : Type 0} (xs : List A) → xs ++ [] ≡ xs
append_none [] = refl
append_none (x ∷ xs) = ap (λ l. x ∷ l) (append_none xs)

-- ---- member by member

one_of : {B : Type 0} (o : Option B) (xs : List B) → option_to_list o ++ xs ≡ cons_option o xs
one_of None xs = refl
one_of (Some x) xs = refl

-- a list that grows by what is picked of each member
module _ {B : Type 0} (part : PlainMembers → List B) (pick : TypedMember → Option B) (grows : (g : PlainMembers) (m : TypedMember) → part (with_member g m) ≡ part g ++ option_to_list (pick m)) where
  all_picked : (g : PlainMembers) (ms : List TypedMember) → part (with_members g ms) ≡ part g ++ filter_map pick ms
  all_picked g [] = sym (append_none (part g))
  all_picked g (m ∷ ms) =
      all_picked (with_member g m) ms
      ∙ (ap (λ l. l ++ filter_map pick ms) (grows g m) ∙ (append_assoc (part g) (option_to_list (pick m)) (filter_map pick ms) ∙ ap (λ l. part g ++ l) (one_of (pick m) (filter_map pick ms))))

all_types : (g : PlainMembers) (ms : List TypedMember) → (with_members g ms).types ≡ types_through g.types ms
all_types g [] = refl
all_types g (m ∷ ms) = all_types (with_member g m) ms

both_none : (a : Added) → both_added a nothing_added ≡ a
both_none a = λ i. record { trees = append_none a.trees i; steps = append_none a.steps i }

both_assoc : (a b c : Added) → both_added (both_added a b) c ≡ both_added a (both_added b c)
both_assoc a b c = λ i. record { trees = append_assoc a.trees b.trees c.trees i; steps = append_assoc a.steps b.steps c.steps i }

all_statics : (g : PlainMembers) (ms : List TypedMember) → (with_members g ms).statics ≡ both_added g.statics (static_added ms)
all_statics g [] = sym (both_none g.statics)
all_statics g (m ∷ ms) = all_statics (with_member g m) ms ∙ both_assoc g.statics (static_of m) (static_added ms)

all_instances : (g : PlainMembers) (ms : List TypedMember) → (with_members g ms).instances ≡ both_added g.instances (instance_added ms)
all_instances g [] = sym (both_none g.instances)
all_instances g (m ∷ ms) = all_instances (with_member g m) ms ∙ both_assoc g.instances (instance_of m) (instance_added ms)

-- ---- methods

made_append : (w : PlainMaking) (xs ys : List Made) → with_mades (with_mades w xs) ys ≡ with_mades w (xs ++ ys)
made_append w [] ys = refl
made_append w (x ∷ xs) ys = made_append (with_made w x) xs ys

all_methods : (w : PlainMaking) (xs : List Made) → (with_mades w xs).methods ≡ w.methods ++ map (λ m. m.method) xs
all_methods w [] = sym (append_none w.methods)
all_methods w (x ∷ xs) = all_methods (with_made w x) xs ∙ append_assoc w.methods (x.method ∷ []) (map (λ m. m.method) xs)

all_steps : (w : PlainMaking) (xs : List Made) → (with_mades w xs).steps ≡ w.steps ++ flat_map (λ m. m.steps) xs
all_steps w [] = sym (append_none w.steps)
all_steps w (x ∷ xs) = all_steps (with_made w x) xs ∙ append_assoc w.steps x.steps (flat_map (λ m. m.steps) xs)

-- ---- constructors

constructors_only : (class : Named) (i : Added) (ms : List TypedMember) → filter_map (constructor_of class i) (filter_map constructor_in ms) ≡ filter_map (constructor_of class i) ms
constructors_only class i [] = refl
constructors_only class i (typed_field f v a ∷ ms) = constructors_only class i ms
constructors_only class i (typed_block b ∷ ms) = constructors_only class i ms
constructors_only class i (typed_method m ∷ ms) = constructors_only class i ms
constructors_only class i (typed_constructor hidden params first to_super b ∷ ms) =
    ap (λ l. constructor_made class params hidden b.types first (with_initialisers to_super i) b ∷ l) (constructors_only class i ms)

constructors_are : (class : Named) (i : Added) (d : Option Added) (ms : List TypedMember) → constructors_with class i (or_default class d (filter_map constructor_in ms)) ≡ constructors_made class i d ms
constructors_are class i None ms = constructors_only class i ms
constructors_are class i (Some first) ms =
    ap (λ l. constructor_made class [] false (first_types class false []) first i (no_effects (first_types class false [])) ∷ l) (constructors_only class i ms)

-- ---- the class

pub class_is : (t : source.PlainType) (ms : List TypedMember) (d : Option Added) → class_with t (with_members no_members ms) d ≡ class_of t ms d
class_is t ms d =
    let g : PlainMembers = with_members no_members ms in
    let fields : g.fields ≡ filter_map field_made ms = all_picked (λ m. m.fields) field_made (λ g m. refl) no_members ms in
    let types : g.types ≡ types_through [] ms = all_types no_members ms in
    let statics : g.statics ≡ static_added ms = all_statics no_members ms in
    let instances : g.instances ≡ instance_added ms = all_instances no_members ms in
    let constructors : g.constructors ≡ filter_map constructor_in ms = all_picked (λ m. m.constructors) constructor_in (λ g m. refl) no_members ms in
    let methods : g.methods ≡ filter_map method_made ms = all_picked (λ m. m.methods) method_made (λ g m. refl) no_members ms in
    let built : constructors_with t.name g.instances (or_default t.name d g.constructors) ≡ constructors_made t.name (instance_added ms) d ms =
    ap (λ i. constructors_with t.name i (or_default t.name d g.constructors)) instances
    ∙ (ap (λ l. constructors_with t.name (instance_added ms) (or_default t.name d l)) constructors ∙ constructors_are t.name (instance_added ms) d ms) in
    let all : constructors_with t.name g.instances (or_default t.name d g.constructors) ++ g.methods ≡ constructors_made t.name (instance_added ms) d ms ++ filter_map method_made ms =
    ap (λ l. l ++ g.methods) built ∙ ap (λ l. constructors_made t.name (instance_added ms) d ms ++ l) methods in
    let making : making_with t.name g d ≡ with_mades (making_from g) (constructors_made t.name (instance_added ms) d ms ++ filter_map method_made ms) =
    made_append (making_from g) (constructors_with t.name g.instances (or_default t.name d g.constructors)) g.methods ∙ ap (with_mades (making_from g)) all in
    let made : List Made = constructors_made t.name (instance_added ms) d ms ++ filter_map method_made ms in
    let records : (making_with t.name g d).methods ≡ map (λ m. m.method) made = ap (λ w. w.methods) making ∙ all_methods (making_from g) made in
    let steps : (making_with t.name g d).steps ≡ (static_added ms).steps ++ flat_map (λ m. m.steps) made =
    ap (λ w. w.steps) making ∙ (all_steps (making_from g) made ∙ ap (λ s. s.steps ++ flat_map (λ m. m.steps) made) statics) in
    λ i. record {
      head = head_of t;
      fields = fields i;
      init = record { locals = types i; body = tree.stmts_from (statics i).trees };
      methods = records i;
      pairs = pairs_of (steps i);
    }

-- ---- outcomes

-- one member more
module _ (a : Answers) (units : List source.PlainUnit) (t : source.PlainType) where
  mapped_more : (o : Outcome (List TypedMember)) (g : PlainMembers) (x : TypedMember)
      → outcome_map (with_members g) (and_then o (λ xs. result (x ∷ xs))) ≡ outcome_map (with_members (with_member g x)) o
  mapped_more (result xs) g x = refl
  mapped_more (fault at k) g x = refl

  member_more : (o : Outcome TypedMember) (g h : PlainMembers) (ms : List source.PlainMember) → outcome_map (with_member g) o ≡ result h
      → outcome_map (with_members g) (and_then o (λ x. and_then (type_members a units t (types_behind g.types x) ms) (λ xs. result (x ∷ xs)))) ≡ outcome_map (with_members h) (type_members a units t h.types ms)
  member_more (result x) g h ms e =
      let same : with_member g x ≡ h = cc in
      mapped_more (type_members a units t (types_behind g.types x) ms) g x ∙ ap (λ p. outcome_map (with_members p) (type_members a units t p.types ms)) same
  member_more (fault at k) g h ms e = cc

  pub members_more : (g h : PlainMembers) (m : source.PlainMember) (ms : List source.PlainMember) → outcome_map (with_member g) (type_member a units t g.types m) ≡ result h
      → outcome_map (with_members g) (type_members a units t g.types (m ∷ ms)) ≡ outcome_map (with_members h) (type_members a units t h.types ms)
  members_more g h m ms e = member_more (type_member a units t g.types m) g h ms e

  member_stops : (o : Outcome TypedMember) (g : PlainMembers) (ms : List source.PlainMember) (at : ℕ) (k : Kind) → outcome_map (with_member g) o ≡ fault at k
      → outcome_map (with_members g) (and_then o (λ x. and_then (type_members a units t (types_behind g.types x) ms) (λ xs. result (x ∷ xs)))) ≡ fault at k
  member_stops (result x) g ms at k e = cc
  member_stops (fault p l) g ms at k e = e

  pub members_stop : (g : PlainMembers) (m : source.PlainMember) (ms : List source.PlainMember) (at : ℕ) (k : Kind) → outcome_map (with_member g) (type_member a units t g.types m) ≡ fault at k
      → outcome_map (with_members g) (type_members a units t g.types (m ∷ ms)) ≡ fault at k
  members_stop g m ms at k e = member_stops (type_member a units t g.types m) g ms at k e

-- ---- the class by its members

-- what the members that are added up were
record Sum (o : Outcome (List TypedMember)) (g : PlainMembers) : Type 0 where
  members : List TypedMember
  found : o ≡ result members
  sum : with_members no_members members ≡ g

summed : (o : Outcome (List TypedMember)) (g : PlainMembers) → outcome_map (with_members no_members) o ≡ result g → Sum o g
summed (result ms) g e = record { members = ms; found = refl; sum = cc }
summed (fault at k) g e = cc

faulted : (o : Outcome (List TypedMember)) (at : ℕ) (k : Kind) → outcome_map (with_members no_members) o ≡ fault at k → o ≡ fault at k
faulted (result ms) at k e = cc
faulted (fault p l) at k e =
    let place : p ≡ at = cc in let kind : l ≡ k = cc in λ i. fault (place i) (kind i)

then_found : {A B : Type 0} (o : Outcome A) (f : A → Outcome B) (x : A) → o ≡ result x → and_then o f ≡ f x
then_found o f x e = ap (λ p. and_then p f) e

then_stopped : {A B : Type 0} (o : Outcome A) (f : A → Outcome B) (at : ℕ) (k : Kind) → o ≡ fault at k → and_then o f ≡ fault at k
then_stopped o f at k e = ap (λ p. and_then p f) e

module _ (a : Answers) (units : List source.PlainUnit) (t : source.PlainType) where
  pub class_stops : (at : ℕ) (k : Kind) → outcome_map (with_members no_members) (type_members a units t [] t.members) ≡ fault at k → type_class a units t ≡ fault at k
  class_stops at k e = then_stopped (type_members a units t [] t.members) _ at k (faulted (type_members a units t [] t.members) at k e)

  pub start_stops : (g : PlainMembers) (at : ℕ) (k : Kind) → outcome_map (with_members no_members) (type_members a units t [] t.members) ≡ result g → default_start a units t ≡ fault at k
      → type_class a units t ≡ fault at k
  start_stops g at k e d =
      let s : Sum (type_members a units t [] t.members) g = summed (type_members a units t [] t.members) g e in
      then_found (type_members a units t [] t.members) _ s.members s.found ∙ then_stopped (default_start a units t) _ at k d

  pub class_found : (g : PlainMembers) (d : Option Added) → outcome_map (with_members no_members) (type_members a units t [] t.members) ≡ result g → default_start a units t ≡ result d
      → type_class a units t ≡ result (class_with t g d)
  class_found g d e h =
      let s : Sum (type_members a units t [] t.members) g = summed (type_members a units t [] t.members) g e in
      then_found (type_members a units t [] t.members) _ s.members s.found
      ∙ (then_found (default_start a units t) _ d h ∙ (sym (ap (λ c. result c) (class_is t s.members d)) ∙ ap (λ p. result (class_with t p d)) s.sum))

  -- what runs when an object is made is what its initialisers add
  pub instances_alone : (g : PlainMembers) → outcome_map (with_members no_members) (type_members a units t [] t.members) ≡ result g → type_initialisers a units t t.members ≡ result g.instances
  instances_alone g e =
      let s : Sum (type_members a units t [] t.members) g = summed (type_members a units t [] t.members) g e in
      initialisers_same a units t [] t.members s.members s.found
      ∙ ap (λ x. result x) (sym (all_instances no_members s.members) ∙ ap (λ p. p.instances) s.sum)

-- ---- loops

pub mades_more : (w v u : PlainMaking) (xs ys : List Made) → v ≡ with_mades w xs → u ≡ with_mades v ys → u ≡ with_mades w (xs ++ ys)
mades_more w v u xs ys e f = f ∙ (ap (λ m. with_mades m ys) e ∙ made_append w xs ys)

-- one initialiser more
module _ (a : Answers) (units : List source.PlainUnit) (t : source.PlainType) where
  added_more : (o : Outcome Added) (x y : Added) → outcome_map (both_added x) (and_then o (λ r. result (both_added y r))) ≡ outcome_map (both_added (both_added x y)) o
  added_more (result r) x y = ap (λ z. result z) (sym (both_assoc x y r))
  added_more (fault at k) x y = refl

  part_more : (o : Outcome Added) (x y : Added) (p : Outcome Added) → outcome_map (both_added x) o ≡ result y
      → outcome_map (both_added x) (and_then o (λ z. and_then p (λ r. result (both_added z r)))) ≡ outcome_map (both_added y) p
  part_more (result z) x y p e =
      let same : both_added x z ≡ y = cc in
      added_more p x z ∙ ap (λ w. outcome_map (both_added w) p) same
  part_more (fault at k) x y p e = cc

  pub initialisers_more : (x y : Added) (m : source.PlainMember) (ms : List source.PlainMember) → outcome_map (both_added x) (type_instance a units t m) ≡ result y
      → outcome_map (both_added x) (type_initialisers a units t (m ∷ ms)) ≡ outcome_map (both_added y) (type_initialisers a units t ms)
  initialisers_more x y m ms e = part_more (type_instance a units t m) x y (type_initialisers a units t ms) e

  part_stops : (o : Outcome Added) (x : Added) (p : Outcome Added) (at : ℕ) (k : Kind) → outcome_map (both_added x) o ≡ fault at k
      → outcome_map (both_added x) (and_then o (λ z. and_then p (λ r. result (both_added z r)))) ≡ fault at k
  part_stops (result z) x p at k e = cc
  part_stops (fault q l) x p at k e = e

  pub initialisers_stop : (x : Added) (m : source.PlainMember) (ms : List source.PlainMember) (at : ℕ) (k : Kind) → outcome_map (both_added x) (type_instance a units t m) ≡ fault at k
      → outcome_map (both_added x) (type_initialisers a units t (m ∷ ms)) ≡ fault at k
  initialisers_stop x m ms at k e = part_stops (type_instance a units t m) x (type_initialisers a units t ms) at k e

pub ends_both : (x : Added) → outcome_map (both_added x) (result nothing_added) ≡ result x
ends_both x = ap (λ z. result z) (both_none x)

pub begins_both : (o : Outcome Added) → outcome_map (both_added nothing_added) o ≡ o
begins_both (result r) = refl
begins_both (fault at k) = refl

-- ---- constructors one by one

pub constructors_turn : (class : Named) (i : Added) (w v u : PlainMaking) (xs : List TypedMember) (x : TypedMember) → v ≡ with_mades w (constructors_with class i xs)
    → result (with_mades v (constructors_with class i (x ∷ []))) ≡ result u → u ≡ with_mades w (constructors_with class i (xs ++ x ∷ []))
constructors_turn class i w v u xs x e f =
    let same : with_mades v (constructors_with class i (x ∷ [])) ≡ u = cc in
    mades_more w v u (constructors_with class i xs) (constructors_with class i (x ∷ [])) e (sym same) ∙ ap (with_mades w) (sym (filter_map-append (constructor_of class i) xs (x ∷ [])))
