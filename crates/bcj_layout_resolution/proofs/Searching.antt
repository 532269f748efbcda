-- Searches by numbers, step by step.
use Rattle.std.proofs.Common.{◌≡◌, ◌<◌, ◌≤◌, ◌+◌, List, [], ◌∷◌, map, drop, length, get_or, find, position, slice_get, Option, Some, None, Bool, true, false, cond, refl, sym, ◌∙◌, ap, subst, ℕ, zero, suc, is_some, inl, inr}
use Rattle.std.proofs.lemmas.Bool.{cases_Bool}
use Rattle.std.proofs.lemmas.List.{at_drop_more, at_drop_all}
use Rattle.std.specs.Option.{option_map, option_or}
use Rattle.bcj_tables_rules.specs.declared.records.ClassRecord.{ClassRecord}
use Rattle.bcj_hier_rules.specs.declared.class_id.ClassId.{ClassId}
use Rattle.bcj_hier_rules.specs.Shapes.{Named, Method, Shape, Mixture, found, record_shape, field_of_record, method_of_record, is_field, is_method, behind_first}
use Rattle.bcj_hier_rules.specs.Heads.{name_of}
use Rattle.bcj_hier_rules.specs.Resolution.{FoundField, FoundMethod, first_of, of_option, field_within, class_method_within, interface_method_within, inherited_within}
use Rattle.bcj_hier_rules.specs.Selection.{is_open, open_within}
use Rattle.bcj_hier_soundness.proofs.Distinct.{position_first}
use Rattle.bcj_layout_rules.specs.Rows.{Classes, mixture_of}
use Rattle.bcj_layout_resolution.specs.declared.member.FieldId.{FieldId}
use Rattle.bcj_layout_resolution.specs.declared.member.MethodId.{MethodId}
use Rattle.bcj_layout_resolution.specs.Places.{heads_in, IsField, IsMethod}
use Rattle.bcj_layout_resolution.specs.Searches.{IsRecord, IsAbove, Names, NamesField, NamesMethod, own_field, own_method, along}

-- ---- places

-- the first of a list that passes a test, by its place
record Place {A B : Type 0} (p : B → Bool) (f : A → B) (xs : List A) (k : ℕ) : Type 0 where
  item : A
  there : slice_get xs k ≡ Some item
  is_it : find p (map f xs) ≡ Some (f item)

-- a place behind the first item
place_behind : {A B : Type 0} (p : B → Bool) (f : A → B) (x : A) (xs : List A) (k : ℕ) (o : Option ℕ) → p (f x) ≡ false → ((j : ℕ) → o ≡ Some j → Place p f xs j) → option_map suc o ≡ Some k → Place p f (x ∷ xs) k
place_behind p f x xs k None fails again e = cc
place_behind p f x xs k (Some j) fails again e =
    let next : suc j ≡ k = cc in
    let P : ℕ → Type 0 = λ i. Place p f (x ∷ xs) i in
    let rest : Place p f xs j = again j refl in
    subst P next (record { item = rest.item; there = rest.there; is_it = ap (λ b. cond b (Some (f x)) (find p (map f xs))) fails ∙ rest.is_it })

-- the item at the first place that passes is the first that passes
place : {A B : Type 0} (p : B → Bool) (f : A → B) (xs : List A) (k : ℕ) → position (λ x. p (f x)) xs ≡ Some k → Place p f xs k
place p f [] k e = cc
place p f (x ∷ xs) k e =
    let first : cond (p (f x)) (Some 0) (option_map suc (position (λ y. p (f y)) xs)) ≡ Some k = sym (position_first (λ y. p (f y)) x xs) ∙ e in
    elim (cases_Bool (p (f x))) [
      | inl it ↦
          let here_it : Some 0 ≡ Some k = ap (λ b. cond b (Some 0) (option_map suc (position (λ y. p (f y)) xs))) (sym it) ∙ first in
          let zero_it : 0 ≡ k = cc in
          let P : ℕ → Type 0 = λ i. Place p f (x ∷ xs) i in
          subst P zero_it (record { item = x; there = refl; is_it = ap (λ b. cond b (Some (f x)) (find p (map f xs))) it })
      | inr other ↦ place_behind p f x xs k (position (λ y. p (f y)) xs) other (λ j ej. place p f xs j ej) (ap (λ b. cond b (Some 0) (option_map suc (position (λ y. p (f y)) xs))) (sym other) ∙ first)
    ]

-- no place one further, no place
none_behind : (o : Option ℕ) → option_map suc o ≡ None → o ≡ None
none_behind None e = refl
none_behind (Some k) e = cc

-- where none passes, there is none
no_place : {A B : Type 0} (p : B → Bool) (f : A → B) (xs : List A) → position (λ x. p (f x)) xs ≡ None → find p (map f xs) ≡ None
no_place p f [] e = refl
no_place p f (x ∷ xs) e =
    let first : cond (p (f x)) (Some 0) (option_map suc (position (λ y. p (f y)) xs)) ≡ None = sym (position_first (λ y. p (f y)) x xs) ∙ e in
    elim (cases_Bool (p (f x))) [
      | inl it ↦
          let wrong : ◌≡◌ {A = Option ℕ} (Some 0) None = ap (λ b. cond b (Some 0) (option_map suc (position (λ y. p (f y)) xs))) (sym it) ∙ first in
          cc
      | inr other ↦
          ap (λ b. cond b (Some (f x)) (find p (map f xs))) other
          ∙ no_place p f xs (none_behind (position (λ y. p (f y)) xs) (ap (λ b. cond b (Some 0) (option_map suc (position (λ y. p (f y)) xs))) (sym other) ∙ first))
    ]

-- ---- own members

-- the field with this number
pub field_numbered : (cs : Classes) (c : ClassId) (r : ClassRecord) (name desc : Named) (k : ℕ) → IsRecord cs c r → position (λ f. is_field name desc (field_of_record f)) r.fields ≡ Some k
    → NamesField cs (Some (record { class = c; field = k })) (own_field name desc (record_shape r))
field_numbered cs c r name desc k is e =
    let p : Place (is_field name desc) field_of_record r.fields k = place (is_field name desc) field_of_record r.fields k e in (
      record { class = r.head.name; field = field_of_record p.item },
      ap (option_map (Rattle.bcj_hier_rules.specs.Resolution.field_there (record_shape r))) p.is_it,
      record { class = r; record_of = is.there; field = p.item; there = p.there; named = refl; is_it = refl },
    )

-- where no number is found, the class itself has no such field
pub no_field_numbered : (cs : Classes) (r : ClassRecord) (name desc : Named) → position (λ f. is_field name desc (field_of_record f)) r.fields ≡ None → NamesField cs None (own_field name desc (record_shape r))
no_field_numbered cs r name desc e = ap (option_map (Rattle.bcj_hier_rules.specs.Resolution.field_there (record_shape r))) (no_place (is_field name desc) field_of_record r.fields e)

-- a place behind the first is one more in the whole list
behind_place : {A : Type 0} (xs : List A) (k : ℕ) (x : A) → slice_get (behind_first xs) k ≡ Some x → slice_get xs (suc k) ≡ Some x
behind_place [] k x e = e
behind_place (y ∷ ys) k x e = e

-- the method with this number
pub method_numbered : (cs : Classes) (c : ClassId) (r : ClassRecord) (p : Method → Bool) (k n : ℕ) → IsRecord cs c r → position (λ m. p (method_of_record m)) (behind_first r.methods) ≡ Some k → n ≡ suc k
    → NamesMethod cs (Some (record { class = c; method = n })) (own_method p (record_shape r))
method_numbered cs c r p k n is e next =
    let found_it : Place p method_of_record (behind_first r.methods) k = place p method_of_record (behind_first r.methods) k e in
    let P : ℕ → Type 0 = λ i. slice_get r.methods i ≡ Some found_it.item in (
      record { class = r.head.name; method = method_of_record found_it.item },
      ap (option_map (Rattle.bcj_hier_rules.specs.Resolution.method_there (record_shape r))) found_it.is_it,
      record { class = r; record_of = is.there; method = found_it.item; there = subst P (sym next) (behind_place r.methods k found_it.item found_it.there); named = refl; is_it = refl },
    )

-- where no number is found, the class itself has no such method
pub no_method_numbered : (cs : Classes) (r : ClassRecord) (p : Method → Bool) → position (λ m. p (method_of_record m)) (behind_first r.methods) ≡ None → NamesMethod cs None (own_method p (record_shape r))
no_method_numbered cs r p e = ap (option_map (Rattle.bcj_hier_rules.specs.Resolution.method_there (record_shape r))) (no_place p method_of_record (behind_first r.methods) e)

-- ---- one search behind another

-- what the first search answers
pub first_names : {I X : Type 0} (Is : I → X → Type 0) (r : Option I) (a b : Option X) → is_some r ≡ true → Names Is r a → Names Is r (option_or a b)
first_names Is None a b some n = cc
first_names Is (Some i) a b some n = (n.0, ap (λ o. option_or o b) n.1, n.2)

-- what the second answers, where the first answers nothing
pub then_names : {I X : Type 0} (Is : I → X → Type 0) (q r : Option I) (a b : Option X) → is_some q ≡ false → Names Is q a → Names Is r b → Names Is r (option_or a b)
then_names Is (Some i) r a b none n m = cc
then_names Is None r a b none n m =
    let P : Option _ → Type 0 = λ o. Names Is r (option_or o b) in
    subst P (sym n) m

-- the same answer of the same search
pub names_same : {I X : Type 0} (Is : I → X → Type 0) (r : Option I) (a b : Option X) → a ≡ b → Names Is r a → Names Is r b
names_same Is r a b e n = subst (Names Is r) e n

-- ---- lists of names

-- where the first has no answer, the second one's is that of both
first_some : {A : Type 0} (o p : Option A) (r : Option A) → o ≡ None → option_or o p ≡ r → p ≡ r
first_some o p r e h = ap (λ x. option_or x p) (sym e) ∙ h

-- where one answers nothing, the others answer
pub first_of_more : {A : Type 0} (f : Named → Option A) (xs : List Named) (i : ℕ) (x : Named) → i < length xs → x ≡ get_or xs i x → f x ≡ None → first_of f (drop i xs) ≡ first_of f xs
    → first_of f (drop (i + 1) xs) ≡ first_of f xs
first_of_more f xs i x less is none h =
    let now : first_of f (drop i xs) ≡ option_or (f (get_or xs i x)) (first_of f (drop (i + 1) xs)) = at_drop_more (first_of f) xs i x less in
    first_some (f (get_or xs i x)) (first_of f (drop (i + 1) xs)) (first_of f xs) (ap f (sym is) ∙ none) (sym now ∙ h)

-- the first that answers something
pub first_of_names : {I X : Type 0} (Is : I → X → Type 0) (f : Named → Option X) (xs : List Named) (i : ℕ) (x : Named) (r : Option I)
    → i < length xs → x ≡ get_or xs i x → first_of f (drop i xs) ≡ first_of f xs → is_some r ≡ true → Names Is r (f x) → Names Is r (first_of f xs)
first_of_names Is f xs i x r less is h some n =
    let now : first_of f (drop i xs) ≡ option_or (f (get_or xs i x)) (first_of f (drop (i + 1) xs)) = at_drop_more (first_of f) xs i x less in
    names_same Is r (option_or (f x) (first_of f (drop (i + 1) xs))) (first_of f xs)
    (ap (λ y. option_or (f y) (first_of f (drop (i + 1) xs))) is ∙ (sym now ∙ h))
    (first_names Is r (f x) (first_of f (drop (i + 1) xs)) some n)

-- none answers
pub first_of_none : {A : Type 0} (f : Named → Option A) (xs : List Named) (i : ℕ) → length xs ≤ i → first_of f (drop i xs) ≡ first_of f xs → first_of f xs ≡ None
first_of_none f xs i past h = sym h ∙ at_drop_all (first_of f) xs i past

-- ---- steps

-- the first step of a search for a field
pub field_step : (cs : Classes) (c : ClassId) (r : ClassRecord) (n k : ℕ) (name desc : Named) → IsRecord cs c r → n ≡ suc k
    → field_within (mixture_of cs) n name desc (name_of (heads_in cs) c)
    ≡ option_or (own_field name desc (record_shape r))
    (option_or (first_of (field_within (mixture_of cs) k name desc) r.head.interfaces) (of_option (field_within (mixture_of cs) k name desc) r.head.superclass))
field_step cs c r n k name desc is e =
    ap (λ t. field_within (mixture_of cs) t name desc (name_of (heads_in cs) c)) e
    ∙ (ap (field_within (mixture_of cs) (suc k) name desc) is.named
    ∙ ap
    (λ o. elim o [
      | None ↦ None
      | Some s ↦ option_or (own_field name desc s) (option_or (first_of (field_within (mixture_of cs) k name desc) s.head.interfaces) (of_option (field_within (mixture_of cs) k name desc) s.head.superclass))
    ])
    is.is_it)

-- a name that finds nothing has no field
pub field_blind : (m : Mixture) (n : ℕ) (name desc type : Named) → found m type ≡ None → field_within m n name desc type ≡ None
field_blind m zero name desc type e = refl
field_blind m (suc n) name desc type e =
    ap
    (λ o. elim o [
      | None ↦ None
      | Some s ↦ option_or (own_field name desc s) (option_or (first_of (field_within m n name desc) s.head.interfaces) (of_option (field_within m n name desc) s.head.superclass))
    ])
    e

-- the first step of a search in an interface
pub interface_step : (cs : Classes) (c : ClassId) (r : ClassRecord) (n k : ℕ) (name desc : Named) → IsRecord cs c r → n ≡ suc k
    → interface_method_within (mixture_of cs) n name desc (name_of (heads_in cs) c)
    ≡ option_or (own_method (is_method name desc) (record_shape r)) (first_of (interface_method_within (mixture_of cs) k name desc) r.head.interfaces)
interface_step cs c r n k name desc is e =
    ap (λ t. interface_method_within (mixture_of cs) t name desc (name_of (heads_in cs) c)) e
    ∙ (ap (interface_method_within (mixture_of cs) (suc k) name desc) is.named
    ∙ ap (λ o. elim o [ None ↦ None | Some s ↦ option_or (own_method (is_method name desc) s) (first_of (interface_method_within (mixture_of cs) k name desc) s.head.interfaces) ]) is.is_it)

-- a name that finds nothing has no method of an interface
pub interface_blind : (m : Mixture) (n : ℕ) (name desc type : Named) → found m type ≡ None → interface_method_within m n name desc type ≡ None
interface_blind m zero name desc type e = refl
interface_blind m (suc n) name desc type e =
    ap (λ o. elim o [ None ↦ None | Some s ↦ option_or (own_method (is_method name desc) s) (first_of (interface_method_within m n name desc) s.head.interfaces) ]) e

-- a step of a search along the superclasses
pub along_step : (cs : Classes) (c : ClassId) (r : ClassRecord) (n k : ℕ) (p : Method → Bool) → IsRecord cs c r → n ≡ suc k
    → along p (mixture_of cs) n (name_of (heads_in cs) c) ≡ option_or (own_method p (record_shape r)) (of_option (along p (mixture_of cs) k) r.head.superclass)
along_step cs c r n k p is e =
    ap (λ t. along p (mixture_of cs) t (name_of (heads_in cs) c)) e
    ∙ (ap (along p (mixture_of cs) (suc k)) is.named
    ∙ ap (λ o. elim o [ None ↦ None | Some s ↦ option_or (own_method p s) (of_option (along p (mixture_of cs) k) s.head.superclass) ]) is.is_it)

-- and none along superclasses
pub along_blind : (m : Mixture) (n : ℕ) (p : Method → Bool) (type : Named) → found m type ≡ None → along p m n type ≡ None
along_blind m zero p type e = refl
along_blind m (suc n) p type e = ap (λ o. elim o [ None ↦ None | Some s ↦ option_or (own_method p s) (of_option (along p m n) s.head.superclass) ]) e

-- a step of a search in the superinterfaces
pub inherited_step : (cs : Classes) (c : ClassId) (r : ClassRecord) (n k : ℕ) (name desc : Named) → IsRecord cs c r → n ≡ suc k
    → inherited_within (mixture_of cs) n name desc (name_of (heads_in cs) c)
    ≡ option_or (first_of (interface_method_within (mixture_of cs) k name desc) r.head.interfaces) (of_option (inherited_within (mixture_of cs) k name desc) r.head.superclass)
inherited_step cs c r n k name desc is e =
    ap (λ t. inherited_within (mixture_of cs) t name desc (name_of (heads_in cs) c)) e
    ∙ (ap (inherited_within (mixture_of cs) (suc k) name desc) is.named
    ∙ ap
    (λ o. elim o [
      | None ↦ None
      | Some s ↦ option_or (first_of (interface_method_within (mixture_of cs) k name desc) s.head.interfaces) (of_option (inherited_within (mixture_of cs) k name desc) s.head.superclass)
    ])
    is.is_it)

-- and inherits none
pub inherited_blind : (m : Mixture) (n : ℕ) (name desc type : Named) → found m type ≡ None → inherited_within m n name desc type ≡ None
inherited_blind m zero name desc type e = refl
inherited_blind m (suc n) name desc type e =
    ap
    (λ o. elim o [
      | None ↦ None
      | Some s ↦ option_or (first_of (interface_method_within m n name desc) s.head.interfaces) (of_option (inherited_within m n name desc) s.head.superclass)
    ])
    e

-- a search goes on above, or ends where nothing is above
pub above_none : {X : Type 0} (cs : Classes) (f : Named → Option X) (o : Option Named) → ((n : Named) → found (mixture_of cs) n ≡ None → f n ≡ None) → IsAbove cs o None → of_option f o ≡ None
above_none cs f None blind above = refl
above_none cs f (Some n) blind above = blind n (above n refl)

-- a search above the class goes on at the superclass
pub above_some : {X : Type 0} (cs : Classes) (f : Named → Option X) (o : Option Named) (c : ClassId) → IsAbove cs o (Some c) → of_option f o ≡ f (name_of (heads_in cs) c)
above_some cs f o c above = ap (of_option f) above.1

-- ---- the searches of the definitions

-- equal searches give equal answers above
above_same : {X : Type 0} (f g : Named → Option X) → ((c : Named) → f c ≡ g c) → (o : Option Named) → of_option f o ≡ of_option g o
above_same f g same None = refl
above_same f g same (Some c) = same c

abbrev along_from : (Method → Bool) → (Named → Option FoundMethod) → Option Shape → Option FoundMethod
along_from p f None = None
along_from p f (Some s) = option_or (own_method p s) (of_option f s.head.superclass)

-- a search along superclasses by another one for the classes above
along_at : (p : Method → Bool) (m : Mixture) (n : ℕ) (f : Named → Option FoundMethod) → ((c : Named) → along p m n c ≡ f c) → (o : Option Shape)
    → along_from p (along p m n) o ≡ along_from p f o
along_at p m n f same None = refl
along_at p m n f same (Some s) = ap (option_or (own_method p s)) (above_same (along p m n) f same s.head.superclass)

-- the search along superclasses for any method is that of the definition
pub along_methods : (m : Mixture) (n : ℕ) (name desc type : Named) → along (is_method name desc) m n type ≡ class_method_within m n name desc type
along_methods m zero name desc type = refl
along_methods m (suc n) name desc type = along_at (is_method name desc) m n (class_method_within m n name desc) (λ c. along_methods m n name desc c) (found m type)

-- and so is that for an open one
pub along_open : (m : Mixture) (n : ℕ) (name desc type : Named) → along (is_open name desc) m n type ≡ open_within m n name desc type
along_open m zero name desc type = refl
along_open m (suc n) name desc type = along_at (is_open name desc) m n (open_within m n name desc) (λ c. along_open m n name desc c) (found m type)

-- ---- searches by numbers

-- what superinterfaces and the superclass answer, where the type itself has no such field
pub field_beside : (cs : Classes) (c : ClassId) (r : ClassRecord) (n k : ℕ) (name desc : Named) (own q : Option FieldId) → IsRecord cs c r → n ≡ suc k
    → is_some own ≡ false → NamesField cs own (own_field name desc (record_shape r))
    → NamesField cs q (option_or (first_of (field_within (mixture_of cs) k name desc) r.head.interfaces) (of_option (field_within (mixture_of cs) k name desc) r.head.superclass))
    → NamesField cs q (field_within (mixture_of cs) n name desc (name_of (heads_in cs) c))
field_beside cs c r n k name desc own q is next none own_is beside =
    let rest : Option FoundField = option_or (first_of (field_within (mixture_of cs) k name desc) r.head.interfaces) (of_option (field_within (mixture_of cs) k name desc) r.head.superclass) in
    names_same (IsField cs) q (option_or (own_field name desc (record_shape r)) rest) (field_within (mixture_of cs) n name desc (name_of (heads_in cs) c))
    (sym (field_step cs c r n k name desc is next))
    (then_names (IsField cs) own q (own_field name desc (record_shape r)) rest none own_is beside)

-- what superinterfaces answer, where the interface itself has no such method
pub interface_beside : (cs : Classes) (c : ClassId) (r : ClassRecord) (n k : ℕ) (name desc : Named) (own q : Option MethodId) → IsRecord cs c r → n ≡ suc k
    → is_some own ≡ false → NamesMethod cs own (own_method (is_method name desc) (record_shape r))
    → NamesMethod cs q (first_of (interface_method_within (mixture_of cs) k name desc) r.head.interfaces)
    → NamesMethod cs q (interface_method_within (mixture_of cs) n name desc (name_of (heads_in cs) c))
interface_beside cs c r n k name desc own q is next none own_is beside =
    let rest : Option FoundMethod = first_of (interface_method_within (mixture_of cs) k name desc) r.head.interfaces in
    names_same (IsMethod cs) q (option_or (own_method (is_method name desc) (record_shape r)) rest) (interface_method_within (mixture_of cs) n name desc (name_of (heads_in cs) c))
    (sym (interface_step cs c r n k name desc is next))
    (then_names (IsMethod cs) own q (own_method (is_method name desc) (record_shape r)) rest none own_is beside)

-- what a class answers is what the search answers that has come to it
pub along_own : (cs : Classes) (c : ClassId) (r : ClassRecord) (n k : ℕ) (p : Method → Bool) (own : Option MethodId) (whole : Option FoundMethod) → IsRecord cs c r → n ≡ suc k
    → along p (mixture_of cs) n (name_of (heads_in cs) c) ≡ whole → is_some own ≡ true → NamesMethod cs own (own_method p (record_shape r)) → NamesMethod cs own whole
along_own cs c r n k p own whole is next so_far some own_is =
    let rest : Option FoundMethod = of_option (along p (mixture_of cs) k) r.head.superclass in
    names_same (IsMethod cs) own (option_or (own_method p (record_shape r)) rest) whole (sym (along_step cs c r n k p is next) ∙ so_far)
    (first_names (IsMethod cs) own (own_method p (record_shape r)) rest some own_is)

-- a search that answers no number finds none
none_is : {I X : Type 0} (Is : I → X → Type 0) (q : Option I) (o : Option X) → is_some q ≡ false → Names Is q o → o ≡ None
none_is Is None o none n = n
none_is Is (Some i) o none n = cc

-- where it answers nothing, the classes above answer
pub along_above : (cs : Classes) (c : ClassId) (r : ClassRecord) (n k : ℕ) (p : Method → Bool) (own : Option MethodId) (whole : Option FoundMethod) → IsRecord cs c r → n ≡ suc k
    → along p (mixture_of cs) n (name_of (heads_in cs) c) ≡ whole → is_some own ≡ false → NamesMethod cs own (own_method p (record_shape r))
    → of_option (along p (mixture_of cs) k) r.head.superclass ≡ whole
along_above cs c r n k p own whole is next so_far none own_is =
    first_some (own_method p (record_shape r)) (of_option (along p (mixture_of cs) k) r.head.superclass) whole (none_is (IsMethod cs) own (own_method p (record_shape r)) none own_is)
    (sym (along_step cs c r n k p is next) ∙ so_far)

-- what the superinterfaces of a class answer is what the search answers that has come to it
pub inherited_own : (cs : Classes) (c : ClassId) (r : ClassRecord) (n k : ℕ) (name desc : Named) (own : Option MethodId) (whole : Option FoundMethod) → IsRecord cs c r → n ≡ suc k
    → inherited_within (mixture_of cs) n name desc (name_of (heads_in cs) c) ≡ whole → is_some own ≡ true
    → NamesMethod cs own (first_of (interface_method_within (mixture_of cs) k name desc) r.head.interfaces) → NamesMethod cs own whole
inherited_own cs c r n k name desc own whole is next so_far some own_is =
    let rest : Option FoundMethod = of_option (inherited_within (mixture_of cs) k name desc) r.head.superclass in
    let here_it : Option FoundMethod = first_of (interface_method_within (mixture_of cs) k name desc) r.head.interfaces in
    names_same (IsMethod cs) own (option_or here_it rest) whole (sym (inherited_step cs c r n k name desc is next) ∙ so_far)
    (first_names (IsMethod cs) own here_it rest some own_is)

-- where they answer nothing, the classes above answer
pub inherited_above : (cs : Classes) (c : ClassId) (r : ClassRecord) (n k : ℕ) (name desc : Named) (own : Option MethodId) (whole : Option FoundMethod) → IsRecord cs c r → n ≡ suc k
    → inherited_within (mixture_of cs) n name desc (name_of (heads_in cs) c) ≡ whole → is_some own ≡ false
    → NamesMethod cs own (first_of (interface_method_within (mixture_of cs) k name desc) r.head.interfaces)
    → of_option (inherited_within (mixture_of cs) k name desc) r.head.superclass ≡ whole
inherited_above cs c r n k name desc own whole is next so_far none own_is =
    let here_it : Option FoundMethod = first_of (interface_method_within (mixture_of cs) k name desc) r.head.interfaces in
    first_some here_it (of_option (inherited_within (mixture_of cs) k name desc) r.head.superclass) whole (none_is (IsMethod cs) own here_it none own_is)
    (sym (inherited_step cs c r n k name desc is next) ∙ so_far)
