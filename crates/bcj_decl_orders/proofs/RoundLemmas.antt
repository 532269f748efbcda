-- That a visit makes a list that is right, and that as many rounds as there are types make all.
use Rattle.std.proofs.Common.{◌≡◌, ◌<◌, ◌≤◌, ◌+◌, ◌-◌, List, [], ◌∷◌, Option, Some, None, Bool, true, false, cond, refl, sym, ◌∙◌, ap, subst, ℕ, zero, suc, inl, inr, ◌⊎◌, length, arith, slice_get, nat_eq, get_or, set, get_or-set_same, get_or-set_other}
use Rattle.std.proofs.lemmas.Bool.{cases_Bool, and_parts, eqb-true, eq-eqb}
use Rattle.std.proofs.lemmas.Option.{slice_get_within}
use Rattle.std.proofs.lemmas.List.Elements.{All-nil}
use Rattle.std.specs.List.{find, cons_option, list_all, flat_map, All, IsDistinct}
use Rattle.std.specs.Option.{option_map_or, is_none}
use Rattle.std.specs.Str.{bytes_eq}
use Rattle.bcj_decl_rules.specs.World.{Named, Declared, World, type_named}
use Rattle.bcj_decl_rules.specs.Subtypes.{direct_supertypes}
use Rattle.bcj_decl_rules.specs.function.Above.{IsAcyclic, types_above, interfaces_over, HasSameFirsts}
use Rattle.bcj_decl_listing.specs.Places.{place_of, place_from, types_at}
use Rattle.bcj_decl_listing.proofs.PlaceLemmas.{type_at, found_none}
use Rattle.bcj_decl_orders.specs.Orders.{IsOrder, AreOrders, list_at}
use Rattle.bcj_decl_orders.specs.Rounds.{done_at, is_done, are_done, places_over, gathered, AreRight, StayDone, IsMade, IsInRound}
use Rattle.bcj_decl_orders.proofs.Circles.{ends, each_of, all_of}
use Rattle.bcj_decl_orders.proofs.Steps.{AllEnd, all_end, interfaces_all, types_above_end}
use Rattle.bcj_decl_orders.proofs.Firsts.{all_lists, same_at, same_lists, All-lists}

-- ---- the type at the place of a name

named_by : (i : ℕ) (w : World) (name : Named) (k : ℕ) → place_from i w name ≡ Some k → (t : Declared) × (type_named w name ≡ Some t)
named_by i [] name k e = absurd (cc)
named_by i (u ∷ us) name k e =
    elim (cases_Bool (bytes_eq u.name name)) [
      | inl it ↦ (u, ap (λ b. cond b (Some u) (type_named us name)) it)
      | inr other ↦
          let rest : (t : Declared) × (type_named us name ≡ Some t) = named_by (i + 1) us name k (ap (λ b. cond b (Some i) (place_from (i + 1) us name)) (sym other) ∙ e) in
          (rest.0, ap (λ b. cond b (Some u) (type_named us name)) other ∙ rest.1)
    ]

abbrev at_zero : World → Option ℕ → Option Declared
at_zero w None = None
at_zero w (Some k) = slice_get w (k - 0)

record Standing (w : World) (name : Named) (k : ℕ) : Type 0 where
  type : Declared
  named : type_named w name ≡ Some type
  stands : slice_get w k ≡ Some type

standing : (w : World) (name : Named) (k : ℕ) → place_of w name ≡ Some k → Standing w name k
standing w name k e =
    let found : (t : Declared) × (type_named w name ≡ Some t) = named_by 0 w name k e in
    let less : k - 0 ≡ k = omega arith in
    record { type = found.0; named = found.1; stands = ap (slice_get w) (sym less) ∙ (ap (at_zero w) (sym e) ∙ (type_at 0 w name ∙ found.1)) }

-- ---- a visit

abbrev one_up : World → Option Declared → List Declared
one_up w o = elim o [ None ↦ [] | Some t ↦ t ∷ types_above (length w) w t.interfaces ]

abbrev over_name : World → Named → List Declared
over_name w name = one_up w (type_named w name)

abbrev list_over : List (List ℕ) → Option ℕ → List ℕ
list_over lists o = option_map_or (λ k. k ∷ list_at lists k) o []

-- the list at a place whose type is done
order_of : (w : World) (lists : List (List ℕ)) (done : List Bool) → AreRight w lists done → (name : Named) → is_done w done name ≡ true → (k : ℕ) (at_it : Standing w name k) → place_of w name ≡ Some k
    → IsOrder w at_it.type (list_at lists k)
order_of w lists done right name ready k at_it e = right k at_it.type at_it.stands (ap (λ o. option_map_or (done_at done) o true) (sym e) ∙ ready)

first_over : (w : World) (lists : List (List ℕ)) (done : List Bool) → AreRight w lists done → (p : Declared → Bool) (name : Named) → is_done w done name ≡ true → (o : Option ℕ) → place_of w name ≡ o
    → find p (types_at w (list_over lists o)) ≡ find p (over_name w name)
first_over w lists done right p name ready None e = ap (λ o. find p (one_up w o)) (found_none w name e)
first_over w lists done right p name ready (Some k) e =
    let at_it : Standing w name k = standing w name k e in
    let order : IsOrder w at_it.type (list_at lists k) = order_of w lists done right name ready k at_it e in
    ap (λ o. find p (cons_option o (types_at w (list_at lists k)))) at_it.stands
    ∙ (ap (λ o. cond (p at_it.type) (Some at_it.type) o) (order.firsts p) ∙ sym (ap (λ o. find p (one_up w o)) at_it.named))

below_with : (n k : ℕ) (ks : List ℕ) → k < n → All (λ j. j < n) ks → All (λ j. j < n) (k ∷ ks)
below_with n k ks h all zero d inside = h
below_with n k ks h all (suc i) d inside = all i d (omega arith)

below_over : (w : World) (lists : List (List ℕ)) (done : List Bool) → AreRight w lists done → (name : Named) → is_done w done name ≡ true → (o : Option ℕ) → place_of w name ≡ o
    → All (λ k. k < length w) (list_over lists o)
below_over w lists done right name ready None e = All-nil (λ k. k < length w)
below_over w lists done right name ready (Some k) e =
    let at_it : Standing w name k = standing w name k e in
    let order : IsOrder w at_it.type (list_at lists k) = order_of w lists done right name ready k at_it e in
    below_with (length w) k (list_at lists k) (slice_get_within w k at_it.type at_it.stands) order.below

-- each of the names is done
at_name : (w : World) (done : List Bool) (names : List Named) → are_done w done names ≡ true → (i : ℕ) (n : Named) → slice_get names i ≡ Some n → is_done w done n ≡ true
at_name w done [] all i n e = absurd (cc)
at_name w done (x ∷ xs) all zero n e =
    let parts : (is_done w done x ≡ true) × (are_done w done xs ≡ true) = and_parts (is_done w done x) (are_done w done xs) all in
    let same : x ≡ n = cc in
    ap (is_done w done) (sym same) ∙ parts.0
at_name w done (x ∷ xs) all (suc i) n e =
    let parts : (is_done w done x ≡ true) × (are_done w done xs ≡ true) = and_parts (is_done w done x) (are_done w done xs) all in
    at_name w done xs parts.1 i n e

-- what is gathered finds what a search finds
gathered_firsts : (w : World) → IsAcyclic w → (lists : List (List ℕ)) (done : List Bool) → AreRight w lists done → (t : Declared) → are_done w done t.interfaces ≡ true
    → HasSameFirsts (types_at w (gathered w lists [] t.interfaces)) (interfaces_over w t)
gathered_firsts w fine lists done right t ready p =
    let more : types_above (suc (length w)) w t.interfaces ≡ interfaces_over w t = types_above_end w fine (suc (length w)) (omega arith) t.interfaces in
    same_at w (gathered w lists [] t.interfaces) (flat_map (places_over w lists) t.interfaces) (all_lists (places_over w lists) [] t.interfaces) p
    ∙ (same_lists w (places_over w lists) (over_name w) p t.interfaces (λ i n e. first_over w lists done right p n (at_name w done t.interfaces ready i n e) (place_of w n) refl) ∙ ap (find p) more)

gathered_below : (w : World) (lists : List (List ℕ)) (done : List Bool) → AreRight w lists done → (names : List Named) → are_done w done names ≡ true
    → All (λ k. k < length w) (gathered w lists [] names)
gathered_below w lists done right names ready =
    All-lists (λ k. k < length w) (places_over w lists) [] names (All-nil (λ k. k < length w)) (λ i n e. below_over w lists done right n (at_name w done names ready i n e) (place_of w n) refl)

gathered_order : (w : World) → IsAcyclic w → (lists : List (List ℕ)) (done : List Bool) → AreRight w lists done → (t : Declared) → are_done w done t.interfaces ≡ true
    → (l : List ℕ) → l ≡ gathered w lists [] t.interfaces → IsDistinct nat_eq l → IsOrder w t l
gathered_order w fine lists done right t ready l e once =
    let P : List ℕ → Type 0 = λ m. HasSameFirsts (types_at w m) (interfaces_over w t) in
    let Q : List ℕ → Type 0 = λ m. All (λ k. k < length w) m in
    record { firsts = subst P (sym e) (gathered_firsts w fine lists done right t ready); once = once; below = subst Q (sym e) (gathered_below w lists done right t.interfaces ready) }

nat_cases : (j k : ℕ) → (j ≡ k) ⊎ (j ≡ k → ⊥)
nat_cases j k =
    elim (cases_Bool (nat_eq j k)) [
      | inl it ↦ inl (eqb-true j k it)
      | inr other ↦ inr (λ e.
          let wrong : true ≡ false = sym (eq-eqb j k e) ∙ other in
          absurd (cc))
    ]

-- the list that a visit makes is right, and the others stay
pub visit_right : (w : World) → IsAcyclic w → (lists : List (List ℕ)) (done : List Bool) → AreRight w lists done → (k : ℕ) (t : Declared) → slice_get w k ≡ Some t → are_done w done t.interfaces ≡ true
    → (l : List ℕ) → l ≡ gathered w lists [] t.interfaces → IsDistinct nat_eq l → k < length lists → AreRight w (set lists k l) (set done k true)
visit_right w fine lists done right k t at_it ready l e once inside j u stands made =
    elim (nat_cases j k) [
      | inl same ↦
          let both : Some t ≡ Some u = sym at_it ∙ (ap (slice_get w) (sym same) ∙ stands) in
          let type : t ≡ u = cc in
          let P : List ℕ → Type 0 = λ m. IsOrder w u m in
          let Q : Declared → Type 0 = λ v. IsOrder w v l in
          subst P (sym (ap (λ i. get_or (set lists k l) i []) same ∙ get_or-set_same lists k l [] inside)) (subst Q type (gathered_order w fine lists done right t ready l e once))
      | inr other ↦
          let P : List ℕ → Type 0 = λ m. IsOrder w u m in
          subst P (sym (get_or-set_other lists k j l [] other)) (right j u stands (sym (get_or-set_other done k j true false other) ∙ made))
    ]

-- ---- a round

still_done : (w : World) (old new : List Bool) → StayDone old new → (name : Named) → is_done w old name ≡ true → (o : Option ℕ) → place_of w name ≡ o → option_map_or (done_at new) o true ≡ true
still_done w old new stay name h None e = refl
still_done w old new stay name h (Some k) e = stay k (ap (λ o. option_map_or (done_at old) o true) (sym e) ∙ h)

still_ready : (w : World) (old new : List Bool) → StayDone old new → (names : List Named) → are_done w old names ≡ true → are_done w new names ≡ true
still_ready w old new stay names h =
    all_of (is_done w new) names (λ n inside. still_done w old new stay n (each_of (is_done w old) names n h inside) (place_of w n) refl)

pub round_begins : (w : World) (lists : List (List ℕ)) (done : List Bool) → AreRight w lists done → IsInRound w done lists done 0
round_begins w lists done right = record { right = right; stay = λ k h. h; made = λ k h. absurd (omega arith) }

pub round_goes_on : (w : World) (old : List Bool) (lists : List (List ℕ)) (done : List Bool) (n : ℕ) → IsInRound w old lists done n → (more : List (List ℕ)) (now : List Bool) → AreRight w more now → StayDone done now
    → IsMade w done now n → IsInRound w old more now (n + 1)
round_goes_on w old lists done n before more now right stay made =
    record {
      right = right;
      stay = λ k h. stay k (before.stay k h);
      made = λ k h t stands ready.
          elim (nat_cases k n) [
            | inl same ↦ subst (λ i. slice_get w i ≡ Some t → done_at now i ≡ true) (sym same) (λ e. made t e (still_ready w old done before.stay t.interfaces ready)) stands
            | inr other ↦ stay k (before.made k (omega (arith, other)) t stands ready)
          ];
    }

-- ---- all rounds

-- after so many rounds
abbrev pub IsDoneBy : ℕ → World → List Bool → Type 0
IsDoneBy zero w done = Unit {0}
IsDoneBy (suc n) w done = (k : ℕ) (t : Declared) → slice_get w k ≡ Some t → AllEnd n w t.interfaces → done_at done k ≡ true

ready_at : (n : ℕ) (w : World) (done : List Bool) → IsDoneBy n w done → (name : Named) → ends n w name ≡ true → (k : ℕ) → Standing w name k → done_at done k ≡ true
ready_at zero w done by name h k at_it =
    let wrong : false ≡ true = ap is_none (sym at_it.named) ∙ h in
    absurd (cc)
ready_at (suc n) w done by name h k at_it =
    by k at_it.type at_it.stands (interfaces_all (ends n w) at_it.type (ap (λ o. option_map_or (λ t. list_all (ends n w) (direct_supertypes t)) o true) (sym at_it.named) ∙ h))

name_ready : (n : ℕ) (w : World) (done : List Bool) → IsDoneBy n w done → (name : Named) → ends n w name ≡ true → (o : Option ℕ) → place_of w name ≡ o → option_map_or (done_at done) o true ≡ true
name_ready n w done by name h None e = refl
name_ready n w done by name h (Some k) e = ready_at n w done by name h k (standing w name k e)

-- a round more
pub one_round : (n : ℕ) (w : World) (old : List Bool) → IsDoneBy n w old → (lists : List (List ℕ)) (done : List Bool) (m : ℕ) → length w ≤ m → IsInRound w old lists done m → IsDoneBy (suc n) w done
one_round n w old by lists done m all round k t stands up =
    let inside : k < length w = slice_get_within w k t stands in
    round.made k (omega arith) t stands (all_of (is_done w old) t.interfaces (λ u there. name_ready n w old by u (each_of (ends n w) t.interfaces u up there) (place_of w u) refl))

-- the state between two rounds
pub record IsAfter (w : World) (lists : List (List ℕ)) (done : List Bool) (n : ℕ) : Type 0 where
  pub right : AreRight w lists done
  pub by : IsDoneBy n w done

pub after_none : (w : World) (lists : List (List ℕ)) (done : List Bool) → AreRight w lists done → IsAfter w lists done 0
after_none w lists done right = record { right = right; by = tt }

pub one_more_round : (n : ℕ) (w : World) (before : List (List ℕ)) (old : List Bool) → IsAfter w before old n → (lists : List (List ℕ)) (done : List Bool) (m : ℕ) → length w ≤ m → IsInRound w old lists done m
    → IsAfter w lists done (n + 1)
one_more_round n w before old after lists done m all round =
    let P : ℕ → Type 0 = λ k. IsDoneBy k w done in
    let next : suc n ≡ n + 1 = omega arith in
    record { right = round.right; by = subst P next (one_round n w old after.by lists done m all round) }

pub orders_by_round : (w : World) → IsAcyclic w → (old : List Bool) → IsDoneBy (length w) w old → (lists : List (List ℕ)) (done : List Bool) (m : ℕ) → length w ≤ m → IsInRound w old lists done m → length lists ≡ length w
    → AreOrders w lists
orders_by_round w fine old by lists done m all round many =
    record {
      as_many = many;
      each = λ k t stands.
          round.right k t stands (one_round (length w) w old by lists done m all round k t stands (all_end w fine (length w) (omega arith) t.interfaces));
    }

all_at : (done : List Bool) (k : ℕ) → list_all (λ d. d) done ≡ true → k < length done → done_at done k ≡ true
all_at [] k all h = absurd (omega arith)
all_at (d ∷ ds) zero all h = (and_parts d (list_all (λ e. e) ds) all).0
all_at (d ∷ ds) (suc k) all h = all_at ds k (and_parts d (list_all (λ e. e) ds) all).1 (omega arith)

pub orders_by_flags : (w : World) (lists : List (List ℕ)) (done : List Bool) → AreRight w lists done → list_all (λ d. d) done ≡ true → length done ≡ length w → length lists ≡ length w → AreOrders w lists
orders_by_flags w lists done right all flags many =
    record {
      as_many = many;
      each = λ k t stands.
          let inside : k < length w = slice_get_within w k t stands in
          right k t stands (all_at done k all (omega arith));
    }
