-- What is known of the loading of types stays true from step to step.
use Rattle.std.proofs.Common.{◌≡◌, ◌<◌, ◌≤◌, ◌==◌, ◌&&◌, ◌||◌, ℕ, zero, suc, Bool, true, false, not, List, [], ◌∷◌, map, length, take, set, get_or, slice_get, cond, count_by, sum_by, ◌+◌, Option, None, Some, refl, sym, ◌∙◌, ap, subst, arith, inl, inr, length-set}
use Rattle.std.proofs.lemmas.Bool.{cases_eq}
use Rattle.std.proofs.lemmas.Option.{slice_get-get_or, slice_get-map, slice_get_within, get_or_from_slice_get}
use Rattle.std.proofs.lemmas.List.Sums.{sum_by-set, sum_by-cons}
use Rattle.std.specs.List.{list_any}
use Rattle.std.specs.Option.{option_or, option_map}
use Rattle.bcj_symbolic_trees.specs.declared.class_tree.ClassHead.{ClassHead}
use Rattle.bcj_hier_rules.specs.declared.link_error.LinkError.{LinkError}
use Rattle.bcj_hier_rules.specs.declared.link_error.LinkError.TheVariants as error
use Rattle.bcj_hier_rules.specs.Heads.{of_heads, AreDistinct}
use Rattle.bcj_hier_rules.specs.Loading.{error_where, implements}
use Rattle.bcj_hier_rules.specs.Resolution.{same_bool}
use Rattle.bcj_hier.specs.declared.parts.Part.{Part}
use Rattle.bcj_hier.specs.declared.rows.Row.{Row}
use Rattle.bcj_hier.specs.declared.loading.Progress.{Progress}
use Rattle.bcj_hier.specs.declared.loading.Progress.TheVariants.{Open, Known}
use Rattle.bcj_hier.specs.declared.loading.Outcome.TheVariants.{Passes, Waits, Fails}
use Rattle.bcj_hier.specs.Numbers.{names_of, parts_of, interface_at, name_at, all_parts, parts_at}
use Rattle.bcj_hier.specs.Rows.{has_at, part_has}
use Rattle.bcj_hier.proofs.Places.{length_of_images}
use Rattle.bcj_hier.proofs.ByParts.{open_fails, none_within, head_there, load_is, part_implements, implements_at}
use Rattle.bcj_hier.specs.Loads.{loading_error, part_error, parts_error, IsPassing, ArePassing, is_open, opens_of, open_at, IsWaiting, IsStuck, Steps, Progresses, IsSettled, IsSound, AreKnown, is_loaded, AreRows, final_error, IsLoaded, passed_by, IsVisited, IsRound, outcome_at, outcome}

abbrev open_at_option : Option Bool → Bool
open_at_option None = true
open_at_option (Some b) = b

or_nothing : {A : Type 0} (a : Option A) → option_or a None ≡ a
or_nothing None = refl
or_nothing (Some x) = refl

abbrev wrong : Bool → Bool → Option LinkError
wrong wanted is = error_where (not (same_bool wanted is)) error.IncompatibleClassChange

abbrev error_by : List ClassHead → Bool → Option ℕ → Option LinkError
error_by heads w o = elim o [ None ↦ Some error.NoClassDefFound | Some k ↦ option_or (loading_error heads k) (wrong w (interface_at heads k)) ]

abbrev pub open_state : Option Progress → Bool
open_state None = true
open_state (Some s) = is_open s

open_by : (o : Option Progress) → open_at_option (option_map is_open o) ≡ open_state o
open_by None = refl
open_by (Some s) = refl

-- whether a type is open, by its state
pub open_is : (states : List Progress) (k : ℕ) (o : Option Progress) → slice_get states k ≡ o → open_at (opens_of states) k ≡ open_state o
open_is states k o e = ap open_at_option (slice_get-map is_open states k ∙ ap (option_map is_open) e) ∙ open_by o

kind_steps : (heads : List ClassHead) (states : List Progress) (p : Part) (k : ℕ) → p.place ≡ Some k → AreKnown heads states → slice_get states k ≡ Some (Known None) → (b : Bool)
    → same_bool p.interface (interface_at heads k) ≡ b → Steps heads states p (elim b [ true ↦ Passes | false ↦ Fails error.IncompatibleClassChange ])
kind_steps heads states p k there known e true h = record { place = k; is_there = there; loaded = e; kind = h }
kind_steps heads states p k there known e false h =
    ap (error_by heads p.interface) there
    ∙ (ap (λ x. option_or x (wrong p.interface (interface_at heads k))) (known k None e) ∙ ap (λ b. error_where (not b) error.IncompatibleClassChange) h)

steps_at : (heads : List ClassHead) (states : List Progress) (p : Part) (k : ℕ) → p.place ≡ Some k → AreKnown heads states → (o : Option Progress) → slice_get states k ≡ o
    → Steps heads states p (outcome_at (interface_at heads k) p.interface o)
steps_at heads states p k there known None e = record { place = k; is_there = there; not_known = open_is states k None e }
steps_at heads states p k there known (Some (Open at)) e = record { place = k; is_there = there; not_known = open_is states k (Some (Open at)) e }
steps_at heads states p k there known (Some (Known (Some r))) e =
    ap (error_by heads p.interface) there ∙ ap (λ x. option_or x (wrong p.interface (interface_at heads k))) (known k (Some r) e)
steps_at heads states p k there known (Some (Known None)) e = kind_steps heads states p k there known e (same_bool p.interface (interface_at heads k)) refl

steps_by : (heads : List ClassHead) (states : List Progress) (p : Part) → AreKnown heads states → (o : Option ℕ) → p.place ≡ o
    → Steps heads states p (elim o [ None ↦ Fails error.NoClassDefFound | Some k ↦ outcome_at (interface_at heads k) p.interface (slice_get states k) ])
steps_by heads states p known None e = ap (error_by heads p.interface) e
steps_by heads states p known (Some k) e = steps_at heads states p k e known (slice_get states k) refl

-- what a part does is right
pub outcome_steps : (heads : List ClassHead) (states : List Progress) (p : Part) → AreKnown heads states → Steps heads states p (outcome heads states p)
outcome_steps heads states p known = steps_by heads states p known p.place refl

-- ---- lists of parts

pub pass_error : (heads : List ClassHead) (states : List Progress) (p : Part) → AreKnown heads states → IsPassing heads states p → part_error heads p ≡ None
pass_error heads states p known i =
    ap (error_by heads p.interface) i.is_there
    ∙ (ap (λ x. option_or x (wrong p.interface (interface_at heads i.place))) (known i.place None i.loaded) ∙ ap (λ b. error_where (not b) error.IncompatibleClassChange) i.kind)

pub passing_error : (heads : List ClassHead) (states : List Progress) (ps : List Part) → AreKnown heads states → ArePassing heads states ps → parts_error heads ps ≡ None
passing_error heads states [] known a = refl
passing_error heads states (p ∷ ps) known a = ap (λ x. option_or x (parts_error heads ps)) (pass_error heads states p known a.0) ∙ passing_error heads states ps known a.1

-- the part behind those that pass
pub fails_at : (heads : List ClassHead) (ps : List Part) (at : ℕ) (p : Part) (e : LinkError) → slice_get ps at ≡ Some p → parts_error heads (take at ps) ≡ None → part_error heads p ≡ Some e
    → parts_error heads ps ≡ Some e
fails_at heads [] at p e there passed fails = cc
fails_at heads (q ∷ ps) zero p e there passed fails =
    let same : q ≡ p = cc in
    ap (λ x. option_or x (parts_error heads ps)) (ap (part_error heads) same ∙ fails)
fails_at heads (q ∷ ps) (suc at) p e there passed fails =
    elim (part_error heads q) as (λ o. option_or o (parts_error heads (take at ps)) ≡ None → option_or o (parts_error heads ps) ≡ Some e) [
      | None ↦ λ h. fails_at heads ps at p e there h fails
      | Some x ↦ λ h. absurd (cc)
    ] passed

pub passing_more : (heads : List ClassHead) (states : List Progress) (ps : List Part) (at : ℕ) (p : Part) → slice_get ps at ≡ Some p → ArePassing heads states (take at ps) → IsPassing heads states p
    → ArePassing heads states (take (suc at) ps)
passing_more heads states [] at p there a i = cc
passing_more heads states (q ∷ ps) zero p there a i =
    let same : p ≡ q = cc in
    (subst (λ (x : Part). IsPassing heads states x) same i, tt)
passing_more heads states (q ∷ ps) (suc at) p there a i = (a.0, passing_more heads states ps at p there a.1 i)

pub passing_all : (heads : List ClassHead) (states : List Progress) (ps : List Part) (n : ℕ) → length ps ≤ n → ArePassing heads states (take n ps) → ArePassing heads states ps
passing_all heads states [] n h a = tt
passing_all heads states (p ∷ ps) zero h a = absurd (omega arith)
passing_all heads states (p ∷ ps) (suc n) h a = (a.0, passing_all heads states ps n (omega arith) a.1)

-- ---- one type is taken on

abbrev no_part : Part
no_part = record { place = None; interface = false }

part_there : (ps : List Part) (at : ℕ) → at < length ps → slice_get ps at ≡ Some (get_or ps at no_part)
part_there ps at h = slice_get-get_or ps at no_part h

pub waits_there : (heads : List ClassHead) (states : List Progress) (ps : List Part) (at : ℕ) → AreKnown heads states → ArePassing heads states (take at ps) → at < length ps
    → Waits ≡ outcome heads states (get_or ps at no_part) → Progresses heads states ps (Open at)
waits_there heads states ps at known a few e =
    let w : IsWaiting (opens_of states) (get_or ps at no_part) = subst (Steps heads states (get_or ps at no_part)) (sym e) (outcome_steps heads states (get_or ps at no_part) known) in
    (a, omega arith, record { at = at; part = get_or ps at no_part; is_there = part_there ps at few; passed = passing_error heads states (take at ps) known a; waits = w })

pub fails_there : (heads : List ClassHead) (states : List Progress) (ps : List Part) (at : ℕ) (r : LinkError) → AreKnown heads states → ArePassing heads states (take at ps) → at < length ps
    → Fails r ≡ outcome heads states (get_or ps at no_part) → parts_error heads ps ≡ Some r
fails_there heads states ps at r known a few e =
    let w : part_error heads (get_or ps at no_part) ≡ Some r = subst (Steps heads states (get_or ps at no_part)) (sym e) (outcome_steps heads states (get_or ps at no_part) known) in
    fails_at heads ps at (get_or ps at no_part) r (part_there ps at few) (passing_error heads states (take at ps) known a) w

pub passes_there : (heads : List ClassHead) (states : List Progress) (ps : List Part) (at : ℕ) → AreKnown heads states → ArePassing heads states (take at ps) → at < length ps
    → Passes ≡ outcome heads states (get_or ps at no_part) → ArePassing heads states (take (suc at) ps)
passes_there heads states ps at known a few e =
    let w : IsPassing heads states (get_or ps at no_part) = subst (Steps heads states (get_or ps at no_part)) (sym e) (outcome_steps heads states (get_or ps at no_part) known) in
    passing_more heads states ps at (get_or ps at no_part) (part_there ps at few) a w

-- ---- a state is written

pub get_set_same : {A : Type 0} (xs : List A) (i : ℕ) (y : A) → i < length xs → slice_get (set xs i y) i ≡ Some y
get_set_same [] i y h = absurd (omega arith)
get_set_same (x ∷ xs) zero y h = refl
get_set_same (x ∷ xs) (suc i) y h = get_set_same xs i y (omega arith)

pub get_set_other : {A : Type 0} (xs : List A) (i j : ℕ) (y : A) → (j ≡ i → ⊥) → slice_get (set xs i y) j ≡ slice_get xs j
get_set_other [] i j y h = refl
get_set_other (x ∷ xs) zero zero y h = absurd (h refl)
get_set_other (x ∷ xs) zero (suc j) y h = refl
get_set_other (x ∷ xs) (suc i) zero y h = refl
get_set_other (x ∷ xs) (suc i) (suc j) y h = get_set_other xs i j y (λ e. h (ap suc e))

-- what loads is not open
loaded_apart : (states : List Progress) (k number : ℕ) (r : Option LinkError) → slice_get states k ≡ Some (Known r) → open_at (opens_of states) number ≡ true → k ≡ number → ⊥
loaded_apart states k number r e o same =
    let closed : open_at (opens_of states) k ≡ false = open_is states k (Some (Known r)) e in
    let here_it : open_at (opens_of states) k ≡ true = ap (open_at (opens_of states)) same ∙ o in
    let wrong_way : true ≡ false = sym here_it ∙ closed in
    cc

still_passes : (heads : List ClassHead) (states : List Progress) (number : ℕ) (next : Progress) (p : Part) → open_at (opens_of states) number ≡ true → IsPassing heads states p
    → IsPassing heads (set states number next) p
still_passes heads states number next p o i =
    record { place = i.place; is_there = i.is_there; loaded = get_set_other states number i.place next (loaded_apart states i.place number None i.loaded o) ∙ i.loaded; kind = i.kind }

still_passing : (heads : List ClassHead) (states : List Progress) (number : ℕ) (next : Progress) (ps : List Part) → open_at (opens_of states) number ≡ true → ArePassing heads states ps
    → ArePassing heads (set states number next) ps
still_passing heads states number next [] o a = tt
still_passing heads states number next (p ∷ ps) o a = (still_passes heads states number next p o a.0, still_passing heads states number next ps o a.1)

next_known : (heads : List ClassHead) (states : List Progress) (ps : List Part) (r : Option LinkError) → AreKnown heads states → Progresses heads states ps (Known r) → parts_error heads ps ≡ r
next_known heads states ps None known a = passing_error heads states ps known a
next_known heads states ps (Some e) known a = a

same_some : {A : Type 0} (x y : A) → ◌≡◌ {A = Option A} (Some x) (Some y) → x ≡ y
same_some x y e = cc

part_has_is : (heads : List ClassHead) (states : List Progress) (rows : List Row) → IsSound heads states rows → (i : ℕ) → i < length heads → (p : Part) → IsPassing heads states p
    → part_has rows i p ≡ part_implements heads (name_at heads i) p
part_has_is heads states rows s i few p a =
    ap (λ o. elim o [ None ↦ false | Some k ↦ has_at rows k i ]) a.is_there
    ∙ (s.row a.place i a.loaded few ∙ sym (ap (λ o. elim o [ None ↦ false | Some k ↦ implements (of_heads heads) (name_at heads k) (name_at heads i) ]) a.is_there))

parts_have : (heads : List ClassHead) (states : List Progress) (rows : List Row) → IsSound heads states rows → (i : ℕ) → i < length heads → (ps : List Part) → ArePassing heads states ps
    → list_any (part_has rows i) ps ≡ list_any (part_implements heads (name_at heads i)) ps
parts_have heads states rows s i few [] a = refl
parts_have heads states rows s i few (p ∷ ps) a =
    ap (λ b. b || list_any (part_has rows i) ps) (part_has_is heads states rows s i few p a.0)
    ∙ ap (λ b. part_implements heads (name_at heads i) p || b) (parts_have heads states rows s i few ps a.1)

-- the state of a type is written, as far as it has come
pub noted : (heads : List ClassHead) (states : List Progress) (rows after : List Row) (number : ℕ) (h : ClassHead) (next : Progress) → AreDistinct heads → slice_get heads number ≡ Some h
    → IsSound heads states rows → open_at (opens_of states) number ≡ true → Progresses heads states (parts_of (names_of heads) h) next → AreRows heads rows after number h next
    → IsSound heads (set states number next) after
noted heads states rows after number h next distinct there s o p rs =
    let few : number < length states = let k : number < length heads = slice_get_within heads number h there in let c : length states ≡ length heads = s.count in omega arith in
    let written : slice_get (set states number next) number ≡ Some next = get_set_same states number next few in
    let P : Progress → Type 0 = λ x. Progresses heads states (parts_of (names_of heads) h) x in
    let known_here : (r : Option LinkError) → next ≡ Known r → loading_error heads number ≡ r =
    λ r e. load_is heads number h distinct there ∙ next_known heads states (parts_of (names_of heads) h) r s.known (subst P e p) in
    record {
      count = length-set states number next ∙ s.count;
      row_count = rs.count ∙ s.row_count;
      known =
          λ k r e. elim (cases_eq k number) [
            | inl same ↦ ap (loading_error heads) same ∙ known_here r (same_some next (Known r) (sym written ∙ (sym (ap (slice_get (set states number next)) same) ∙ e)))
            | inr other ↦ s.known k r (sym (get_set_other states number k next other) ∙ e)
          ];
      passed =
          λ k at g e f. elim (cases_eq k number) [
            | inl same ↦
                let is_next : next ≡ Open at = same_some next (Open at) (sym written ∙ (sym (ap (slice_get (set states number next)) same) ∙ e)) in
                let is_head : h ≡ g = same_some h g (sym there ∙ (sym (ap (slice_get heads) same) ∙ f)) in
                let q : Progresses heads states (parts_of (names_of heads) h) (Open at) = subst P is_next p in
                let R : ClassHead → Type 0 = λ x. ArePassing heads (set states number next) (take at (parts_of (names_of heads) x)) × (at ≤ length (parts_of (names_of heads) x)) in
                subst R is_head (still_passing heads states number next (take at (parts_of (names_of heads) h)) o q.0, q.1)
            | inr other ↦
                let q : ArePassing heads states (take at (parts_of (names_of heads) g)) × (at ≤ length (parts_of (names_of heads) g)) = s.passed k at g (sym (get_set_other states number k next other) ∙ e) f in
                (still_passing heads states number next (take at (parts_of (names_of heads) g)) o q.0, q.1)
          ];
      row =
          λ k i e low. elim (cases_eq k number) [
            | inl same ↦
                let is_next : next ≡ Known None = same_some next (Known None) (sym written ∙ (sym (ap (slice_get (set states number next)) same) ∙ e)) in
                let a : ArePassing heads states (parts_of (names_of heads) h) = subst P is_next p in
                ap (λ j. has_at after j i) same
                ∙ (rs.own (ap is_loaded is_next) i low
                ∙ (ap (λ b. h.interface && i == number || b) (parts_have heads states rows s i low (parts_of (names_of heads) h) a)
                ∙ (sym (implements_at heads number i h distinct there low) ∙ sym (ap (λ j. implements (of_heads heads) (name_at heads j) (name_at heads i)) same))))
            | inr other ↦ rs.other k i other ∙ s.row k i (sym (get_set_other states number k next other) ∙ e) low
          ];
    }

-- ---- visits

passed_is : (o : Option Progress) (at : ℕ) → passed_by o ≡ Some at → o ≡ Some (Open at)
passed_is None at h = cc
passed_is (Some (Open n)) at h = ap (λ k. Some (Open k)) (same_some n at h)
passed_is (Some (Known r)) at h = cc

-- an open type is told by how many parts it passed
pub passed_there : (states : List Progress) (k at : ℕ) → Some at ≡ passed_by (slice_get states k) → slice_get states k ≡ Some (Open at)
passed_there states k at h = passed_is (slice_get states k) at (sym h)

pub passed_open : (states : List Progress) (k at : ℕ) → Some at ≡ passed_by (slice_get states k) → open_at (opens_of states) k ≡ true
passed_open states k at h = open_is states k (Some (Open at)) (passed_there states k at h)

closed_by : (o : Option Progress) → None ≡ passed_by o → (o ≡ None → ⊥) → open_state o ≡ false
closed_by None h f = absurd (f refl)
closed_by (Some (Open n)) h f = cc
closed_by (Some (Known r)) h f = refl

-- a type that isn't open is settled
pub visited_closed : (heads : List ClassHead) (states : List Progress) (k : ℕ) → k < length states → None ≡ passed_by (slice_get states k) → IsVisited heads states states k false
visited_closed heads states k few h =
    let closed : open_at (opens_of states) k ≡ false = open_is states k (slice_get states k) refl ∙ closed_by (slice_get states k) h (none_within states k few) in
    record {
      same = λ e. refl;
      settled = λ e g there o. let wrong_way : true ≡ false = sym o ∙ closed in cc;
      fewer = λ e. cc;
    }

opens_same : (states : List Progress) (k at : ℕ) (next : Progress) → slice_get states k ≡ Some (Open at) → is_open next ≡ true → map is_open (set states k next) ≡ map is_open states
opens_same [] k at next e o = refl
opens_same (s ∷ states) zero at next e o =
    let was : s ≡ Open at = same_some s (Open at) e in
    ap (λ b. b ∷ map is_open states) (o ∙ sym (ap is_open was))
opens_same (s ∷ states) (suc k) at next e o = ap (λ l. is_open s ∷ l) (opens_same states k at next e o)

fewer_open : (states : List Progress) (k at : ℕ) (next : Progress) → slice_get states k ≡ Some (Open at) → is_open next ≡ false → count_by is_open (set states k next) < count_by is_open states
fewer_open states k at next e o =
    let few : k < length states = slice_get_within states k (Open at) e in
    let was : get_or states k (Open at) ≡ Open at = get_or_from_slice_get states k (Open at) (Open at) e in
    let sums : sum_by (λ x. cond (is_open x) 1 0) (set states k next) + cond (is_open (get_or states k (Open at))) 1 0 ≡ sum_by (λ x. cond (is_open x) 1 0) states + cond (is_open next) 1 0 =
    sum_by-set (λ x. cond (is_open x) 1 0) states k next (Open at) few in
    let one : ◌≡◌ {A = ℕ} (cond (is_open (get_or states k (Open at))) 1 0) 1 = ap (λ x. cond (is_open x) 1 0) was in
    let none : ◌≡◌ {A = ℕ} (cond (is_open next) 1 0) 0 = ap (λ b. cond b 1 0) o in
    omega arith

stuck_open : (heads : List ClassHead) (states : List Progress) (ps : List Part) (next : Progress) → is_open next ≡ true → Progresses heads states ps next → IsStuck heads (opens_of states) ps
stuck_open heads states ps (Open at) o p = p.2
stuck_open heads states ps (Known None) o p = cc
stuck_open heads states ps (Known (Some e)) o p = cc

open_not : (b c : Bool) (v : Bool) → b ≡ not c → c ≡ v → b ≡ not v
open_not b c v h e = h ∙ ap not e

-- a type that is open is taken on
pub visited_open : (heads : List ClassHead) (states after : List Progress) (k at : ℕ) (ps : List Part) (next : Progress) (changed : Bool) → Some at ≡ passed_by (slice_get states k)
    → ((h : ClassHead) → slice_get heads k ≡ Some h → ps ≡ parts_of (names_of heads) h) → Progresses heads states ps next → after ≡ set states k next → is_open next ≡ not changed
    → IsVisited heads states after k changed
visited_open heads states after k at ps next changed h own p written o =
    let there : slice_get states k ≡ Some (Open at) = passed_there states k at h in
    record {
      same = λ e. ap opens_of written ∙ opens_same states k at next there (open_not (is_open next) changed false o e);
      settled = λ e g f is_o. subst (IsStuck heads (opens_of states)) (own g f) (stuck_open heads states ps next (open_not (is_open next) changed false o e) p);
      fewer =
          λ e. let fewer : count_by is_open (set states k next) < count_by is_open states = fewer_open states k at next there (open_not (is_open next) changed true o e) in
          let same : count_by is_open after ≡ count_by is_open (set states k next) = ap (count_by is_open) written in
          omega arith;
    }

-- ---- rounds

count_of_opens : (states : List Progress) → count_by is_open states ≡ count_by (λ b. b) (opens_of states)
count_of_opens [] = refl
count_of_opens (s ∷ states) =
    sum_by-cons (λ x. cond (is_open x) 1 0) s states ∙ (ap (λ n. cond (is_open s) 1 0 + n) (count_of_opens states) ∙ sym (sum_by-cons (λ b. cond b 1 0) (is_open s) (opens_of states)))

same_count : (a b : List Progress) → opens_of a ≡ opens_of b → count_by is_open a ≡ count_by is_open b
same_count a b e = count_of_opens a ∙ (ap (count_by (λ b. b)) e ∙ sym (count_of_opens b))

-- before a round
pub round_none : (heads : List ClassHead) (states : List Progress) → IsRound heads states states 0 false
round_none heads states = record { same = λ e. refl; settled = λ e k h. absurd (omega arith); fewer = λ e. cc }

-- one visit more
pub round_more : (heads : List ClassHead) (old states after : List Progress) (number : ℕ) (changed now : Bool) → IsRound heads old states number changed → IsVisited heads states after number now
    → IsRound heads old after (number + 1) (now || changed)
round_more heads old states after number true true r v =
    record { same = λ e. cc; settled = λ e. cc; fewer = λ e. let a : count_by is_open states < count_by is_open old = r.fewer refl in let b : count_by is_open after < count_by is_open states = v.fewer refl in omega arith }
round_more heads old states after number true false r v =
    record {
      same = λ e. cc;
      settled = λ e. cc;
      fewer =
          λ e. let a : count_by is_open states < count_by is_open old = r.fewer refl in
          let b : count_by is_open after ≡ count_by is_open states = same_count after states (v.same refl) in
          omega arith;
    }
round_more heads old states after number false true r v =
    record {
      same = λ e. cc;
      settled = λ e. cc;
      fewer =
          λ e. let a : count_by is_open states ≡ count_by is_open old = same_count states old (r.same refl) in
          let b : count_by is_open after < count_by is_open states = v.fewer refl in
          omega arith;
    }
round_more heads old states after number false false r v =
    record {
      same = λ e. v.same refl ∙ r.same refl;
      settled =
          λ e k h. elim (cases_eq k number) [
            | inl same ↦
                let S : ℕ → Type 0 = λ j. IsSettled heads (opens_of old) j in
                let T : List Bool → Type 0 = λ bs. IsSettled heads bs number in
                subst S (sym same) (subst T (r.same refl) (v.settled refl))
            | inr other ↦ r.settled refl k (omega arith)
          ];
      fewer = λ e. cc;
    }

-- a whole round
pub round_settled : (heads : List ClassHead) (old states : List Progress) (changed : Bool) → IsRound heads old states (length heads) changed → changed ≡ false → (k : ℕ) → IsSettled heads (opens_of states) k
round_settled heads old states changed r e k h there o =
    let T : List Bool → Type 0 = λ bs. IsSettled heads bs k in
    let s : IsSettled heads (opens_of states) k = subst T (sym (r.same e)) (r.settled e k (slice_get_within heads k h there)) in
    s h there o

-- the parts of a type in the list of all
pub parts_there : (heads : List ClassHead) (k : ℕ) (h : ClassHead) → slice_get heads k ≡ Some h → parts_at (all_parts heads) k ≡ parts_of (names_of heads) h
parts_there heads k h e =
    ap (λ o. elim o [ None ↦ [] | Some ps ↦ ps ]) (slice_get-map (parts_of (names_of heads)) heads k ∙ ap (option_map (parts_of (names_of heads))) e)

-- what is known of a type that is open, before it is taken on
pub open_passed : (heads : List ClassHead) (states : List Progress) (rows : List Row) → IsSound heads states rows → (k at : ℕ) (ps : List Part) → k < length heads → Some at ≡ passed_by (slice_get states k)
    → ((h : ClassHead) → slice_get heads k ≡ Some h → ps ≡ parts_of (names_of heads) h) → ArePassing heads states (take at ps) × (at ≤ length ps)
open_passed heads states rows s k at ps few e own =
    let t : (h : ClassHead) × (slice_get heads k ≡ Some h) = head_there heads k few in
    let R : List Part → Type 0 = λ x. ArePassing heads states (take at x) × (at ≤ length x) in
    subst R (sym (own t.0 t.1)) (s.passed k at t.0 (passed_there states k at e) t.1)

-- ---- all is known

final_by : (heads : List ClassHead) (states : List Progress) (rows : List Row) → AreDistinct heads → IsSound heads states rows → ((k : ℕ) → IsSettled heads (opens_of states) k)
    → (k : ℕ) → k < length heads → (o : Option Progress) → slice_get states k ≡ o → option_map final_error o ≡ Some (loading_error heads k)
final_by heads states rows distinct s settled k few None e =
    absurd (none_within states k (let c : length states ≡ length heads = s.count in omega arith) e)
final_by heads states rows distinct s settled k few (Some (Known r)) e = ap Some (sym (s.known k r e))
final_by heads states rows distinct s settled k few (Some (Open at)) e =
    let t : (h : ClassHead) × (slice_get heads k ≡ Some h) = head_there heads k few in
    ap Some (sym (open_fails heads (opens_of states) distinct settled k t.0 t.1 (open_is states k (Some (Open at)) e)))

row_by : (heads : List ClassHead) (states : List Progress) (rows : List Row) → AreDistinct heads → IsSound heads states rows → ((k : ℕ) → IsSettled heads (opens_of states) k)
    → (k i : ℕ) → k < length heads → i < length heads → loading_error heads k ≡ None → (o : Option Progress) → slice_get states k ≡ o → option_map final_error o ≡ Some (loading_error heads k)
    → has_at rows k i ≡ implements (of_heads heads) (name_at heads k) (name_at heads i)
row_by heads states rows distinct s settled k i few less loads None e f = cc
row_by heads states rows distinct s settled k i few less loads (Some (Open at)) e f =
    let wrong_way : Some (Some error.ClassCircularity) ≡ Some None = f ∙ ap Some loads in
    cc
row_by heads states rows distinct s settled k i few less loads (Some (Known r)) e f =
    let none : r ≡ None = same_some r None (f ∙ ap Some loads) in
    s.row k i (e ∙ ap (λ x. Some (Known x)) none) less

-- where a round changes nothing, all is known
pub all_loaded : (heads : List ClassHead) (states : List Progress) (rows : List Row) (errors : List (Option LinkError)) → AreDistinct heads → IsSound heads states rows
    → ((k : ℕ) → IsSettled heads (opens_of states) k) → errors ≡ map final_error states → IsLoaded heads errors rows
all_loaded heads states rows errors distinct s settled e =
    record {
      count = ap length e ∙ (length_of_images final_error states ∙ s.count);
      error = λ k few. ap (λ l. slice_get l k) e ∙ (slice_get-map final_error states k ∙ final_by heads states rows distinct s settled k few (slice_get states k) refl);
      row =
          λ k i few less loads. row_by heads states rows distinct s settled k i few less loads (slice_get states k) refl (final_by heads states rows distinct s settled k few (slice_get states k) refl);
    }
