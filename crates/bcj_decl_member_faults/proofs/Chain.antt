-- From a member the members before it that are like it are met one after another, the last first.
use Rattle.std.proofs.Common.{◌≡◌, ℕ, zero, suc, ◌+◌, ◌<◌, ◌≤◌, Bool, true, false, ◌||◌, cond, List, [], ◌∷◌, ◌++◌, map, length, get_or, take, slice_get, Option, None, Some, inl, inr, refl, sym, ◌∙◌, ap, subst, arith, add-one, length-append}
use Rattle.std.proofs.lemmas.Bool.{cases_Bool, cases_lt, and_parts}
use Rattle.std.proofs.lemmas.Slice.Eq.{bytes_eq-Decides}
use Rattle.std.specs.HashMap.{get_by_text}
use Rattle.std.specs.List.{list_any}
use Rattle.std.specs.Option.{option_map_or}
use Rattle.std.specs.Str.{bytes_eq}
use Rattle.bcj_parser_trees.specs.Trees.{PlainMember, field_member, method_member, constructor_member, static_member}
use Rattle.bcj_symbolic_trees.specs.Same.{same_types}
use Rattle.bcj_decl_rules.specs.World.{Named, param_types}
use Rattle.bcj_decl_rules.specs.Faults.{is_field_of}
use Rattle.bcj_decl_member_faults.specs.declared.earlier.Last.{Last}
use Rattle.bcj_decl_member_faults.specs.Earlier.{is_method_named, is_constructor_member, is_alike, is_again, holds_at, last_below, alike_at, AreEarlier}
use Rattle.bcj_decl_member_faults.specs.Last.{last_of, TakesIn, AreLast}

-- ---- lists

-- the item at a position, as the list of the forms has it
pub got_at : {A B : Type 0} (f : A → B) (xs : List A) (i : ℕ) (x : A) → i < length xs → x ≡ get_or xs i x → slice_get (map f xs) i ≡ Some (f x)
got_at f [] i x h e = absurd (omega arith)
got_at f (y ∷ ys) zero x h e = ap (λ z. Some (f z)) (sym e)
got_at f (y ∷ ys) (suc i) x h e = let less : i < length ys = omega arith in got_at f ys i x less e

-- an item of a longer list
get_before : {A : Type 0} (xs : List A) (x : A) (k : ℕ) → k < length xs → slice_get (xs ++ x ∷ []) k ≡ slice_get xs k
get_before [] x k h = absurd (omega arith)
get_before (y ∷ ys) x zero h = refl
get_before (y ∷ ys) x (suc k) h = let less : k < length ys = omega arith in get_before ys x k less

-- the last item of a longer list
get_last : {A : Type 0} (xs : List A) (x : A) → slice_get (xs ++ x ∷ []) (length xs) ≡ Some x
get_last [] x = refl
get_last (y ∷ ys) x = get_last ys x

-- beside what fails
or_false : (a : Bool) → (a || false) ≡ a
or_false true = refl
or_false false = refl

-- three tests
or_or : (a b c : Bool) → (a || (b || c)) ≡ ((a || b) || c)
or_or true b c = refl
or_or false b c = refl

-- one member more
any_more : (p : PlainMember → Bool) (ms : List PlainMember) (b : ℕ) → list_any p (take (suc b) ms) ≡ (list_any p (take b ms) || holds_at p ms b)
any_more p [] zero = refl
any_more p [] (suc b) = refl
any_more p (m ∷ ms) zero = or_false (p m)
any_more p (m ∷ ms) (suc b) = ap (λ x. p m || x) (any_more p ms b) ∙ or_or (p m) (list_any p (take b ms)) (holds_at p ms b)

-- ---- alike

-- names of the same bytes
same_bytes : (a b : Named) → bytes_eq a b ≡ true → a ≡ b
same_bytes a b h = (bytes_eq-Decides a b).0 h

-- what is the same again is alike
again_alike : (m o : PlainMember) → is_again m o ≡ true → is_alike m o ≡ true
again_alike (field_member at mods ty name init) o h = h
again_alike (method_member at mods result name params throws body) (field_member at' mods' ty' name' init') h = cc
again_alike (method_member at mods result name params throws body) (method_member at' mods' result' name' params' throws' body') h =
    (and_parts (bytes_eq name' name) (same_types (param_types params') (param_types params)) h).0
again_alike (method_member at mods result name params throws body) (constructor_member at' mods' name' params' throws' first' body') h = cc
again_alike (method_member at mods result name params throws body) (static_member at' body') h = cc
again_alike (constructor_member at mods name params throws first body) (field_member at' mods' ty' name' init') h = cc
again_alike (constructor_member at mods name params throws first body) (method_member at' mods' result' name' params' throws' body') h = cc
again_alike (constructor_member at mods name params throws first body) (constructor_member at' mods' name' params' throws' first' body') h = refl
again_alike (constructor_member at mods name params throws first body) (static_member at' body') h = cc
again_alike (static_member at body) o h = h

-- what is alike is like the same members
alike_same : (m o : PlainMember) → is_alike m o ≡ true → is_alike o ≡ is_alike m
alike_same (field_member at mods ty name init) (field_member at' mods' ty' name' init') h = ap is_field_of (same_bytes name' name h)
alike_same (field_member at mods ty name init) (method_member at' mods' result' name' params' throws' body') h = cc
alike_same (field_member at mods ty name init) (constructor_member at' mods' name' params' throws' first' body') h = cc
alike_same (field_member at mods ty name init) (static_member at' body') h = cc
alike_same (method_member at mods result name params throws body) (field_member at' mods' ty' name' init') h = cc
alike_same (method_member at mods result name params throws body) (method_member at' mods' result' name' params' throws' body') h = ap is_method_named (same_bytes name' name h)
alike_same (method_member at mods result name params throws body) (constructor_member at' mods' name' params' throws' first' body') h = cc
alike_same (method_member at mods result name params throws body) (static_member at' body') h = cc
alike_same (constructor_member at mods name params throws first body) (field_member at' mods' ty' name' init') h = cc
alike_same (constructor_member at mods name params throws first body) (method_member at' mods' result' name' params' throws' body') h = cc
alike_same (constructor_member at mods name params throws first body) (constructor_member at' mods' name' params' throws' first' body') h = refl
alike_same (constructor_member at mods name params throws first body) (static_member at' body') h = cc
alike_same (static_member at body) o h = cc

-- ---- the last one before

-- a member that isn't like it adds nothing
not_here : (p test : PlainMember → Bool) (ms : List PlainMember) (b : ℕ) → ((k : ℕ) → holds_at p ms k ≡ true → holds_at test ms k ≡ true) → holds_at test ms b ≡ false
    → (list_any p (take b ms) || holds_at p ms b) ≡ list_any p (take b ms)
not_here p test ms b sub other =
    elim (cases_Bool (holds_at p ms b)) [
      | inl it ↦ absurd (let yes : holds_at test ms b ≡ true = sub b it in cc)
      | inr other_too ↦ ap (λ x. list_any p (take b ms) || x) other_too ∙ or_false (list_any p (take b ms))
    ]

-- where none like it stands before, none is the same
pub none_before : (p test : PlainMember → Bool) (ms : List PlainMember) (b : ℕ) → ((k : ℕ) → holds_at p ms k ≡ true → holds_at test ms k ≡ true) → last_below test ms b ≡ None → list_any p (take b ms) ≡ false
none_before p test ms zero sub e = refl
none_before p test ms (suc b) sub e =
    elim (cases_Bool (holds_at test ms b)) [
      | inl it ↦ let here_it : Some b ≡ None = ap (λ x. cond x (Some b) (last_below test ms b)) (sym it) ∙ e in cc
      | inr other ↦
          let further : last_below test ms b ≡ None = ap (λ x. cond x (Some b) (last_below test ms b)) (sym other) ∙ e in
          any_more p ms b ∙ not_here p test ms b sub other ∙ none_before p test ms b sub further
    ]

-- what the last one before says
pub record IsNext (p test : PlainMember → Bool) (ms : List PlainMember) (b k : ℕ) : Type 0 where
  pub below : k < b
  pub found : holds_at test ms k ≡ true
  pub rest : list_any p (take b ms) ≡ (list_any p (take k ms) || holds_at p ms k)

-- the last one like it that stands before
pub next_before : (p test : PlainMember → Bool) (ms : List PlainMember) (b k : ℕ) → ((i : ℕ) → holds_at p ms i ≡ true → holds_at test ms i ≡ true) → last_below test ms b ≡ Some k → IsNext p test ms b k
next_before p test ms zero k sub e = cc
next_before p test ms (suc b) k sub e =
    elim (cases_Bool (holds_at test ms b)) [
      | inl it ↦
          let here_it : Some b ≡ Some k = ap (λ x. cond x (Some b) (last_below test ms b)) (sym it) ∙ e in
          let same : b ≡ k = cc in
          let P : ℕ → Type 0 = λ n. IsNext p test ms (suc b) n in
          subst P same (record { below = omega arith; found = it; rest = any_more p ms b })
      | inr other ↦
          let further : last_below test ms b ≡ Some k = ap (λ x. cond x (Some b) (last_below test ms b)) (sym other) ∙ e in
          let next : IsNext p test ms b k = next_before p test ms b k sub further in
          record { below = omega (arith, next.below); found = next.found; rest = any_more p ms b ∙ (not_here p test ms b sub other ∙ next.rest) }
    ]

-- ---- along the chain

-- the members below `bound` are left to look at, and those above it aren't the same
pub record IsOnWay (ms : List PlainMember) (position : ℕ) (at : Option ℕ) : Type 0 where
  pub bound : ℕ
  pub within : bound ≤ position
  pub next : at ≡ last_below (alike_at ms position) ms bound
  pub rest : (m : PlainMember) → slice_get ms position ≡ Some m → list_any (is_again m) (take bound ms) ≡ list_any (is_again m) (take position ms)

-- the way begins at the member
pub way_begins : (ms : List PlainMember) (position : ℕ) (at : Option ℕ) → at ≡ last_below (alike_at ms position) ms position → IsOnWay ms position at
way_begins ms position at e = record { bound = position; within = omega arith; next = e; rest = λ m is. refl }

-- the test for members like this one
alike_is : (ms : List PlainMember) (k : ℕ) (m : PlainMember) → slice_get ms k ≡ Some m → alike_at ms k ≡ is_alike m
alike_is ms k m e = ap (λ o. option_map_or is_alike o (λ _. false)) e

-- the same is alike, if there is one
by_option : (m : PlainMember) (o : Option PlainMember) → option_map_or (is_again m) o false ≡ true → option_map_or (is_alike m) o false ≡ true
by_option m None h = h
by_option m (Some x) h = again_alike m x h

-- the same at a position is alike
again_found : (m : PlainMember) (ms : List PlainMember) (k : ℕ) → holds_at (is_again m) ms k ≡ true → holds_at (is_alike m) ms k ≡ true
again_found m ms k h = by_option m (slice_get ms k) h

-- the way ends, and none was the same
pub way_ends : (ms : List PlainMember) (position : ℕ) (m : PlainMember) → slice_get ms position ≡ Some m → IsOnWay ms position None → false ≡ list_any (is_again m) (take position ms)
way_ends ms position m is way =
    let none : last_below (is_alike m) ms way.bound ≡ None = ap (λ t. last_below t ms way.bound) (sym (alike_is ms position m is)) ∙ sym way.next in
    sym (none_before (is_again m) (is_alike m) ms way.bound (again_found m ms) none) ∙ way.rest m is

-- what the next one on the way says
way_next : (ms : List PlainMember) (position k : ℕ) (m : PlainMember) → slice_get ms position ≡ Some m → (way : IsOnWay ms position (Some k)) → IsNext (is_again m) (is_alike m) ms way.bound k
way_next ms position k m is way =
    next_before (is_again m) (is_alike m) ms way.bound k (again_found m ms) (ap (λ t. last_below t ms way.bound) (sym (alike_is ms position m is)) ∙ sym way.next)

-- beside what holds
or_true : (a b : Bool) → b ≡ true → (a || b) ≡ true
or_true true b h = refl
or_true false b h = h

-- the same member is met
pub way_meets : (ms : List PlainMember) (position k : ℕ) (m o : PlainMember) → slice_get ms position ≡ Some m → slice_get ms k ≡ Some o → IsOnWay ms position (Some k) → is_again m o ≡ true
    → true ≡ list_any (is_again m) (take position ms)
way_meets ms position k m o is there way h =
    let next : IsNext (is_again m) (is_alike m) ms way.bound k = way_next ms position k m is way in
    let here_it : holds_at (is_again m) ms k ≡ true = ap (λ x. option_map_or (is_again m) x false) there ∙ h in
    sym (or_true (list_any (is_again m) (take k ms)) (holds_at (is_again m) ms k) here_it) ∙ (sym next.rest ∙ way.rest m is)

-- what stands there is one
some_is : (x y : PlainMember) → Some x ≡ Some y → x ≡ y
some_is x y e = cc

-- another member is passed
pub way_goes_on : (ms : List PlainMember) (position k : ℕ) (m o : PlainMember) (at : Option ℕ) → slice_get ms position ≡ Some m → slice_get ms k ≡ Some o → IsOnWay ms position (Some k)
    → is_again m o ≡ false → at ≡ last_below (alike_at ms k) ms k → IsOnWay ms position at
way_goes_on ms position k m o at is there way h e =
    let next : IsNext (is_again m) (is_alike m) ms way.bound k = way_next ms position k m is way in
    let here_it : holds_at (is_again m) ms k ≡ false = ap (λ x. option_map_or (is_again m) x false) there ∙ h in
    let like : is_alike m o ≡ true = sym (ap (λ x. option_map_or (is_alike m) x false) there) ∙ next.found in
    let same : alike_at ms k ≡ alike_at ms position = alike_is ms k o there ∙ (alike_same m o like ∙ sym (alike_is ms position m is)) in
    let rest : list_any (is_again m) (take way.bound ms) ≡ list_any (is_again m) (take k ms) =
    next.rest ∙ (ap (λ x. list_any (is_again m) (take k ms) || x) here_it ∙ or_false (list_any (is_again m) (take k ms))) in
    let P : PlainMember → Type 0 = λ x. list_any (is_again x) (take k ms) ≡ list_any (is_again x) (take position ms) in
    record {
      bound = k;
      within = omega (arith, next.below, way.within);
      next = e ∙ ap (λ t. last_below t ms k) same;
      rest = λ x it. let one : m ≡ x = some_is m x (sym is ∙ it) in subst P one (sym rest ∙ way.rest m is);
    }

-- the next one on the way stands before
pub way_falls : (ms : List PlainMember) (k j : ℕ) → Some j ≡ last_below (alike_at ms k) ms k → j < k
way_falls ms k j e = (next_before (alike_at ms k) (alike_at ms k) ms k j (λ i h. h) (sym e)).below

-- ---- the steps of the loop, over any form of the members

-- what stands there is one, if it is one
option_is : (o p : Option ℕ) → Some o ≡ Some p → o ≡ p
option_is o p e = cc

-- the item at a position
got_item : {A : Type 0} (xs : List A) (i : ℕ) (d : A) → i < length xs → slice_get xs i ≡ Some (get_or xs i d)
got_item [] i d h = absurd (omega arith)
got_item (y ∷ ys) zero d h = refl
got_item (y ∷ ys) (suc i) d h = let less : i < length ys = omega arith in got_item ys i d less

-- what is kept of a member
earlier_is : (ms : List PlainMember) (earlier : List (Option ℕ)) (k : ℕ) → AreEarlier ms earlier → k < length earlier → get_or earlier k None ≡ last_below (alike_at ms k) ms k
earlier_is ms earlier k are h = option_is (get_or earlier k None) _ (sym (got_item earlier k None h) ∙ are k h)

-- the loop begins
pub begins : (ms : List PlainMember) (earlier : List (Option ℕ)) (position n : ℕ) → AreEarlier ms earlier → position < n → length earlier ≡ n
    → IsOnWay ms position (get_or earlier position None) × ((k : ℕ) → get_or earlier position None ≡ Some k → k < n)
begins ms earlier position n are h len =
    let less : position < length earlier = omega (arith, len, h) in
    let at : get_or earlier position None ≡ last_below (alike_at ms position) ms position = earlier_is ms earlier position are less in
    (way_begins ms position (get_or earlier position None) at, λ k it. let below : k < position = way_falls ms position k (sym it ∙ at) in omega (arith, below, h))

-- the loop ends at the same member
pub meets : {A : Type 0} (f : A → PlainMember) (xs : List A) (position k : ℕ) (x y : A) (at : Option ℕ) (b : Bool) → position < length xs → x ≡ get_or xs position x → k < length xs → y ≡ get_or xs k y
    → at ≡ Some k → IsOnWay (map f xs) position at → b ≡ is_again (f x) (f y) → b ≡ true → (m : PlainMember) → slice_get (map f xs) position ≡ Some m → true ≡ list_any (is_again m) (take position (map f xs))
meets f xs position k x y at b h e h' e' some way again holds m is =
    let here_it : slice_get (map f xs) position ≡ Some (f x) = got_at f xs position x h e in
    let there : slice_get (map f xs) k ≡ Some (f y) = got_at f xs k y h' e' in
    let W : Option ℕ → Type 0 = λ o. IsOnWay (map f xs) position o in
    let P : PlainMember → Type 0 = λ z. true ≡ list_any (is_again z) (take position (map f xs)) in
    subst P (some_is (f x) m (sym here_it ∙ is)) (way_meets (map f xs) position k (f x) (f y) here_it there (subst W some way) (sym again ∙ holds))

-- the loop goes on behind another member
pub goes_on : {A : Type 0} (f : A → PlainMember) (xs : List A) (earlier : List (Option ℕ)) (position k : ℕ) (x y : A) (at : Option ℕ) (b : Bool) → position < length xs → x ≡ get_or xs position x
    → k < length xs → y ≡ get_or xs k y → at ≡ Some k → IsOnWay (map f xs) position at → b ≡ is_again (f x) (f y) → b ≡ false → AreEarlier (map f xs) earlier → length earlier ≡ length xs
    → IsOnWay (map f xs) position (get_or earlier k None) × ((j : ℕ) → get_or earlier k None ≡ Some j → j < length xs)
goes_on f xs earlier position k x y at b h e h' e' some way again holds are len =
    let here_it : slice_get (map f xs) position ≡ Some (f x) = got_at f xs position x h e in
    let there : slice_get (map f xs) k ≡ Some (f y) = got_at f xs k y h' e' in
    let W : Option ℕ → Type 0 = λ o. IsOnWay (map f xs) position o in
    let less : k < length earlier = omega (arith, len, h') in
    let step : get_or earlier k None ≡ last_below (alike_at (map f xs) k) (map f xs) k = earlier_is (map f xs) earlier k are less in (
      way_goes_on (map f xs) position k (f x) (f y) (get_or earlier k None) here_it there (subst W some way) (sym again ∙ holds) step,
      λ j it. let below : j < k = way_falls (map f xs) k j (sym it ∙ step) in omega (arith, below, h'),
    )

-- the loop ends, and none was the same
pub ends : (ms : List PlainMember) (position : ℕ) (at : Option ℕ) → at ≡ None → IsOnWay ms position at → (m : PlainMember) → slice_get ms position ≡ Some m → false ≡ list_any (is_again m) (take position ms)
ends ms position at none way m is = let W : Option ℕ → Type 0 = λ o. IsOnWay ms position o in way_ends ms position m is (subst W none way)

-- a place before is a smaller number
falls_by : (k : ℕ) (o : Option ℕ) → ((j : ℕ) → o ≡ Some j → j < k) → option_map_or suc o 0 < suc k
falls_by k None h = omega arith
falls_by k (Some j) h = let below : j < k = h j refl in omega (arith, below)

-- the next one stands before
pub falls : (ms : List PlainMember) (earlier : List (Option ℕ)) (k n : ℕ) (at : Option ℕ) → at ≡ Some k → AreEarlier ms earlier → k < n → length earlier ≡ n
    → option_map_or suc (get_or earlier k None) 0 < option_map_or suc at 0
falls ms earlier k n at some are less len =
    let P : Option ℕ → Type 0 = λ o. option_map_or suc (get_or earlier k None) 0 < option_map_or suc o 0 in
    let inside : k < length earlier = omega (arith, len, less) in
    let step : get_or earlier k None ≡ last_below (alike_at ms k) ms k = earlier_is ms earlier k are inside in
    subst P (sym some) (falls_by k (get_or earlier k None) (λ j it. way_falls ms k j (sym it ∙ step)))

-- ---- building

-- one member more
pub one_more : (ms : List PlainMember) (earlier : List (Option ℕ)) (o : Option ℕ) (i : ℕ) → AreEarlier ms earlier → length earlier ≡ i → o ≡ last_below (alike_at ms i) ms i → AreEarlier ms (earlier ++ o ∷ [])
one_more ms earlier o i are len e k less =
    elim (cases_lt k (length earlier)) [
      | inl before ↦ get_before earlier o k before ∙ are k before
      | inr behind ↦
          let last : k ≡ length earlier = omega (arith, length-append earlier (o ∷ [])) in
          let P : ℕ → Type 0 = λ n. slice_get (earlier ++ o ∷ []) n ≡ Some (last_below (alike_at ms n) ms n) in
          let Q : ℕ → Type 0 = λ n. slice_get (earlier ++ o ∷ []) (length earlier) ≡ Some (last_below (alike_at ms n) ms n) in
          subst P (sym last) (subst Q (sym len) (get_last earlier o ∙ ap Some e))
    ]

-- what the last members of each kind are, with one member more
holds_is : (p : PlainMember → Bool) (ms : List PlainMember) (i : ℕ) (m : PlainMember) → slice_get ms i ≡ Some m → holds_at p ms i ≡ p m
holds_is p ms i m e = ap (λ o. option_map_or p o false) e

-- the last one, with one member more
last_more : (p : PlainMember → Bool) (ms : List PlainMember) (i : ℕ) (m : PlainMember) (old new : Option ℕ) → slice_get ms i ≡ Some m → old ≡ last_below p ms i → new ≡ cond (p m) (Some i) old → new ≡ last_below p ms (i + 1)
last_more p ms i m old new is was e =
    e ∙ (ap (λ o. cond (p m) (Some i) o) was ∙ (ap (λ b. cond b (Some i) (last_below p ms i)) (sym (holds_is p ms i m is)) ∙ ap (last_below p ms) (sym (add-one i))))

-- the last ones, with one member more
pub last_goes_on : (ms : List PlainMember) (i : ℕ) (m : PlainMember) (old new : Last) → slice_get ms i ≡ Some m → AreLast ms i old → TakesIn old new m i → AreLast ms (i + 1) new
last_goes_on ms i m old new is are takes = (
  λ q. last_more (is_field_of q) ms i m (get_by_text old.fields q) (get_by_text new.fields q) is (are.0 q) (takes.0 q),
  λ q. last_more (is_method_named q) ms i m (get_by_text old.methods q) (get_by_text new.methods q) is (are.1 q) (takes.1 q),
  last_more is_constructor_member ms i m old.constructor new.constructor is are.2 takes.2,
)

-- what fails of each fails
no_one : (o : Option PlainMember) → option_map_or (λ (m : PlainMember). false) o false ≡ false
no_one None = refl
no_one (Some m) = refl

-- nothing is like a static initialiser
none_alike : (ms : List PlainMember) (i : ℕ) → None ≡ last_below (λ _. false) ms i
none_alike ms zero = refl
none_alike ms (suc i) = none_alike ms i ∙ sym (ap (λ b. cond b (Some i) (last_below (λ _. false) ms i)) (no_one (slice_get ms i)))

-- the last one like a member
last_by : (ms : List PlainMember) (i : ℕ) (m : PlainMember) (old : Last) → AreLast ms i old → last_of old m ≡ last_below (is_alike m) ms i
last_by ms i (field_member at mods ty name init) old are = are.0 name
last_by ms i (method_member at mods result name params throws body) old are = are.1 name
last_by ms i (constructor_member at mods name params throws first body) old are = are.2
last_by ms i (static_member at body) old are = none_alike ms i

-- the last one like the member at a position
pub last_is : (ms : List PlainMember) (i : ℕ) (m : PlainMember) (old : Last) → slice_get ms i ≡ Some m → AreLast ms i old → last_of old m ≡ last_below (alike_at ms i) ms i
last_is ms i m old is are = last_by ms i m old are ∙ ap (λ t. last_below t ms i) (sym (alike_is ms i m is))

-- the loop that builds them
pub taken_in : {A : Type 0} (f : A → PlainMember) (xs : List A) (i : ℕ) (x : A) (old new : Last) (earlier after : List (Option ℕ)) (o : Option ℕ) → i < length xs → x ≡ get_or xs i x
    → AreLast (map f xs) i old × AreEarlier (map f xs) earlier × (length earlier ≡ i) → o ≡ last_of old (f x) → TakesIn old new (f x) i → after ≡ earlier ++ o ∷ []
    → AreLast (map f xs) (i + 1) new × AreEarlier (map f xs) after × (length after ≡ i + 1)
taken_in f xs i x old new earlier after o h e was found takes pushed =
    let is : slice_get (map f xs) i ≡ Some (f x) = got_at f xs i x h e in
    let P : List (Option ℕ) → Type 0 = λ l. AreEarlier (map f xs) l in
    let longer : length (earlier ++ o ∷ []) ≡ i + 1 = omega (arith, length-append earlier (o ∷ []), was.2) in (
      last_goes_on (map f xs) i (f x) old new is was.0 takes,
      subst P (sym pushed) (one_more (map f xs) earlier o i was.1 was.2 (found ∙ last_is (map f xs) i (f x) old is was.0)),
      ap length pushed ∙ longer,
    )
