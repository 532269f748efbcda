-- What each step of the work keeps.
use Rattle.std.proofs.Common.{◌≡◌, ◌≢◌, ◌<◌, ◌≤◌, ◌+◌, ◌++◌, ◌⊎◌, ℕ, zero, suc, List, [], ◌∷◌, length, Option, Some, None, refl, sym, ◌∙◌, ap, subst, inl, inr, arith, slice_get, set, get_or, length-append, length-set}
use Rattle.std.proofs.lemmas.Option.{slice_get_within, slice_get-get_or}
use Rattle.bcj_decl_rules.specs.declared.value.Value.{Value}
use Rattle.bcj_decl_constants.specs.declared.waiting.Waiter.{Waiter}
use Rattle.bcj_decl_constants.specs.Waiting.{Table, Worth, list_at, Has, IsKnownAt, KnownBelow, Follows, follows, IsSound, IsAhead, Waits, IsPlaced, unknown, State, Places, Orderly, left, IsStep, IsListed, IsDone}
use Rattle.bcj_decl_constants.proofs.Reached.{has-first, has-second}
use Rattle.bcj_decl_constants.proofs.Core.{Grows, IsWorth, all-grow, below-grow, get-set_same, get-set_other, same_or_not, grows-set, good-set}

pub list-set_same : {A : Type 0} (xs : List (List A)) (n : ℕ) (ys : List A) → n < length xs → list_at (set xs n ys) n ≡ ys
list-set_same [] n ys h = absurd (omega arith)
list-set_same (x ∷ xs) zero ys h = refl
list-set_same (x ∷ xs) (suc n) ys h = let lt : n < length xs = omega arith in list-set_same xs n ys lt

pub list-set_other : {A : Type 0} (xs : List (List A)) (n m : ℕ) (ys : List A) → m ≢ n → list_at (set xs n ys) m ≡ list_at xs m
list-set_other [] n m ys h = refl
list-set_other (x ∷ xs) zero zero ys h = absurd (h refl)
list-set_other (x ∷ xs) zero (suc m) ys h = refl
list-set_other (x ∷ xs) (suc n) zero ys h = refl
list-set_other (x ∷ xs) (suc n) (suc m) ys h = list-set_other xs n m ys (λ e. h (ap suc e))

has-none : {A : Type 0} (x : A) → Has [] x → ⊥
has-none x h = cc (h.1)

has-split : {A : Type 0} (xs ys : List A) (x : A) → Has (xs ++ ys) x → Has xs x ⊎ Has ys x
has-split [] ys x h = inr h
has-split (y ∷ xs) ys x (zero, h) = inl (0, h)
has-split (y ∷ xs) ys x (suc n, h) = elim (has-split xs ys x (n, h)) [ inl p ↦ inl (suc p.0, p.1) | inr q ↦ inr q ]

has-one : {A : Type 0} (y x : A) → Has (y ∷ []) x → y ≡ x
has-one y x (zero, h) = cc
has-one y x (suc n, h) = cc

-- ---- one more waits

-- the list of each field, with one more behind that of one
has-put : (waiting : List (List Waiter)) (m k : ℕ) (x y : Waiter) → m < length waiting → Has (list_at waiting k) y → Has (list_at (set waiting m (list_at waiting m ++ x ∷ [])) k) y
has-put waiting m k x y within h =
    let P : List Waiter → Type 0 = λ l. Has l y in
    elim (same_or_not k m) [
      | inl same ↦
          let Q : ℕ → Type 0 = λ j. Has (list_at (set waiting m (list_at waiting m ++ x ∷ [])) j) y in
          let R : ℕ → Type 0 = λ j. Has (list_at waiting j) y in
          subst Q (sym same) (subst P (sym (list-set_same waiting m (list_at waiting m ++ x ∷ []) within)) (has-first (list_at waiting m) (x ∷ []) y (subst R same h)))
      | inr other ↦ subst P (sym (list-set_other waiting m k (list_at waiting m ++ x ∷ []) other)) h
    ]

-- who waits after that waited before, or is the new one
put-has : (waiting : List (List Waiter)) (m k : ℕ) (x y : Waiter) → m < length waiting → Has (list_at (set waiting m (list_at waiting m ++ x ∷ [])) k) y → Has (list_at waiting k) y ⊎ (x ≡ y)
put-has waiting m k x y within h =
    let P : List Waiter → Type 0 = λ l. Has l y in
    elim (same_or_not k m) [
      | inl same ↦
          let Q : ℕ → Type 0 = λ j. Has (list_at (set waiting m (list_at waiting m ++ x ∷ [])) j) y in
          let R : ℕ → Type 0 = λ j. Has (list_at waiting j) y in
          elim (has-split (list_at waiting m) (x ∷ []) y (subst P (list-set_same waiting m (list_at waiting m ++ x ∷ []) within) (subst Q same h))) [
            | inl old ↦ inl (subst R (sym same) old)
            | inr new ↦ inr (has-one x y new)
          ]
      | inr other ↦ inl (subst P (list-set_other waiting m k (list_at waiting m ++ x ∷ []) other) h)
    ]

abbrev pub put : State → ℕ → Waiter → State
put s m x = record { values = s.values; waiting = set s.waiting m (list_at s.waiting m ++ x ∷ []); found = s.found }

waits-put : (ids : List (List ℕ)) (s : State) (m : ℕ) (x : Waiter) → m < length s.waiting → (n : ℕ) → Waits ids s.values s.waiting s.found n → Waits ids s.values (set s.waiting m (list_at s.waiting m ++ x ∷ [])) s.found n
waits-put ids s m x within n w =
    record { need = w.need; waiter = w.waiter; needed = w.needed; listed = has-put s.waiting m w.need x w.waiter within w.listed; is = w.is; open_yet = w.open_yet }

pub put-step : (worth : Worth) (ids : List (List ℕ)) (s : State) (m : ℕ) (x : Waiter) → IsSound worth s.values → Orderly ids s → m < length ids → IsAhead ids s.values x → IsStep worth ids s (put s m x)
put-step worth ids s m x sound o below ahead =
    let within : m < length s.waiting = omega (arith, o.lists) in
    record {
      sound = sound;
      orderly = record {
        values = o.values;
        lists = length-set s.waiting m (list_at s.waiting m ++ x ∷ []) ∙ o.lists;
        ahead = λ k y h.
            let P : Waiter → Type 0 = IsAhead ids s.values in
            elim (put-has s.waiting m k x y within h) [ inl old ↦ o.ahead k y old | inr new ↦ subst P new ahead ];
        finds = o.finds;
      };
      kept = λ n p. elim p [ inl k ↦ inl k | inr q ↦ elim q [ inl none ↦ inr (inl none) | inr w ↦ inr (inr (waits-put ids s m x within n w)) ] ];
      ahead = λ y h. h;
      less = omega arith;
    }

pub put-placed : (worth : Worth) (ids : List (List ℕ)) (s : State) (m : ℕ) (x : Waiter) → m < length s.waiting → Has (list_at ids x.field) m → slice_get s.values m ≡ Some None → Places worth ids (put s m x) x.field
put-placed worth ids s m x within needed free =
    let P : List Waiter → Type 0 = λ l. Has l x in
    inr (inr (record {
      need = m;
      waiter = x;
      needed = needed;
      listed = subst P (sym (list-set_same s.waiting m (list_at s.waiting m ++ x ∷ []) within)) (has-second (list_at s.waiting m) (x ∷ []) x (0, refl));
      is = refl;
      open_yet = inl free;
    }))

-- ---- one more has its value

abbrev pub settle : State → ℕ → Value → State
settle s n v = record { values = set s.values n (Some v); waiting = s.waiting; found = s.found ++ n ∷ [] }

pub unknown-set : (vs : Table) (n : ℕ) (v : Value) → slice_get vs n ≡ Some None → unknown (set vs n (Some v)) + 1 ≡ unknown vs
unknown-set [] n v h = absurd (cc)
unknown-set (None ∷ vs) zero v h = omega arith
unknown-set (Some u ∷ vs) zero v h = absurd (cc)
unknown-set (None ∷ vs) (suc n) v h = let rest : unknown (set vs n (Some v)) + 1 ≡ unknown vs = unknown-set vs n v h in omega arith
unknown-set (Some u ∷ vs) (suc n) v h = unknown-set vs n v h

right-set : (worth : Worth) (vs : Table) (n : ℕ) (v : Value) → ((m : ℕ) (u : Value) → slice_get vs m ≡ Some (Some u) → Follows worth m u) → slice_get vs n ≡ Some None → worth vs n ≡ Some v
    → (m : ℕ) (u : Value) → slice_get (set vs n (Some v)) m ≡ Some (Some u) → Follows worth m u
right-set worth vs n v right free it m u h =
    elim (same_or_not m n) [
      | inl same ↦
          let here_it : Some (Some v) ≡ Some (Some u) = sym (get-set_same vs n None (Some v) free) ∙ (ap (slice_get (set vs n (Some v))) (sym same) ∙ h) in
          let value : v ≡ u = cc in
          follows vs right (ap (worth vs) same ∙ (it ∙ ap Some value))
      | inr other ↦ right m u (sym (get-set_other vs n m (Some v) other) ∙ h)
    ]

waits-settle : (ids : List (List ℕ)) (s : State) (n : ℕ) (v : Value) (k : ℕ) → Waits ids s.values s.waiting s.found k → Waits ids (set s.values n (Some v)) s.waiting (s.found ++ n ∷ []) k
waits-settle ids s n v k w =
    record {
      need = w.need;
      waiter = w.waiter;
      needed = w.needed;
      listed = w.listed;
      is = w.is;
      open_yet =
          elim w.open_yet [
            | inl free ↦
                elim (same_or_not w.need n) [
                  | inl same ↦ let P : ℕ → Type 0 = λ j. Has (s.found ++ n ∷ []) j in inr (subst P (sym same) (has-second s.found (n ∷ []) n (0, refl)))
                  | inr other ↦ inl (get-set_other s.values n w.need (Some v) other ∙ free)
                ]
            | inr in_found ↦ inr (has-first s.found (n ∷ []) w.need in_found)
          ];
    }

ahead-settle : (ids : List (List ℕ)) (s : State) (n : ℕ) (v : Value) → slice_get s.values n ≡ Some None → (x : Waiter) → IsAhead ids s.values x → IsAhead ids (set s.values n (Some v)) x
ahead-settle ids s n v free x a =
    record { below = a.below; known = below-grow s.values (set s.values n (Some v)) (list_at ids x.field) x.next (grows-set s.values n v free) a.known }

pub settle-step : (worth : Worth) (ids : List (List ℕ)) → IsWorth worth (list_at ids) → (s : State) (n : ℕ) (v : Value) → IsSound worth s.values → Orderly ids s → n < length ids → slice_get s.values n ≡ Some None
    → worth s.values n ≡ Some v → IsStep worth ids s (settle s n v)
settle-step worth ids is s n v sound o below free it =
    let grows : Grows s.values (set s.values n (Some v)) = grows-set s.values n v free in
    let fewer : unknown (set s.values n (Some v)) + 1 ≡ unknown s.values = unknown-set s.values n v free in
    let longer : length (s.found ++ n ∷ []) ≡ length s.found + 1 = length-append s.found (n ∷ []) in
    record {
      sound = record { good = good-set worth (list_at ids) is s.values n v sound.good free it; right = right-set worth s.values n v sound.right free it };
      orderly = record {
        values = length-set s.values n (Some v) ∙ o.values;
        lists = o.lists;
        ahead = λ m x h. ahead-settle ids s n v free x (o.ahead m x h);
        finds = λ m h. let P : ℕ → Type 0 = λ j. j < length ids in elim (has-split s.found (n ∷ []) m h) [ inl old ↦ o.finds m old | inr new ↦ subst P (has-one n m new) below ];
      };
      kept = λ k p.
          elim p [
            | inl known ↦ inl (known.0, grows k known.0 known.1)
            | inr q ↦ elim q [
              | inl none ↦ inr (inl (sym (is.agrees s.values (set s.values n (Some v)) k grows none.1) ∙ none.0, all-grow s.values (set s.values n (Some v)) (list_at ids k) grows none.1))
              | inr w ↦ inr (inr (waits-settle ids s n v k w))
            ]
          ];
      ahead = ahead-settle ids s n v free;
      less = omega arith;
    }

pub settle-placed : (worth : Worth) (ids : List (List ℕ)) (s : State) (n : ℕ) (v : Value) → slice_get s.values n ≡ Some None → Places worth ids (settle s n v) n
settle-placed worth ids s n v free = inl (v, get-set_same s.values n None (Some v) free)

-- ---- steps behind one another

pub no-step : (worth : Worth) (ids : List (List ℕ)) (s : State) → IsSound worth s.values → Orderly ids s → IsStep worth ids s s
no-step worth ids s sound o = record { sound = sound; orderly = o; kept = λ n p. p; ahead = λ x a. a; less = omega arith }

pub two-steps : (worth : Worth) (ids : List (List ℕ)) (r s t : State) → IsStep worth ids r s → IsStep worth ids s t → IsStep worth ids r t
two-steps worth ids r s t p q =
    let first : left s ≤ left r = p.less in
    let second : left t ≤ left s = q.less in
    record { sound = q.sound; orderly = q.orderly; kept = λ n h. q.kept n (p.kept n h); ahead = λ x a. q.ahead x (p.ahead x a); less = omega arith }

-- ---- a list is gone through

abbrev pub take_list : State → ℕ → List ℕ → State
take_list s d rest = record { values = s.values; waiting = set s.waiting d []; found = rest }

pub take-orderly : (ids : List (List ℕ)) (s : State) (d : ℕ) (rest : List ℕ) → s.found ≡ rest ++ d ∷ [] → Orderly ids s → Orderly ids (take_list s d rest)
take-orderly ids s d rest e o =
    let P : List ℕ → Type 0 = λ l. Has l d in
    let below : d < length ids = o.finds d (subst P (sym e) (has-second rest (d ∷ []) d (0, refl))) in
    let within : d < length s.waiting = omega (arith, o.lists) in
    record {
      values = o.values;
      lists = length-set s.waiting d [] ∙ o.lists;
      ahead = λ m x h.
          elim (same_or_not m d) [
            | inl same ↦ let Q : List Waiter → Type 0 = λ l. Has l x in absurd (has-none x (subst Q (ap (list_at (set s.waiting d [])) same ∙ list-set_same s.waiting d [] within) h))
            | inr other ↦ let Q : List Waiter → Type 0 = λ l. Has l x in o.ahead m x (subst Q (list-set_other s.waiting d m [] other) h)
          ];
      finds = λ m h. let Q : List ℕ → Type 0 = λ l. Has l m in o.finds m (subst Q (sym e) (has-first rest (d ∷ []) m h));
    }

waits-take : (worth : Worth) (ids : List (List ℕ)) (s : State) (d : ℕ) (rest : List ℕ) → s.found ≡ rest ++ d ∷ [] → (n : ℕ) → Waits ids s.values s.waiting s.found n → Places worth ids (take_list s d rest) n ⊎ IsListed (list_at s.waiting d) n
waits-take worth ids s d rest e n w =
    elim (same_or_not w.need d) [
      | inl same ↦ let Q : ℕ → Type 0 = λ j. Has (list_at s.waiting j) w.waiter in inr (w.waiter, subst Q same w.listed, w.is)
      | inr other ↦
          let Q : List Waiter → Type 0 = λ l. Has l w.waiter in
          let R : List ℕ → Type 0 = λ l. Has l w.need in
          let still : (slice_get s.values w.need ≡ Some None) ⊎ Has rest w.need =
          elim w.open_yet [
            | inl free ↦ inl free
            | inr in_found ↦ elim (has-split rest (d ∷ []) w.need (subst R e in_found)) [ inl old ↦ inr old | inr last ↦ absurd (other (sym (has-one d w.need last))) ]
          ] in
          inl (inr (inr (record { need = w.need; waiter = w.waiter; needed = w.needed; listed = subst Q (sym (list-set_other s.waiting d w.need [] other)) w.listed; is = w.is; open_yet = still })))
    ]

pub take-placed : (worth : Worth) (ids : List (List ℕ)) (s : State) (d : ℕ) (rest : List ℕ) → s.found ≡ rest ++ d ∷ [] → (n : ℕ) → Places worth ids s n → Places worth ids (take_list s d rest) n ⊎ IsListed (list_at s.waiting d) n
take-placed worth ids s d rest e n (inl known) = inl (inl known)
take-placed worth ids s d rest e n (inr (inl none)) = inl (inr (inl none))
take-placed worth ids s d rest e n (inr (inr w)) = waits-take worth ids s d rest e n w

-- ---- at the end

not_known : (worth : Worth) (vs : Table) → IsSound worth vs → (n : ℕ) (o : Option Value) → slice_get vs n ≡ Some o → worth vs n ≡ None → slice_get vs n ≡ Some (worth vs n)
not_known worth vs sound n None h none = h ∙ ap Some (sym none)
not_known worth vs sound n (Some v) h none =
    let wrong : Some v ≡ None = sym (sound.good n v h) ∙ none in
    absurd (cc)

waits_none : (worth : Worth) (ids : List (List ℕ)) → IsWorth worth (list_at ids) → (vs : Table) (waiting : List (List Waiter)) (n : ℕ) → Waits ids vs waiting [] n → (o : Option Value) → worth vs n ≡ o → worth vs n ≡ None
waits_none worth ids is vs waiting n w None e = e
waits_none worth ids is vs waiting n w (Some v) e =
    let known : IsKnownAt vs w.need = is.strict vs n v e w.needed.0 w.need w.needed.1 in
    elim w.open_yet [
      | inl free ↦ let wrong : Some (Some known.0) ≡ Some None = sym known.1 ∙ free in absurd (cc)
      | inr in_found ↦ absurd (has-none w.need in_found)
    ]

-- where nothing is left to go through, each field has what it is worth
pub placed_is : (worth : Worth) (ids : List (List ℕ)) → IsWorth worth (list_at ids) → (vs : Table) (waiting : List (List Waiter)) → IsSound worth vs → (n : ℕ) → n < length vs → IsPlaced worth ids vs waiting [] n → slice_get vs n ≡ Some (worth vs n)
placed_is worth ids is vs waiting sound n below (inl known) = known.1 ∙ ap Some (sym (sound.good n known.0 known.1))
placed_is worth ids is vs waiting sound n below (inr (inl none)) = not_known worth vs sound n _ (slice_get-get_or vs n None below) none.0
placed_is worth ids is vs waiting sound n below (inr (inr w)) = not_known worth vs sound n _ (slice_get-get_or vs n None below) (waits_none worth ids is vs waiting n w _ refl)

-- ---- a list of those that wait is gone through

pub listed_next : (worth : Worth) (ids : List (List ℕ)) (list : List Waiter) (i : ℕ) (d : Waiter) (old new : State) → i < length list → ((j : ℕ) (x : Waiter) → j < i → slice_get list j ≡ Some x → Places worth ids old x.field)
    → IsStep worth ids old new → Places worth ids new (get_or list i d).field → (j : ℕ) (x : Waiter) → j < i + 1 → slice_get list j ≡ Some x → Places worth ids new x.field
listed_next worth ids list i d old new lt before step last j x less h =
    elim (same_or_not j i) [
      | inl same ↦
          let is_it : Some (get_or list i d) ≡ Some x = sym (slice_get-get_or list i d lt) ∙ (ap (slice_get list) (sym same) ∙ h) in
          let item : get_or list i d ≡ x = cc in
          subst (λ (y : Waiter). Places worth ids new y.field) item last
      | inr other ↦ let earlier : j < i = omega arith in step.kept x.field (before j x earlier h)
    ]

pub listed_all : (worth : Worth) (ids : List (List ℕ)) (list : List Waiter) (i : ℕ) (s : State) → length list ≤ i → ((j : ℕ) (x : Waiter) → j < i → slice_get list j ≡ Some x → Places worth ids s x.field) → (n : ℕ) → IsListed list n → Places worth ids s n
listed_all worth ids list i s le all n l =
    let within : l.1.0 < length list = slice_get_within list l.1.0 l.0 l.1.1 in
    let lt : l.1.0 < i = omega arith in
    subst (λ (k : ℕ). Places worth ids s k) l.2 (all l.1.0 l.0 lt l.1.1)

-- ---- a look

pub look-waits : (worth : Worth) (ids : List (List ℕ)) (s : State) (x : Waiter) (needs : List ℕ) (vs : Table) (next need : ℕ) → needs ≡ list_at ids x.field → vs ≡ s.values → IsSound worth s.values → Orderly ids s
    → IsAhead ids s.values x → need < length ids → KnownBelow vs needs next → slice_get needs next ≡ Some need → slice_get vs need ≡ Some None
    → IsStep worth ids s (put s need (record { field = x.field; next = next })) × Places worth ids (put s need (record { field = x.field; next = next })) x.field
look-waits worth ids s x needs vs next need e f sound o ahead below known at free =
    let within : need < length s.waiting = omega (arith, o.lists) in
    let P : List ℕ → Type 0 = λ l. KnownBelow s.values l next in
    let Q : Table → Type 0 = λ t. KnownBelow t needs next in
    let further : IsAhead ids s.values (record { field = x.field; next = next }) = record { below = ahead.below; known = subst P e (subst Q f known) } in (
      put-step worth ids s need (record { field = x.field; next = next }) sound o below further,
      put-placed worth ids s need (record { field = x.field; next = next }) within (next, ap (λ l. slice_get l next) (sym e) ∙ at) (ap (λ t. slice_get t need) (sym f) ∙ free),
    )

pub take-within : (ids : List (List ℕ)) (s : State) (d : ℕ) (rest : List ℕ) → s.found ≡ rest ++ d ∷ [] → Orderly ids s → d < length s.waiting
take-within ids s d rest e o =
    let P : List ℕ → Type 0 = λ l. Has l d in
    let below : d < length ids = o.finds d (subst P (sym e) (has-second rest (d ∷ []) d (0, refl))) in
    omega (arith, o.lists)

pub gone-through : (worth : Worth) (ids : List (List ℕ)) (s t : State) (d : ℕ) (rest : List ℕ) → s.found ≡ rest ++ d ∷ [] → ((n : ℕ) → n < length ids → Places worth ids s n) → IsStep worth ids (take_list s d rest) t
    → ((n : ℕ) → IsListed (list_at s.waiting d) n → Places worth ids t n) → (n : ℕ) → n < length ids → Places worth ids t n
gone-through worth ids s t d rest e all step listed n below = elim (take-placed worth ids s d rest e n (all n below)) [ inl kept ↦ step.kept n kept | inr l ↦ listed n l ]

pub none-left : (worth : Worth) (ids : List (List ℕ)) → IsWorth worth (list_at ids) → (s : State) → s.found ≡ [] → IsSound worth s.values → Orderly ids s → ((n : ℕ) → n < length ids → Places worth ids s n) → IsDone worth (length ids) s.values
none-left worth ids is s e sound o all =
    record {
      sound = sound;
      many = o.values;
      fixed = λ n below.
          let within : n < length ids = omega (arith, o.values) in
          let P : List ℕ → Type 0 = λ l. IsPlaced worth ids s.values s.waiting l n in
          placed_is worth ids is s.values s.waiting sound n below (subst P e (all n within));
    }
