-- Two passes choose as JLS 15.12.2 does.
use Rattle.std.proofs.Common.{◌≡◌, ◌<◌, ◌++◌, List, [], ◌∷◌, Option, Some, None, Bool, true, false, refl, sym, ◌∙◌, ap, subst, ℕ, zero, suc, length, ◌⊎◌, inl, inr, arith, slice_index_or}
use Rattle.std.specs.List.{All, AllZip, Contains}
use Rattle.bcj_symbolic_trees.specs.Types.{PlainTy, PlainArg}
use Rattle.bcj_decl_rules.specs.World.{Named, Method, World}
use Rattle.bcj_decl_rules.specs.Subtypes.{Subtype, itself}
use Rattle.bcj_decl_rules.specs.Methods.{IsApplicable, IsAsSpecific, IsMostSpecific, Choice, one, ambiguous, Chooses, none, first, several}
use Rattle.bcj_decl_methods.specs.Laws as law
use Rattle.bcj_decl_methods.specs.Passes.{Best, Step, skips, keeps, takes, Passed, over, onward}
use Rattle.bcj_decl_methods.specs.Search.{decided}
use Rattle.bcj_decl_methods.proofs.Finding.{contains_at, contains_first, contains_behind}

-- ---- as specific

as_itself : (w : World) (ts : List PlainTy) → AllZip (Subtype w) ts ts
as_itself w [] = tt
as_itself w (t ∷ ts) = (itself, as_itself w ts)

goes_on : (w : World) → law.SubtypesGoOn w → (xs ys zs : List PlainTy) → AllZip (Subtype w) xs ys → AllZip (Subtype w) ys zs → AllZip (Subtype w) xs zs
goes_on w on [] [] zs p q = q
goes_on w on [] (y ∷ ys) zs p q = elim p [ ]
goes_on w on (x ∷ xs) [] zs p q = elim p [ ]
goes_on w on (x ∷ xs) (y ∷ ys) [] p q = elim q [ ]
goes_on w on (x ∷ xs) (y ∷ ys) (z ∷ zs) p q = (on x y z p.0 q.0, goes_on w on xs ys zs p.1 q.1)

-- ---- what a pass comes to

-- it took no method, since the best is as specific as each applicable one
record Unchanged (w : World) (from : Named) (args : List PlainArg) (b : Best) (ms : List Method) (d : Best) : Type 0 where
  stays : d ≡ b
  best : (n : Method) → Contains ms n → IsApplicable w from n args → (m : Method) × (b.method ≡ Some m) × IsAsSpecific w m n

-- the last method that it took
record Taken (w : World) (from : Named) (args : List PlainArg) (b : Best) (ms : List Method) (d : Best) : Type 0 where
  before : List Method
  method : Method
  behind : List Method
  at : ms ≡ before ++ method ∷ behind
  prior : Best
  earlier : Passed w from args b before prior
  applies : IsApplicable w from method args
  better : (m : Method) → prior.method ≡ Some m → IsAsSpecific w m method → ⊥
  last : d ≡ record { method = Some method; changed = true }

by_place : {X : Type 0} (x y : X) (xs : List X) (k : ℕ) → k < length (x ∷ xs) → slice_index_or (x ∷ xs) k y ≡ y → (x ≡ y) ⊎ Contains xs y
by_place x y xs zero h e = inl e
by_place x y xs (suc k) h e = inr (k, omega (arith, h), e)

first_of_one : {X : Type 0} (x y : X) (xs : List X) → Contains (x ∷ xs) y → (x ≡ y) ⊎ Contains xs y
first_of_one {X} x y xs c = by_place x y xs c.0 c.1 c.2

unchanged_on : (w : World) (from : Named) (args : List PlainArg) (b d : Best) (m : Method) (ms : List Method)
    → (IsApplicable w from m args → (x : Method) × (b.method ≡ Some x) × IsAsSpecific w x m) → Unchanged w from args b ms d → Unchanged w from args b (m ∷ ms) d
unchanged_on w from args b d m ms says rest =
    record {
      stays = rest.stays;
      best =
          λ n c a.
          elim (first_of_one m n ms c) [
            | inl it ↦
                let P : Method → Type 0 = λ y. IsApplicable w from y args → (x : Method) × (b.method ≡ Some x) × IsAsSpecific w x y in
                subst P it says a
            | inr inside ↦ rest.best n inside a
          ];
    }

taken_on : (w : World) (from : Named) (args : List PlainArg) (b c d : Best) (m : Method) (ms : List Method) → Step w from args b m c → Taken w from args c ms d → Taken w from args b (m ∷ ms) d
taken_on w from args b c d m ms step t =
    record {
      before = m ∷ t.before;
      method = t.method;
      behind = t.behind;
      at = ap (λ l. m ∷ l) t.at;
      prior = t.prior;
      earlier = onward step t.earlier;
      applies = t.applies;
      better = t.better;
      last = t.last;
    }

outcome_on : (w : World) (from : Named) (args : List PlainArg) (b c d : Best) (m : Method) (ms : List Method) → Step w from args b m c → Unchanged w from args c ms d
    → Unchanged w from args b (m ∷ ms) d ⊎ Taken w from args b (m ∷ ms) d
outcome_on w from args b c d m ms (skips h) rest = inl (unchanged_on w from args b d m ms (λ a. absurd (h a)) rest)
outcome_on w from args b c d m ms (keeps best e h) rest = inl (unchanged_on w from args b d m ms (λ a. (best, e, h)) rest)
outcome_on w from args b c d m ms (takes a h) rest =
    inr (record { before = []; method = m; behind = ms; at = refl; prior = b; earlier = over; applies = a; better = h; last = rest.stays })

outcome : (w : World) (from : Named) (args : List PlainArg) (b : Best) (ms : List Method) (d : Best) → Passed w from args b ms d → Unchanged w from args b ms d ⊎ Taken w from args b ms d
outcome w from args b ms d over = inl (record { stays = refl; best = λ n c a. (let long : c.0 < 0 = c.1 in absurd (omega (arith, long))) })
outcome w from args b ms d (onward {c = c} {m = m} {ms = rest} step more) =
    elim (outcome w from args c rest d more) [ inl same ↦ outcome_on w from args b c d m rest step same | inr took ↦ inr (taken_on w from args b c d m rest step took) ]

-- ---- a most specific method is not passed over

-- as specific as each applicable one of a list
abbrev Leads : World → Named → List PlainArg → Method → List Method → Type 0
Leads w from args n ms = (x : Method) → Contains ms x → IsApplicable w from x args → IsAsSpecific w n x

leads_rest : (w : World) (from : Named) (args : List PlainArg) (n m : Method) (ms : List Method) → Leads w from args n (m ∷ ms) → Leads w from args n ms
leads_rest w from args n m ms leads x c a = leads x (contains_behind m ms x c) a

stays_step : (w : World) → law.SubtypesGoOn w → (from : Named) (args : List PlainArg) (b : Best) (m : Method) (c : Best) → Step w from args b m c → (best n : Method) → b.method ≡ Some best
    → IsAsSpecific w best n → (IsApplicable w from m args → IsAsSpecific w n m) → c.method ≡ Some best
stays_step w on from args b m c (skips h) best n e under leads = e
stays_step w on from args b m c (keeps other f h) best n e under leads = e
stays_step w on from args b m c (takes a h) best n e under leads = absurd (h best e (goes_on w on best.params n.params m.params under (leads a)))

stays : (w : World) → law.SubtypesGoOn w → (from : Named) (args : List PlainArg) (b : Best) (ms : List Method) (d : Best) → Passed w from args b ms d → (best n : Method) → b.method ≡ Some best
    → IsAsSpecific w best n → Leads w from args n ms → d.method ≡ Some best
stays w on from args b ms d over best n e under leads = e
stays w on from args b ms d (onward {c = c} {m = m} {ms = rest} step more) best n e under leads =
    stays w on from args c rest d more best n (stays_step w on from args b m c step best n e under (leads m (contains_first m rest))) under (leads_rest w from args n m rest leads)

-- the best behind a method that leads
abbrev Held : World → Method → Best → Type 0
Held w n d = (best : Method) × (d.method ≡ Some best) × IsAsSpecific w best n

held_step : (w : World) (from : Named) (args : List PlainArg) (b : Best) (n : Method) (c : Best) → Step w from args b n c → IsApplicable w from n args → Held w n c
held_step w from args b n c (skips h) a = absurd (h a)
held_step w from args b n c (keeps best e h) a = (best, e, h)
held_step w from args b n c (takes x h) a = (n, refl, as_itself w n.params)

held : (w : World) → law.SubtypesGoOn w → (from : Named) (args : List PlainArg) (b : Best) (ms : List Method) (d : Best) → Passed w from args b ms d → (n : Method) → Contains ms n → IsApplicable w from n args
    → Leads w from args n ms → Held w n d
held w on from args b ms d over n c a leads = let long : c.0 < 0 = c.1 in absurd (omega (arith, long))
held w on from args b ms d (onward {c = after} {m = m} {ms = rest} step more) n c a leads =
    elim (first_of_one m n rest c) [
      | inl it ↦
          let P : Method → Type 0 = λ x. Step w from args b x after in
          let h : Held w n after = held_step w from args b n after (subst P it step) a in
          (h.0, stays w on from args after rest d more h.0 n h.1 h.2 (leads_rest w from args n m rest leads), h.2)
      | inr inside ↦ held w on from args after rest d more n inside a (leads_rest w from args n m rest leads)
    ]

-- ---- both passes

abbrev pub start : Best
start = record { method = None; changed = false }

abbrev pub again : Best → Best
again b = record { method = b.method; changed = false }

among : {X : Type 0} (xs : List X) (k : ℕ) (d : X) → k < length xs → Contains xs (slice_index_or xs k d)
among [] k d h = absurd (omega (arith, h))
among (y ∷ ys) zero d h = contains_first y ys
among (y ∷ ys) (suc k) d h = contains_behind y ys (slice_index_or ys k d) (among ys k d (omega (arith, h)))

front_at : {X : Type 0} (xs ys : List X) (x : X) (k : ℕ) → k < length xs → slice_index_or xs k x ≡ x → Contains (xs ++ ys) x
front_at [] ys x k h e = absurd (omega (arith, h))
front_at (z ∷ zs) ys x zero h e = let P : _ → Type 0 = λ y. Contains (y ∷ (zs ++ ys)) x in subst P (sym e) (contains_first x (zs ++ ys))
front_at (z ∷ zs) ys x (suc k) h e = contains_behind z (zs ++ ys) x (front_at zs ys x k (omega (arith, h)) e)

in_front : {X : Type 0} (xs ys : List X) (x : X) → Contains xs x → Contains (xs ++ ys) x
in_front {X} xs ys x c = front_at xs ys x c.0 c.1 c.2

-- none before the last method that was taken is most specific
none_before : (w : World) → law.SubtypesGoOn w → (from : Named) (args : List PlainArg) (xs : List Method) (b d : Best) (t : Taken w from args b xs d) → All (λ n. IsMostSpecific w from args xs n → ⊥) t.before
none_before w on from args xs b d t k e h most =
    let n : Method = slice_index_or t.before k e in
    let P : List Method → Type 0 = λ l. Leads w from args n l in
    let leads : Leads w from args n (t.before ++ t.method ∷ t.behind) = subst P t.at most.most in
    let before : Leads w from args n t.before = λ x c a. leads x (in_front t.before (t.method ∷ t.behind) x c) a in
    let best : Held w n t.prior = held w on from args b t.before t.prior t.earlier n (among t.before k e h) most.applies before in
    t.better best.0 best.1 (goes_on w on best.0.params n.params t.method.params best.2 (leads t.method (contains_at t.before t.method t.behind) t.applies))

inside : (w : World) (from : Named) (args : List PlainArg) (b d : Best) (xs : List Method) (t : Taken w from args b xs d) → Contains xs t.method
inside w from args b d xs t = let P : List Method → Type 0 = λ l. Contains l t.method in subst P (sym t.at) (contains_at t.before t.method t.behind)

-- where the second pass takes a method none is most specific
none_most : (w : World) → law.SubtypesGoOn w → (from : Named) (args : List PlainArg) (xs : List Method) (b c d : Best) → Passed w from args b xs c → Taken w from args (again c) xs d
    → All (λ n. IsMostSpecific w from args xs n → ⊥) xs
none_most w on from args xs b c d passed t k e h most =
    let n : Method = slice_index_or xs k e in
    let best : Held w n c = held w on from args b xs c passed n (among xs k e h) most.applies most.most in
    let P : List Method → Type 0 = λ l. Leads w from args n l in
    let leads : Leads w from args n (t.before ++ t.method ∷ t.behind) = subst P t.at most.most in
    let before : Leads w from args n t.before = λ x i a. leads x (in_front t.before (t.method ∷ t.behind) x i) a in
    let prior : t.prior.method ≡ Some best.0 = stays w on from args (again c) t.before t.prior t.earlier best.0 n best.1 best.2 before in
    t.better best.0 prior (goes_on w on best.0.params n.params t.method.params best.2 (leads t.method (contains_at t.before t.method t.behind) t.applies))

second : (w : World) → law.SubtypesGoOn w → (from : Named) (args : List PlainArg) (xs : List Method) (c d : Best) → Passed w from args start xs c → (t : Taken w from args start xs c)
    → Unchanged w from args (again c) xs d ⊎ Taken w from args (again c) xs d → Chooses w from args xs (decided c.method d.changed)
second w on from args xs c d passed t (inl same) =
    let P : Option Method → Bool → Type 0 = λ o b. Chooses w from args xs (decided o b) in
    let is_best : c.method ≡ Some t.method = ap (λ b. b.method) t.last in
    let calm : d.changed ≡ false = ap (λ b. b.changed) same.stays in
    let leads : Leads w from args t.method xs =
    λ n i a.
    let best : (m : Method) × (c.method ≡ Some m) × IsAsSpecific w m n = same.best n i a in
    let both : Some best.0 ≡ Some t.method = sym best.1 ∙ is_best in
    let it : best.0 ≡ t.method = cc in
    let Q : Method → Type 0 = λ m. IsAsSpecific w m n in
    subst Q it best.2 in
    let chosen : Chooses w from args xs (one t.method) = first t.before t.behind t.at (record { applies = t.applies; most = leads }) (none_before w on from args xs start c t) in
    let R : Choice → Type 0 = λ x. Chooses w from args xs x in
    subst R (λ i. decided (sym is_best i) (sym calm i)) chosen
second w on from args xs c d passed t (inr other) =
    let is_best : c.method ≡ Some t.method = ap (λ b. b.method) t.last in
    let moved : d.changed ≡ true = ap (λ b. b.changed) other.last in
    let chosen : Chooses w from args xs ambiguous = several t.method (inside w from args start c xs t) t.applies (none_most w on from args xs start c d passed other) in
    let R : Choice → Type 0 = λ x. Chooses w from args xs x in
    subst R (λ i. decided (sym is_best i) (sym moved i)) chosen

pub two_passes : (w : World) → law.SubtypesGoOn w → (from : Named) (args : List PlainArg) (xs : List Method) (c d : Best) → Passed w from args start xs c → Passed w from args (again c) xs d
    → Chooses w from args xs (decided c.method d.changed)
two_passes w on from args xs c d passed more =
    elim (outcome w from args start xs c passed) [
      | inl same ↦
          let R : Choice → Type 0 = λ x. Chooses w from args xs x in
          let empty : c.method ≡ None = ap (λ b. b.method) same.stays in
          let nothing : All (λ n. IsApplicable w from n args → ⊥) xs =
          λ k e h a.
          let best : (m : Method) × (None ≡ Some m) × IsAsSpecific w m (slice_index_or xs k e) = same.best (slice_index_or xs k e) (among xs k e h) a in
          let wrong : None ≡ Some best.0 = best.1 in
          cc in
          subst R (ap (λ o. decided o d.changed) (sym empty)) (none nothing)
      | inr t ↦ second w on from args xs c d passed t (outcome w from args (again c) xs d more)
    ]
