-- Passes over methods, part by part.
use Rattle.std.proofs.Common.{◌≡◌, ◌+◌, ◌-◌, ◌<◌, ◌≤◌, ◌++◌, List, [], ◌∷◌, drop, Option, Some, None, Bool, true, false, IsTrue, refl, sym, ◌∙◌, ap, subst, ℕ, zero, suc, length, arith, slice_index_or}
use Rattle.std.proofs.lemmas.List.{drop_more, drop_all}
use Rattle.std.specs.List.{flat_map}
use Rattle.bcj_symbolic_trees.specs.Types.{PlainArg}
use Rattle.bcj_decl_rules.specs.World.{Named, Method, World}
use Rattle.bcj_decl_rules.specs.Methods.{IsApplicable, IsAsSpecific}
use Rattle.bcj_decl_methods.specs.Passes.{Best, skips, keeps, takes, Passed, over, onward}
use Rattle.bcj_decl_fields.specs.Searches.{superclass_place, places_up}

pub refuted : {P : Type 0} (b : Bool) → (IsTrue b → P) × (P → IsTrue b) → b ≡ false → P → ⊥
refuted b says no_it p =
    let wrong : true ≡ false = sym (says.1 p) ∙ no_it in
    cc

-- ---- one method

pub one_skips : (w : World) (from : Named) (args : List PlainArg) (b : Best) (m : Method) → (IsApplicable w from m args → ⊥) → Passed w from args b (m ∷ []) b
one_skips w from args b m h = onward (skips h) over

pub one_keeps : (w : World) (from : Named) (args : List PlainArg) (b : Best) (m best : Method) → b.method ≡ Some best → IsAsSpecific w best m → Passed w from args b (m ∷ []) b
one_keeps w from args b m best e h = onward (keeps best e h) over

pub one_replaces : (w : World) (from : Named) (args : List PlainArg) (b : Best) (m best : Method) (c : Option Method) → b.method ≡ Some best → (IsAsSpecific w best m → ⊥) → IsApplicable w from m args → c ≡ Some m
    → Passed w from args b (m ∷ []) (record { method = c; changed = true })
one_replaces w from args b m best c e h a is =
    let P : Option Method → Type 0 = λ o. Passed w from args b (m ∷ []) (record { method = o; changed = true }) in
    let gives : (other : Method) → b.method ≡ Some other → IsAsSpecific w other m → ⊥ =
    λ other f it.
    let both : Some best ≡ Some other = sym e ∙ f in
    let same : other ≡ best = cc in
    let Q : Method → Type 0 = λ x. IsAsSpecific w x m in
    h (subst Q same it) in
    subst P (sym is) (onward (takes a gives) over)

pub one_starts : (w : World) (from : Named) (args : List PlainArg) (b : Best) (m : Method) (c : Option Method) → b.method ≡ None → IsApplicable w from m args → c ≡ Some m
    → Passed w from args b (m ∷ []) (record { method = c; changed = true })
one_starts w from args b m c e a is =
    let P : Option Method → Type 0 = λ o. Passed w from args b (m ∷ []) (record { method = o; changed = true }) in
    let gives : (other : Method) → b.method ≡ Some other → IsAsSpecific w other m → ⊥ =
    λ other f it.
    let wrong : None ≡ Some other = sym e ∙ f in
    absurd (cc) in
    subst P (sym is) (onward (takes a gives) over)

-- ---- several

pub appended : (w : World) (from : Named) (args : List PlainArg) (b : Best) (xs : List Method) (c : Best) (ys : List Method) (d : Best) → Passed w from args b xs c → Passed w from args c ys d
    → Passed w from args b (xs ++ ys) d
appended w from args b xs c ys d over rest = rest
appended w from args b xs c ys d (onward {c = e} {ms = ms} step more) rest = onward step (appended w from args e ms c ys d more rest)

-- a part of a list of lists
pub part_onward : {X : Type 0} (w : World) (from : Named) (args : List PlainArg) (f : X → List Method) (xs : List X) (i : ℕ) (x : X) (b : Best) (whole : List Method) (now new : Best)
    → ((d : Best) → Passed w from args now (flat_map f (drop i xs)) d → Passed w from args b whole d) → i < length xs → Passed w from args now (f (slice_index_or xs i x)) new → (d : Best)
    → Passed w from args new (flat_map f (drop (i + 1) xs)) d → Passed w from args b whole d
part_onward {X} w from args f xs i x b whole now new before long part d rest =
    let P : List X → Type 0 = λ l. Passed w from args now (flat_map f l) d in
    before d (subst P (sym (drop_more xs i x long)) (appended w from args now (f (slice_index_or xs i x)) new (flat_map f (drop (i + 1) xs)) d part rest))

pub parts_end : {X : Type 0} (w : World) (from : Named) (args : List PlainArg) (f : X → List Method) (xs : List X) (i : ℕ) (b : Best) (whole other : List Method) (now : Best)
    → ((d : Best) → Passed w from args now (flat_map f (drop i xs)) d → Passed w from args b whole d) → length xs ≤ i → whole ≡ other → Passed w from args b other now
parts_end {X} w from args f xs i b whole other now before long same =
    let P : List X → Type 0 = λ l. Passed w from args now (flat_map f l) now in
    let Q : List Method → Type 0 = λ l. Passed w from args b l now in
    subst Q same (before now (subst P (sym (drop_all i xs long)) over))

-- a step up the superclasses
pub climb_onward : (w : World) (from : Named) (args : List PlainArg) (f : ℕ → List Method) (n i e : ℕ) (place : Option ℕ) (k : ℕ) (next : Option ℕ) (b : Best) (whole : List Method) (now new : Best)
    → ((d : Best) → Passed w from args now (flat_map f (places_up (n - i) w place)) d → Passed w from args b whole d) → i < e → e ≡ n → place ≡ Some k → next ≡ superclass_place w k
    → Passed w from args now (f k) new → (d : Best) → Passed w from args new (flat_map f (places_up (n - (i + 1)) w next)) d → Passed w from args b whole d
climb_onward w from args f n i e place k next b whole now new before below end is up part d rest =
    let P : List ℕ → Type 0 = λ l. Passed w from args now (flat_map f l) d in
    let Q : Option ℕ → Type 0 = λ o. Passed w from args new (flat_map f (places_up (n - (i + 1)) w o)) d in
    let more : n - i ≡ suc (n - (i + 1)) = omega (arith, below, end) in
    let whole_way : places_up (n - i) w place ≡ places_up (suc (n - (i + 1))) w (Some k) = λ j. places_up (more j) w (is j) in
    before d (subst P (sym whole_way) (appended w from args now (f k) new (flat_map f (places_up (n - (i + 1)) w (superclass_place w k))) d part (subst Q up rest)))

no_place : (n : ℕ) (w : World) → places_up n w None ≡ []
no_place zero w = refl
no_place (suc n) w = refl

pub climb_ends : (w : World) (from : Named) (args : List PlainArg) (f : ℕ → List Method) (n : ℕ) (place : Option ℕ) (b : Best) (whole : List Method) (now : Best)
    → ((d : Best) → Passed w from args now (flat_map f (places_up n w place)) d → Passed w from args b whole d) → place ≡ None → Passed w from args b whole now
climb_ends w from args f n place b whole now before is =
    let P : List ℕ → Type 0 = λ l. Passed w from args now (flat_map f l) now in
    before now (subst P (sym (ap (places_up n w) is ∙ no_place n w)) over)

pub climb_stops : (w : World) (from : Named) (args : List PlainArg) (f : ℕ → List Method) (n i e : ℕ) (place : Option ℕ) (b : Best) (whole : List Method) (now : Best)
    → ((d : Best) → Passed w from args now (flat_map f (places_up (n - i) w place)) d → Passed w from args b whole d) → e ≤ i → e ≡ n → Passed w from args b whole now
climb_stops w from args f n i e place b whole now before above end =
    let none : n - i ≡ 0 = omega (arith, above, end) in
    let P : ℕ → Type 0 = λ m. Passed w from args now (flat_map f (places_up m w place)) now in
    before now (subst P (sym none) over)
