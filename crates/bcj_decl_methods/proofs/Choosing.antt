-- Two lists of methods from which a call chooses alike.
use Rattle.std.proofs.Common.{◌≡◌, ◌++◌, List, ◌∷◌, Option, Some, None, Bool, true, false, not, ◌||◌, ◌&&◌, refl, sym, ◌∙◌, ap, subst, ◌⊎◌, inl, inr, slice_index_or}
use Rattle.std.proofs.lemmas.Bool.{or_cases, and_parts}
use Rattle.std.proofs.lemmas.List.Folds.{find-append}
use Rattle.std.specs.List.{All, AllZip, Contains, find}
use Rattle.std.specs.Option.{option_or}
use Rattle.std.specs.Str.{bytes_eq}
use Rattle.bcj_symbolic_trees.specs.Types.{PlainTy, PlainArg}
use Rattle.bcj_symbolic_trees.specs.Same.{same_types}
use Rattle.bcj_symbolic_trees.proofs.SameLemmas.{same_types-Decides}
use Rattle.bcj_decl_rules.specs.World.{Named, Method, World}
use Rattle.bcj_decl_rules.specs.Subtypes.{Fits, Subtype}
use Rattle.bcj_decl_rules.specs.Methods.{IsApplicable, IsAsSpecific, IsMostSpecific, Choice, Chooses, none, first, several}
use Rattle.bcj_decl_soundness.proofs.Climbing.{same_bytes, bytes_same}
use Rattle.bcj_decl_methods.proofs.Finding.{Found, found_by, found_in, find_here, finds, finds_at, none_passes, in_all, both_true, or_left, or_right}

-- tests that tell open methods apart by their names and parameters alone
abbrev pub Respects : (Method → Bool) → Type 0
Respects g = (m n : Method) → m.name ≡ n.name → m.params ≡ n.params → m.is_private ≡ false → n.is_private ≡ false → g m ≡ g n

abbrev pub FirstsAgree : List Method → List Method → Type 0
FirstsAgree xs ys = (g : Method → Bool) → Respects g → find g xs ≡ find g ys

-- ---- methods that a call can't tell apart

abbrev access_by : Bool → Bool → Bool → Bool
access_by true p c = p && c
access_by false p c = not p

abbrev pub alike : Method → Method → Bool
alike m x = (bytes_eq m.name x.name && same_types m.params x.params) && access_by m.is_private x.is_private (bytes_eq m.class x.class)

access_itself : (p : Bool) (c : Bool) → c ≡ true → access_by p p c ≡ true
access_itself true c e = e
access_itself false c e = refl

alike_itself : (m : Method) → alike m m ≡ true
alike_itself m =
    both_true _ _ (both_true _ _ (bytes_same m.name) ((same_types-Decides m.params m.params).1 refl)) (access_itself m.is_private (bytes_eq m.class m.class) (bytes_same m.class))

access_of_open : (p q c : Bool) → q ≡ false → access_by p q c ≡ not p
access_of_open true q c e = ap (λ b. b && c) e
access_of_open false q c e = ap not e

alike_of_open : (m x : Method) → x.is_private ≡ false → alike m x ≡ ((bytes_eq m.name x.name && same_types m.params x.params) && not m.is_private)
alike_of_open m x e = ap (λ b. (bytes_eq m.name x.name && same_types m.params x.params) && b) (access_of_open m.is_private x.is_private (bytes_eq m.class x.class) e)

alike_respects : (m : Method) → Respects (alike m)
alike_respects m x y e f p q =
    alike_of_open m x p ∙ ((λ i. (bytes_eq m.name (e i) && same_types m.params (f i)) && not m.is_private) ∙ sym (alike_of_open m y q))

either_respects : (m n : Method) → Respects (λ x. alike m x || alike n x)
either_respects m n x y e f p q = λ i. alike_respects m x y e f p q i || alike_respects n x y e f p q i

params_alike : (m x : Method) → alike m x ≡ true → m.params ≡ x.params
params_alike m x h = (same_types-Decides m.params x.params).0 (and_parts _ _ (and_parts _ _ h).0).1

access_alike : (from : Named) (m x : Method) (p q : Bool) → m.is_private ≡ p → x.is_private ≡ q → access_by p q (bytes_eq m.class x.class) ≡ true → (m.is_private ≡ false) ⊎ (m.class ≡ from)
    → (x.is_private ≡ false) ⊎ (x.class ≡ from)
access_alike from m x p false ep eq h a = inl eq
access_alike from m x false true ep eq h a = cc
access_alike from m x true true ep eq h (inl visible) = cc
access_alike from m x true true ep eq h (inr own) = inr (sym (same_bytes m.class x.class h) ∙ own)

applies_alike : (w : World) (from : Named) (args : List PlainArg) (m x : Method) → alike m x ≡ true → IsApplicable w from m args → IsApplicable w from x args
applies_alike w from args m x h a =
    let P : List PlainTy → Type 0 = λ ps. AllZip (Fits w) args ps in
    record {
      accessible = access_alike from m x m.is_private x.is_private refl refl (and_parts _ _ h).1 a.accessible;
      fits = subst P (params_alike m x h) a.fits;
    }

most_alike : (w : World) (from : Named) (args : List PlainArg) (xs ys : List Method) → FirstsAgree xs ys → (m x : Method) → alike m x ≡ true → IsMostSpecific w from args xs m → IsMostSpecific w from args ys x
most_alike w from args xs ys agree m x h most =
    record {
      applies = applies_alike w from args m x h most.applies;
      most =
          λ n c a.
          let some : (y : Method) × (find (alike n) ys ≡ Some y) = finds (alike n) ys n c (alike_itself n) in
          let there : find (alike n) xs ≡ Some some.0 = agree (alike n) (alike_respects n) ∙ some.1 in
          let same : alike n some.0 ≡ true = (found_by (alike n) xs some.0 there).passes in
          let specific : IsAsSpecific w m some.0 = most.most some.0 (found_in (alike n) xs some.0 there) (applies_alike w from args n some.0 same a) in
          let P : List PlainTy → Type 0 = λ ps. AllZip (Subtype w) ps n.params in
          let Q : List PlainTy → Type 0 = λ ps. AllZip (Subtype w) m.params ps in
          subst P (params_alike m x h) (subst Q (sym (params_alike n some.0 same)) specific);
    }

turned : (xs ys : List Method) → FirstsAgree xs ys → FirstsAgree ys xs
turned xs ys agree g r = sym (agree g r)

-- where none of a list is most specific none of the other is
none_most : (w : World) (from : Named) (args : List PlainArg) (xs ys : List Method) → FirstsAgree xs ys → All (λ n. IsMostSpecific w from args xs n → ⊥) xs → All (λ n. IsMostSpecific w from args ys n → ⊥) ys
none_most w from args xs ys agree all k d h most =
    let n : Method = slice_index_or ys k d in
    let some : (y : Method) × (find (alike n) ys ≡ Some y) = finds_at (alike n) ys k d h (alike_itself n) in
    let there : find (alike n) xs ≡ Some some.0 = agree (alike n) (alike_respects n) ∙ some.1 in
    in_all (λ m. IsMostSpecific w from args xs m → ⊥) xs some.0 all (found_in (alike n) xs some.0 there)
    (most_alike w from args ys xs (turned xs ys agree) n some.0 (found_by (alike n) xs some.0 there).passes most)

none_applicable : (w : World) (from : Named) (args : List PlainArg) (xs ys : List Method) → FirstsAgree xs ys → All (λ n. IsApplicable w from n args → ⊥) xs → All (λ n. IsApplicable w from n args → ⊥) ys
none_applicable w from args xs ys agree all k d h a =
    let n : Method = slice_index_or ys k d in
    let some : (y : Method) × (find (alike n) ys ≡ Some y) = finds_at (alike n) ys k d h (alike_itself n) in
    let there : find (alike n) xs ≡ Some some.0 = agree (alike n) (alike_respects n) ∙ some.1 in
    in_all (λ m. IsApplicable w from m args → ⊥) xs some.0 all (found_in (alike n) xs some.0 there) (applies_alike w from args n some.0 (found_by (alike n) xs some.0 there).passes a)

-- ---- the first that is most specific

-- where the first of a kind is most specific and none before it is, none before it is of the kind
none_of_kind : (w : World) (from : Named) (args : List PlainArg) (xs before : List Method) (m : Method) → All (λ n. IsMostSpecific w from args xs n → ⊥) before → IsMostSpecific w from args xs m
    → (o : Option Method) → find (alike m) before ≡ o → o ≡ None
none_of_kind w from args xs before m all most None e = refl
none_of_kind w from args xs before m all most (Some x) e =
    absurd
    (in_all (λ n. IsMostSpecific w from args xs n → ⊥) before x all (found_in (alike m) before x e)
    (most_alike w from args xs xs (λ g r. refl) m x (found_by (alike m) before x e).passes most))

-- what is found first of two kinds, where none before a method of the first kind is of it
between : (m n x : Method) (before behind : List Method) (o : Option Method) → find (λ y. alike m y || alike n y) before ≡ o → find (λ y. alike m y || alike n y) (before ++ m ∷ behind) ≡ Some x
    → (x ≡ m) ⊎ (o ≡ Some x)
between m n x before behind None e h =
    let at : find (λ y. alike m y || alike n y) (before ++ m ∷ behind) ≡ Some m = find_here (λ y. alike m y || alike n y) before m behind e (or_left (alike m m) (alike n m) (alike_itself m)) in
    let same : Some x ≡ Some m = sym h ∙ at in
    inl (cc)
between m n x before behind (Some z) e h =
    let at : find (λ y. alike m y || alike n y) (before ++ m ∷ behind) ≡ Some z =
    find-append (λ y. alike m y || alike n y) before (m ∷ behind) ∙ ap (λ o. option_or o (find (λ y. alike m y || alike n y) (m ∷ behind))) e in
    inr (sym at ∙ h)

earlier_by : (w : World) (from : Named) (args : List PlainArg) (xs ys : List Method) → FirstsAgree xs ys → (m n x : Method) (before behind front : List Method) → xs ≡ before ++ m ∷ behind
    → All (λ q. IsMostSpecific w from args xs q → ⊥) before → find (alike m) front ≡ None → IsMostSpecific w from args ys n → Contains front x → (alike m x || alike n x) ≡ true
    → find (λ y. alike m y || alike n y) xs ≡ Some x → ⊥
earlier_by w from args xs ys agree m n x before behind front e all fresh most inside either found =
    elim (between m n x before behind (find (λ y. alike m y || alike n y) before) refl (ap (find (λ y. alike m y || alike n y)) (sym e) ∙ found)) [
      | inl it ↦ none_passes (alike m) front x inside (ap (alike m) it ∙ alike_itself m) fresh
      | inr there ↦
          elim (or_cases (alike m x) (alike n x) either) [
            | inl kind ↦ none_passes (alike m) front x inside kind fresh
            | inr other ↦
                in_all (λ q. IsMostSpecific w from args xs q → ⊥) before x all (found_in (λ y. alike m y || alike n y) before x there)
                (most_alike w from args ys xs (turned xs ys agree) n x other most)
          ]
    ]

none_earlier : (w : World) (from : Named) (args : List PlainArg) (xs ys : List Method) → FirstsAgree xs ys → (m : Method) (before behind front back : List Method) → xs ≡ before ++ m ∷ behind
    → All (λ n. IsMostSpecific w from args xs n → ⊥) before → ys ≡ front ++ back → find (alike m) front ≡ None → All (λ n. IsMostSpecific w from args ys n → ⊥) front
none_earlier w from args xs ys agree m before behind front back e all split fresh k d h most =
    let n : Method = slice_index_or front k d in
    let some : (x : Method) × (find (λ y. alike m y || alike n y) front ≡ Some x) = finds_at (λ y. alike m y || alike n y) front k d h (or_right (alike m n) (alike n n) (alike_itself n)) in
    let there : find (λ y. alike m y || alike n y) ys ≡ Some some.0 =
    ap (find (λ y. alike m y || alike n y)) split ∙ (find-append (λ y. alike m y || alike n y) front back ∙ ap (λ o. option_or o (find (λ y. alike m y || alike n y) back)) some.1) in
    earlier_by w from args xs ys agree m n some.0 before behind front e all fresh most (found_in (λ y. alike m y || alike n y) front some.0 some.1)
    (found_by (λ y. alike m y || alike n y) front some.0 some.1).passes
    (agree (λ y. alike m y || alike n y) (either_respects m n) ∙ there)

pub choose_alike : (w : World) (from : Named) (args : List PlainArg) (xs ys : List Method) → FirstsAgree xs ys → (c : Choice) → Chooses w from args xs c → Chooses w from args ys c
choose_alike w from args xs ys agree c (none all) = none (none_applicable w from args xs ys agree all)
choose_alike w from args xs ys agree c (first {m = m} before behind e most all) =
    let fresh : find (alike m) before ≡ None = none_of_kind w from args xs before m all most (find (alike m) before) refl in
    let there : find (alike m) ys ≡ Some m = sym (agree (alike m) (alike_respects m)) ∙ (ap (find (alike m)) e ∙ find_here (alike m) before m behind fresh (alike_itself m)) in
    let f : Found (alike m) ys m = found_by (alike m) ys m there in
    first f.before f.behind f.at (most_alike w from args xs ys agree m m (alike_itself m) most) (none_earlier w from args xs ys agree m before behind f.before (m ∷ f.behind) e all f.at f.first)
choose_alike w from args xs ys agree c (several m inside a all) =
    let some : (x : Method) × (find (alike m) xs ≡ Some x) = finds (alike m) xs m inside (alike_itself m) in
    let there : find (alike m) ys ≡ Some some.0 = sym (agree (alike m) (alike_respects m)) ∙ some.1 in
    several some.0 (found_in (alike m) ys some.0 there) (applies_alike w from args m some.0 (found_by (alike m) ys some.0 there).passes a) (none_most w from args xs ys agree all)

pub choices_alike : (w : World) (from : Named) (args : List PlainArg) (xs ys : List Method) → FirstsAgree xs ys → (c : Choice) → (Chooses w from args xs c → Chooses w from args ys c) × (Chooses w from args ys c → Chooses w from args xs c)
choices_alike w from args xs ys agree c = (choose_alike w from args xs ys agree c, choose_alike w from args ys xs (turned xs ys agree) c)
