-- The method that is chosen is the one of the relation.
use Rattle.std.proofs.Common.{◌≡◌, ◌<◌, List, [], ◌∷◌, Option, Some, None, Bool, true, false, not, ◌||◌, cond, refl, sym, ◌∙◌, ap, ℕ, zero, suc, length, ◌⊎◌, inl, inr, arith, slice_index_or}
use Rattle.std.proofs.lemmas.Bool.{and_parts, cases_Bool}
use Rattle.std.proofs.lemmas.List.Sums.{AllPass-from_list_all, list_all-from_AllPass}
use Rattle.std.specs.List.{AllZip, Contains, find, list_any, list_all}
use Rattle.std.specs.Str.{bytes_eq}
use Rattle.bcj_symbolic_trees.specs.Types.{PlainTy, PlainArg}
use Rattle.bcj_decl_rules.specs.World.{Named, Method, World}
use Rattle.bcj_decl_rules.specs.Subtypes.{Fits, Subtype}
use Rattle.bcj_decl_rules.specs.Methods.{IsApplicable, IsAsSpecific, IsMostSpecific, Choice, Chooses, none, first, several}
use Rattle.bcj_decl_soundness.proofs.Climbing.{same_bytes, bytes_same}
use Rattle.bcj_decl_fields.specs.Hierarchy.{IsHierarchy}
use Rattle.bcj_decl_fields.specs.Searches.{is_subtype, does_fit}
use Rattle.bcj_decl_fields.proofs.Supertypes.{Ends, is_subtype_right, is_subtype_whole, does_fit_right, does_fit_whole}
use Rattle.bcj_decl_methods.proofs.Finding.{both_true, or_left, or_right, Found, found_by, find_here, none_passes, contains_first, contains_behind, any_found, in_all, find_none, any_none}
use Rattle.bcj_typing_answers.specs.Answers.{each_fits, each_is_subtype, does_apply, is_most_specific, chosen_or, chosen_of}

-- ---- lists

among : {X : Type 0} (xs : List X) (k : ℕ) (d : X) → k < length xs → Contains xs (slice_index_or xs k d)
among [] k d h = absurd (omega (arith, h))
among (y ∷ ys) zero d h = contains_first y ys
among (y ∷ ys) (suc k) d h = contains_behind y ys (slice_index_or ys k d) (among ys k d (omega (arith, h)))

-- where no element passes none is found
nothing_found : {X : Type 0} (p : X → Bool) (xs : List X) → ((x : X) → Contains xs x → p x ≡ true → ⊥) → find p xs ≡ None
nothing_found p [] fails = refl
nothing_found p (x ∷ xs) fails =
    elim (cases_Bool (p x)) [
      | inl it ↦ absurd (fails x (contains_first x xs) it)
      | inr other ↦ ap (λ b. cond b (Some x) (find p xs)) other ∙ nothing_found p xs (λ y c h. fails y (contains_behind x xs y c) h)
    ]

-- where an element passes the test of any says so
some_passes : {X : Type 0} (p : X → Bool) (xs : List X) (x : X) → Contains xs x → p x ≡ true → list_any p xs ≡ true
some_passes p xs x c h =
    elim (cases_Bool (list_any p xs)) [ inl it ↦ it | inr other ↦ absurd (none_passes p xs x c h (any_none p xs other)) ]

-- ---- access

access_right : (hidden : Bool) (class from : Named) → (not hidden || bytes_eq class from) ≡ true → (hidden ≡ false) ⊎ (class ≡ from)
access_right false class from h = inl refl
access_right true class from h = inr (same_bytes class from h)

access_whole : (hidden : Bool) (class from : Named) → (hidden ≡ false) ⊎ (class ≡ from) → (not hidden || bytes_eq class from) ≡ true
access_whole hidden class from (inl e) = or_left (not hidden) (bytes_eq class from) (ap not e)
access_whole hidden class from (inr e) = or_right (not hidden) (bytes_eq class from) (ap (λ n. bytes_eq class n) (sym e) ∙ bytes_same class)

-- ---- in a world whose searches end

module _ (w : World) (ends : Ends w) (fine : IsHierarchy w) where
  fits_right : (args : List PlainArg) (params : List PlainTy) → each_fits w args params ≡ true → AllZip (Fits w) args params
  fits_right [] [] h = tt
  fits_right [] (t ∷ ts) h = cc
  fits_right (a ∷ args) [] h = cc
  fits_right (a ∷ args) (t ∷ ts) h =
      let parts : (does_fit w a t ≡ true) × (each_fits w args ts ≡ true) = and_parts (does_fit w a t) (each_fits w args ts) h in
      (does_fit_right w fine a t parts.0, fits_right args ts parts.1)

  fits_whole : (args : List PlainArg) (params : List PlainTy) → AllZip (Fits w) args params → each_fits w args params ≡ true
  fits_whole [] [] all = refl
  fits_whole [] (t ∷ ts) all = elim all [ ]
  fits_whole (a ∷ args) [] all = elim all [ ]
  fits_whole (a ∷ args) (t ∷ ts) all = both_true (does_fit w a t) (each_fits w args ts) (does_fit_whole w ends fine a t all.0) (fits_whole args ts all.1)

  subtypes_right : (ss ts : List PlainTy) → each_is_subtype w ss ts ≡ true → AllZip (Subtype w) ss ts
  subtypes_right [] [] h = tt
  subtypes_right [] (t ∷ ts) h = cc
  subtypes_right (s ∷ ss) [] h = cc
  subtypes_right (s ∷ ss) (t ∷ ts) h =
      let parts : (is_subtype w s t ≡ true) × (each_is_subtype w ss ts ≡ true) = and_parts (is_subtype w s t) (each_is_subtype w ss ts) h in
      (is_subtype_right w fine s t parts.0, subtypes_right ss ts parts.1)

  subtypes_whole : (ss ts : List PlainTy) → AllZip (Subtype w) ss ts → each_is_subtype w ss ts ≡ true
  subtypes_whole [] [] all = refl
  subtypes_whole [] (t ∷ ts) all = elim all [ ]
  subtypes_whole (s ∷ ss) [] all = elim all [ ]
  subtypes_whole (s ∷ ss) (t ∷ ts) all = both_true (is_subtype w s t) (each_is_subtype w ss ts) (is_subtype_whole w ends fine s t all.0) (subtypes_whole ss ts all.1)

  module _ (from : Named) (args : List PlainArg) where
    applies_right : (m : Method) → does_apply w from args m ≡ true → IsApplicable w from m args
    applies_right m h =
        let open_to : Bool = not m.is_private || bytes_eq m.class from in
        let parts : (open_to ≡ true) × (each_fits w args m.params ≡ true) = and_parts open_to (each_fits w args m.params) h in
        record { accessible = access_right m.is_private m.class from parts.0; fits = fits_right args m.params parts.1 }

    applies_whole : (m : Method) → IsApplicable w from m args → does_apply w from args m ≡ true
    applies_whole m a =
        both_true (not m.is_private || bytes_eq m.class from) (each_fits w args m.params) (access_whole m.is_private m.class from a.accessible) (fits_whole args m.params a.fits)

    module _ (all : List Method) where
      -- what is asked of a method against another that may apply
      abbrev leads : Method → Method → Bool
      leads m n = not (does_apply w from args n) || each_is_subtype w m.params n.params

      leads_right : (m n : Method) → leads m n ≡ true → IsApplicable w from n args → IsAsSpecific w m n
      leads_right m n h a = subtypes_right m.params n.params (ap (λ b. not b || each_is_subtype w m.params n.params) (sym (applies_whole n a)) ∙ h)

      leads_whole : (m n : Method) → (IsApplicable w from n args → IsAsSpecific w m n) → leads m n ≡ true
      leads_whole m n specific =
          elim (cases_Bool (does_apply w from args n)) [
            | inl it ↦ or_right (not (does_apply w from args n)) (each_is_subtype w m.params n.params) (subtypes_whole m.params n.params (specific (applies_right n it)))
            | inr other ↦ or_left (not (does_apply w from args n)) (each_is_subtype w m.params n.params) (ap not other)
          ]

      most_right : (m : Method) → is_most_specific w from args all m ≡ true → IsMostSpecific w from args all m
      most_right m h =
          let parts : (does_apply w from args m ≡ true) × (list_all (leads m) all ≡ true) = and_parts (does_apply w from args m) (list_all (leads m) all) h in
          record {
            applies = applies_right m parts.0;
            most = λ n c a. leads_right m n (in_all (λ x. leads m x ≡ true) all n (AllPass-from_list_all (leads m) all parts.1) c) a;
          }

      most_whole : (m : Method) → IsMostSpecific w from args all m → is_most_specific w from args all m ≡ true
      most_whole m most =
          both_true (does_apply w from args m) (list_all (leads m) all) (applies_whole m most.applies)
          (list_all-from_AllPass (leads m) all (λ k d h. leads_whole m (slice_index_or all k d) (most.most (slice_index_or all k d) (among all k d h))))

      abbrev test : Method → Bool
      test = is_most_specific w from args all

      abbrev applies : Method → Bool
      applies = does_apply w from args

      pick : (o : Option Method) → find test all ≡ o → (b : Bool) → list_any applies all ≡ b → Chooses w from args all (chosen_or b o)
      pick (Some m) e b f =
          let found : Found test all m = found_by test all m e in
          first found.before found.behind found.at (most_right m found.passes)
          (λ k d h most.
          none_passes test found.before (slice_index_or found.before k d) (among found.before k d h) (most_whole (slice_index_or found.before k d) most) found.first)
      pick None e true f =
          let some : (m : Method) × Contains all m × (applies m ≡ true) = any_found applies all f in
          several some.0 some.1 (applies_right some.0 some.2)
          (λ k d h most. none_passes test all (slice_index_or all k d) (among all k d h) (most_whole (slice_index_or all k d) most) e)
      pick None e false f =
          none (λ k d h a. none_passes applies all (slice_index_or all k d) (among all k d h) (applies_whole (slice_index_or all k d) a) (any_none applies all f))

      -- what is chosen is the choice of the relation
      pub chosen_right : Chooses w from args all (chosen_of w from args all)
      chosen_right = pick (find test all) refl (list_any applies all) refl

      -- and no other
      pub chosen_only : (c : Choice) → Chooses w from args all c → chosen_of w from args all ≡ c
      chosen_only c (none denied) =
          let unfound : find test all ≡ None =
          nothing_found test all (λ m i h. in_all (λ n. IsApplicable w from n args → ⊥) all m denied i (applies_right m (and_parts (applies m) (list_all (leads m) all) h).0)) in
          let unapplied : list_any applies all ≡ false =
          find_none applies all (nothing_found applies all (λ m i h. in_all (λ n. IsApplicable w from n args → ⊥) all m denied i (applies_right m h))) in
          λ i. chosen_or (unapplied i) (unfound i)
      chosen_only c (first {m = m} before behind at most denied) =
          let unfound : find test before ≡ None =
          nothing_found test before (λ n i h. in_all (λ x. IsMostSpecific w from args all x → ⊥) before n denied i (most_right n h)) in
          ap (chosen_or (list_any applies all)) (ap (find test) at ∙ find_here test before m behind unfound (most_whole m most))
      chosen_only c (several m inside applied denied) =
          let unfound : find test all ≡ None =
          nothing_found test all (λ n i h. in_all (λ x. IsMostSpecific w from args all x → ⊥) all n denied i (most_right n h)) in
          let some : list_any applies all ≡ true = some_passes applies all m inside (applies_whole m applied) in
          λ i. chosen_or (some i) (unfound i)
