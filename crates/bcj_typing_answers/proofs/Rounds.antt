-- As many rounds as the world has fields find all constants.
use Rattle.std.proofs.Common.{◌≡◌, ◌<◌, ◌≤◌, ℕ, zero, suc, List, [], ◌∷◌, length, Bool, true, false, cond, Option, Some, None, refl, sym, ◌∙◌, subst, ◌⊎◌, inl, inr, arith}
use Rattle.bcj_parser_trees.specs.Trees.{PlainOption, absent, present, PlainUnit}
use Rattle.bcj_decl_rules.specs.declared.value.Value.{Value}
use Rattle.bcj_decl_rules.specs.World.{Field, world_of, initialiser_of}
use Rattle.bcj_decl_rules.specs.Constants.{of_type, IsConstantField, constant_variable}
use Rattle.bcj_decl_rules.specs.function.Constants.{Known, value_in, initial_value, field_value}
use Rattle.bcj_decl_soundness.specs.Laws.{IsRight, IsWhole}
use Rattle.bcj_decl_soundness.proofs.Constants.{Passed, passed, each_value_is_constant}
use Rattle.bcj_decl_constants.specs.Needs.{fields_in}
use Rattle.bcj_decl_constants.specs.Waiting.{Has}
use Rattle.bcj_typing_answers.specs.Answers.{known_after, constant_of}
use Rattle.bcj_typing_answers.proofs.Growing.{Kept, Extends, worth_kept}

-- ---- what is known is right

if_final : (b : Bool) (x : Option Value) (v : Value) → cond b x None ≡ Some v → (b ≡ true) × (x ≡ Some v)
if_final true x v h = (refl, h)
if_final false x v h = absurd (cc)

constant_by : (units : List PlainUnit) (known : Known) → IsRight units known → (f : Field) (init : PlainOption) (v : Value) → initialiser_of units f ≡ init → f.is_final ≡ true
    → initial_value (world_of units) known f init ≡ Some v → IsConstantField units f v
constant_by units known right f absent v e final h = absurd (cc)
constant_by units known right f (present x) v e final h =
    let p : Passed (of_type f.ty) (value_in (world_of units) known f.class x) v = passed (of_type f.ty) (value_in (world_of units) known f.class x) v h in
    constant_variable final e (each_value_is_constant units known right f.class x p.value p.given) p.gives

worth_right : (units : List PlainUnit) (known : Known) → IsRight units known → IsRight units (field_value units known)
worth_right units known right f v h =
    let init : PlainOption = initialiser_of units f in
    let parts : (f.is_final ≡ true) × (initial_value (world_of units) known f init ≡ Some v) = if_final f.is_final (initial_value (world_of units) known f init) v h in
    constant_by units known right f init v refl parts.0 parts.1

rounds_right : (units : List PlainUnit) (n : ℕ) → IsRight units (known_after units n)
rounds_right units zero f v h = absurd (cc)
rounds_right units (suc n) f v h = worth_right units (known_after units n) (rounds_right units n) f v h

-- ---- how much is known

abbrev one_more : Option Value → ℕ → ℕ
one_more None n = n
one_more (Some v) n = suc n

-- how many of the fields have a value
abbrev known_count : Known → List Field → ℕ
known_count known [] = 0
known_count known (f ∷ fs) = one_more (known f) (known_count known fs)

one_at_most : (o : Option Value) (m n : ℕ) → m ≤ n → one_more o m ≤ suc n
one_at_most None m n h = omega (arith, h)
one_at_most (Some v) m n h = omega (arith, h)

at_most : (known : Known) (fs : List Field) → known_count known fs ≤ length fs
at_most known [] = omega arith
at_most known (f ∷ fs) = one_at_most (known f) (known_count known fs) (length fs) (at_most known fs)

one_kept : (o p : Option Value) → Kept o p → (m n : ℕ) → m ≤ n → one_more o m ≤ one_more p n
one_kept None None kept m n h = h
one_kept None (Some v) kept m n h = omega (arith, h)
one_kept (Some u) None kept m n h = let wrong : None ≡ Some u = kept u refl in absurd (cc)
one_kept (Some u) (Some v) kept m n h = omega (arith, h)

one_less : (o p : Option Value) → Kept o p → (m n : ℕ) → m < n → one_more o m < one_more p n
one_less None None kept m n h = h
one_less None (Some v) kept m n h = omega (arith, h)
one_less (Some u) None kept m n h = let wrong : None ≡ Some u = kept u refl in absurd (cc)
one_less (Some u) (Some v) kept m n h = omega (arith, h)

-- one more value, or the same
new_or_kept : (o p : Option Value) → Kept o p → Kept p o ⊎ ((m n : ℕ) → m ≤ n → one_more o m < one_more p n)
new_or_kept None None kept = inl (λ v h. h)
new_or_kept None (Some v) kept = inr (λ m n h. omega (arith, h))
new_or_kept (Some u) None kept = let wrong : None ≡ Some u = kept u refl in absurd (cc)
new_or_kept (Some u) (Some v) kept = inl (λ x h. sym (kept u refl) ∙ h)

module _ (known other : Known) (kept : (f : Field) → Kept (known f) (other f)) where
  count_kept : (fs : List Field) → known_count known fs ≤ known_count other fs
  count_kept [] = omega arith
  count_kept (f ∷ fs) = one_kept (known f) (other f) (kept f) (known_count known fs) (known_count other fs) (count_kept fs)

  -- of these fields the other knows no more
  abbrev NoMore : List Field → Type 0
  NoMore fs = (f : Field) → Has fs f → Kept (other f) (known f)

  no_more_next : (g : Field) (fs : List Field) → Kept (other g) (known g) → NoMore fs → NoMore (g ∷ fs)
  no_more_next g fs first rest f (zero, h) =
      let is_it : g ≡ f = cc in
      subst (λ x. Kept (other x) (known x)) is_it first
  no_more_next g fs first rest f (suc n, h) = rest f (n, h)

  no_more_or_less : (fs : List Field) → NoMore fs ⊎ (known_count known fs < known_count other fs)
  no_more_or_less [] = inl (λ f h. absurd (cc (h.1)))
  no_more_or_less (f ∷ fs) =
      elim (new_or_kept (known f) (other f) (kept f)) [
        | inr new ↦ inr (new (known_count known fs) (known_count other fs) (count_kept fs))
        | inl same ↦
            elim (no_more_or_less fs) [
              | inl rest ↦ inl (no_more_next f fs same rest)
              | inr less ↦ inr (one_less (known f) (other f) (kept f) (known_count known fs) (known_count other fs) less)
            ]
      ]

-- ---- the rounds

module _ (units : List PlainUnit) where
  abbrev all : List Field
  all = fields_in (world_of units)

  abbrev after : ℕ → Known
  after n = known_after units n

  -- what is known stays known
  rounds_keep : (n : ℕ) (f : Field) → Kept (after n f) (after (suc n) f)
  rounds_keep zero f = λ v h. absurd (cc)
  rounds_keep (suc n) f = worth_kept units (after n) (after (suc n)) (λ g inside. rounds_keep n g) f

  -- a further round tells nothing new of the world's fields
  abbrev IsSettled : ℕ → Type 0
  IsSettled n = Extends (world_of units) (after (suc n)) (after n)

  stays_settled : (n : ℕ) → IsSettled n → IsSettled (suc n)
  stays_settled n settled f inside = worth_kept units (after (suc n)) (after n) settled f

  settles : (n : ℕ) → IsSettled n ⊎ (n < known_count (after (suc n)) all)
  settles zero = elim (no_more_or_less (after zero) (after 1) (rounds_keep zero) all) [ inl settled ↦ inl settled | inr less ↦ inr (omega (arith, less)) ]
  settles (suc n) =
      elim (settles n) [
        | inl settled ↦ inl (stays_settled n settled)
        | inr many ↦
            elim (no_more_or_less (after (suc n)) (after (suc (suc n))) (rounds_keep (suc n)) all) [
              | inl settled ↦ inl settled
              | inr less ↦ inr (omega (arith, many, less))
            ]
      ]

  settled_at_last : IsSettled (length all)
  settled_at_last =
      elim (settles (length all)) [
        | inl settled ↦ settled
        | inr many ↦ let most : known_count (after (suc (length all))) all ≤ length all = at_most (after (suc (length all))) all in absurd (omega (arith, many, most))
      ]

  pub constants_right : IsRight units (constant_of units)
  unfolding constant_of
  constants_right = rounds_right units (suc (length all))

  pub constants_whole : IsWhole units (constant_of units)
  unfolding constant_of
  constants_whole f = worth_kept units (after (suc (length all))) (after (length all)) settled_at_last f
