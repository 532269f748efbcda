-- A class has a default constructor exactly where it writes none.
use Rattle.std.proofs.Common.{◌≡◌, ◌∙◌, refl, ap, Bool, true, false, not, ◌&&◌, ◌||◌, List, [], ◌∷◌, filter, cond, if◌then◌else◌, Option, None, Some}
use Rattle.std.specs.List.{list_any}
use Rattle.bcj_parser_trees.specs.Trees as source
use Rattle.bcj_typing_rules.specs.Context.{Context, superclass_at}
use Rattle.bcj_typing_rules.specs.Members.{Added, constructor_context, constructor_members, is_constructor_member}
use Rattle.bcj_typing_rules.specs.function.Expressions.{Answers, Outcome, result, and_then}
use Rattle.bcj_typing_rules.specs.function.Members.{default_start, start_unless, type_first}
use Rattle.bcj_typing_member.specs.Gathered.{has_default}

kept_none : {A : Type 0} (p : A → Bool) (x : A) (xs : List A) (b : Bool) → p x ≡ b → (b || list_any p xs) ≡ false → (list_any p xs ≡ false → filter p xs ≡ []) → filter p (x ∷ xs) ≡ []
kept_none p x xs true e k h = cc
kept_none p x xs false e k h = ap (λ b. cond b (x ∷ filter p xs) (filter p xs)) e ∙ h k

none_kept : {A : Type 0} (p : A → Bool) (xs : List A) → list_any p xs ≡ false → filter p xs ≡ []
none_kept p [] h = refl
none_kept p (x ∷ xs) h = kept_none p x xs (p x) refl h (λ k. none_kept p xs k)

record Kept {A : Type 0} (xs : List A) : Type 0 where
  first : A
  rest : List A
  is : xs ≡ first ∷ rest

kept_any : {A : Type 0} (p : A → Bool) (x : A) (xs : List A) (b : Bool) → p x ≡ b → (b || list_any p xs) ≡ true → (list_any p xs ≡ true → Kept (filter p xs)) → Kept (filter p (x ∷ xs))
kept_any p x xs true e k h = record { first = x; rest = filter p xs; is = ap (λ b. cond b (x ∷ filter p xs) (filter p xs)) e }
kept_any p x xs false e k h =
    let r : Kept (filter p xs) = h k in
    record { first = r.first; rest = r.rest; is = ap (λ b. cond b (x ∷ filter p xs) (filter p xs)) e ∙ r.is }

any_kept : {A : Type 0} (p : A → Bool) (xs : List A) → list_any p xs ≡ true → Kept (filter p xs)
any_kept p [] h = cc
any_kept p (x ∷ xs) h = kept_any p x xs (p x) refl h (λ k. any_kept p xs k)

module _ (a : Answers) (units : List source.PlainUnit) (t : source.PlainType) where
  abbrev calls : Outcome (Option Added)
  calls =
      let c : Context = constructor_context units t.name [] in
      and_then (type_first a units c t.at [] (superclass_at c)) (λ first. result (Some first))

  by_interface : (b : Bool) → t.interface ≡ b → default_start a units t ≡ (if b then result None else start_unless a units t (constructor_members t))
  by_interface b e = ap (λ d. if d then result None else start_unless a units t (constructor_members t)) e

  written : (b : Bool) → list_any is_constructor_member t.members ≡ b → start_unless a units t (constructor_members t) ≡ (if b then result None else calls)
  written true e =
      let r : Kept (filter is_constructor_member t.members) = any_kept is_constructor_member t.members e in ap (start_unless a units t) r.is
  written false e = ap (start_unless a units t) (none_kept is_constructor_member t.members e)

  started : (b d : Bool) → t.interface ≡ b → list_any is_constructor_member t.members ≡ d → default_start a units t ≡ (if not b && not d then calls else result None)
  started true d e f = by_interface true e
  started false true e f = by_interface false e ∙ written true f
  started false false e f = by_interface false e ∙ written false f

  pub start_of : default_start a units t ≡ (if has_default t then calls else result None)
  start_of = started t.interface (list_any is_constructor_member t.members) refl refl

  pub start_none : has_default t ≡ false → default_start a units t ≡ result None
  start_none e = start_of ∙ ap (λ b. if b then calls else result None) e

  pub start_calls : has_default t ≡ true → default_start a units t ≡ and_then (type_first a units (constructor_context units t.name []) t.at [] (superclass_at (constructor_context units t.name []))) (λ first. result (Some first))
  start_calls e = start_of ∙ ap (λ b. if b then calls else result None) e
