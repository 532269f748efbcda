-- A type is there where its head is found.
use Rattle.std.proofs.Common.{◌≡◌, inl, inr, [], ◌∷◌, cond, ◌||◌, Option, Some, None, refl, sym, ◌∙◌, ap, Bor}
use Rattle.std.proofs.lemmas.Bool.{cases_Bool}
use Rattle.std.specs.Option.{is_some, option_map, option_copied}
use Rattle.bcj_symbolic_trees.specs.declared.class_tree.ClassHead.{ClassHead}
use Rattle.bcj_decl_rules.specs.World.{Named, World, type_named, has_type, is_named}
use Rattle.bcj_decl.specs.Worlds.{head_of}

has_by_find : (w : World) (name : Named) → is_some (type_named w name) ≡ has_type w name
has_by_find [] name = refl
has_by_find (t ∷ ts) name =
    elim (cases_Bool (is_named name t)) [
      | inl it ↦ ap (λ b. is_some (cond b (Some t) (type_named ts name))) it ∙ sym (ap (λ b. b || has_type ts name) it)
      | inr other ↦ ap (λ b. is_some (cond b (Some t) (type_named ts name))) other ∙ (has_by_find ts name ∙ sym (ap (λ b. b || has_type ts name) other))
    ]

some_map : {A B : Type 0} (f : A → B) (o : Option A) → is_some (option_map f o) ≡ is_some o
some_map f None = refl
some_map f (Some x) = refl

-- a type is there exactly where a head is found
pub has_by_head : (w : World) (name : Named) (head : Option (Bor ClassHead)) → option_copied head ≡ option_map head_of (type_named w name) → is_some head ≡ has_type w name
has_by_head w name head e = sym (some_map (λ h. h.now) head) ∙ (ap is_some e ∙ (some_map head_of (type_named w name) ∙ has_by_find w name))
