-- In declared units each class finds a superclass by its name.
use Rattle.std.proofs.Common.{◌≡◌, ℕ, zero, suc, Bool, true, false, ◌||◌, List, [], ◌∷◌, ◌++◌, map, Option, Some, None, refl, sym, ◌∙◌, ap, append_assoc, if◌then◌else◌, slice_get}
use Rattle.std.specs.List.{find, list_any, AllByRecursion}
use Rattle.std.specs.Option.{option_and_then}
use Rattle.std.proofs.lemmas.Grind.{flat_map-append}
use Rattle.std.proofs.lemmas.List.{map-append}
use Rattle.std.proofs.lemmas.Slice.Eq.{bytes_eq-Decides}
use Rattle.bcj_parser_trees.specs.Trees as source
use Rattle.bcj_decl_rules.specs.World.{Named, World, boot_types, source_types, world_of, is_named, type_named, has_type, declared_type, superclass_of, superclass_in}
use Rattle.bcj_decl_rules.specs.Faults.{here, in_head, second_of_name, IsDeclared}
use Rattle.bcj_typing_rules.specs.Members.{constructor_members}
use Rattle.bcj_typing_rules.specs.Laws.{IsWhole, a_class, an_interface}

-- what stands at a number, between what stands before and behind
split_at : (units : List source.PlainUnit) (own : ℕ) (unit : source.PlainUnit) → slice_get units own ≡ Some unit → (earlier : List source.PlainUnit) × (later : List source.PlainUnit) × (units ≡ earlier ++ unit ∷ later)
split_at [] own unit h = cc
split_at (u ∷ us) zero unit h = let same : u ≡ unit = cc in ([], us, ap (λ v. v ∷ us) same)
split_at (u ∷ us) (suc n) unit h =
    let r : (earlier : List source.PlainUnit) × (later : List source.PlainUnit) × (us ≡ earlier ++ unit ∷ later) = split_at us n unit h in
    (u ∷ r.0, r.1, ap (λ l. u ∷ l) r.2)

not_true : (b : Bool) → (b ≡ true → ⊥) → b ≡ false
not_true true n = absurd (n refl)
not_true false n = refl

-- an element that passes is found where none before it does
passed_by : {A : Type 0} (b : Bool) (x : A) (rest : Bool) (o o2 : Option A) → (b || rest) ≡ false → (rest ≡ false → o ≡ o2) → (if b then Some x else o) ≡ o2
passed_by true x rest o o2 h g = cc
passed_by false x rest o o2 h g = g h

find_behind : {A : Type 0} (p : A → Bool) (xs : List A) (y : A) (ys : List A) → list_any p xs ≡ false → p y ≡ true → find p (xs ++ y ∷ ys) ≡ Some y
find_behind p [] y ys h k = ap (λ b. if b then Some y else find p ys) k
find_behind p (x ∷ xs) y ys h k = passed_by (p x) x (list_any p xs) (find p (xs ++ y ∷ ys)) (Some y) h (λ n. find_behind p xs y ys n k)

types_split : (units earlier later : List source.PlainUnit) (before behind : List source.PlainType) (t : source.PlainType) → units ≡ earlier ++ (before ++ t ∷ behind) ∷ later
    → source_types units ≡ (source_types earlier ++ before) ++ (t ∷ (behind ++ source_types later))
types_split units earlier later before behind t e =
    ap source_types e
    ∙ (flat_map-append (λ u. u) earlier ((before ++ t ∷ behind) ∷ later)
    ∙ (ap (λ l. source_types earlier ++ l) (append_assoc before (t ∷ behind) (source_types later)) ∙ sym (append_assoc (source_types earlier) before (t ∷ (behind ++ source_types later)))))

-- the types of a world that has some types first
split_world : (first : World) (all before behind : List source.PlainType) (t : source.PlainType) → all ≡ before ++ (t ∷ behind)
    → first ++ map declared_type all ≡ (first ++ map declared_type before) ++ (declared_type t ∷ map declared_type behind)
split_world first all before behind t e =
    ap (λ l. first ++ map declared_type l) e
    ∙ (ap (λ l. first ++ l) (map-append declared_type before (t ∷ behind)) ∙ sym (append_assoc first (map declared_type before) (declared_type t ∷ map declared_type behind)))

finds_itself : (first : World) (all before behind : List source.PlainType) (t : source.PlainType) → all ≡ before ++ (t ∷ behind) → has_type (first ++ map declared_type before) t.name ≡ false
    → type_named (first ++ map declared_type all) t.name ≡ Some (declared_type t)
finds_itself first all before behind t e h =
    ap (λ w. type_named w t.name) (split_world first all before behind t e)
    ∙ find_behind (is_named t.name) (first ++ map declared_type before) (declared_type t) (map declared_type behind) h ((bytes_eq-Decides t.name t.name).1 refl)

own_type : (units : List source.PlainUnit) → IsDeclared units → (earlier later : List source.PlainUnit) (before behind : List source.PlainType) (t : source.PlainType)
    → units ≡ earlier ++ (before ++ t ∷ behind) ∷ later → type_named (world_of units) t.name ≡ Some (declared_type t)
unfolding world_of
own_type units declared earlier later before behind t e =
    finds_itself boot_types (source_types units) (source_types earlier ++ before) (behind ++ source_types later) t (types_split units earlier later before behind t e)
    (not_true (has_type (boot_types ++ map declared_type (source_types earlier ++ before)) t.name) (λ h. declared _ _ (in_head (here earlier later before behind e) (second_of_name h))))

has_its_superclass : (t : source.PlainType) → t.interface ≡ false → superclass_of t ≡ Some (superclass_in t.extends)
has_its_superclass t i = ap (λ b. elim b as (λ c. Option Named) [ true ↦ None | false ↦ Some (superclass_in t.extends) ]) i

whole_by : (units : List source.PlainUnit) (t : source.PlainType) (b : Bool) → t.interface ≡ b → type_named (world_of units) t.name ≡ Some (declared_type t)
    → (t.interface ≡ true → constructor_members t ≡ []) → IsWhole units t
whole_by units t true i h n = an_interface i (n i)
whole_by units t false i h n = a_class i (ap (λ o. option_and_then (λ d. d.superclass) o) h ∙ has_its_superclass t i)

all_whole : (units : List source.PlainUnit) → IsDeclared units → (earlier later : List source.PlainUnit) (before ts : List source.PlainType) → units ≡ earlier ++ (before ++ ts) ∷ later
    → AllByRecursion (λ t. t.interface ≡ true → constructor_members t ≡ []) ts → AllByRecursion (IsWhole units) ts
all_whole units declared earlier later before [] e n = tt
all_whole units declared earlier later before (t ∷ ts) e n = (
  whole_by units t t.interface refl (own_type units declared earlier later before ts t e) n.0,
  all_whole units declared earlier later (before ++ t ∷ []) ts (e ∙ ap (λ l. earlier ++ l ∷ later) (sym (append_assoc before (t ∷ []) ts))) n.1,
)

pub types_whole : (units : List source.PlainUnit) → IsDeclared units → (own : ℕ) (unit : source.PlainUnit) → slice_get units own ≡ Some unit
    → AllByRecursion (λ t. t.interface ≡ true → constructor_members t ≡ []) unit → AllByRecursion (IsWhole units) unit
types_whole units declared own unit h n =
    let r : (earlier : List source.PlainUnit) × (later : List source.PlainUnit) × (units ≡ earlier ++ unit ∷ later) = split_at units own unit h in
    all_whole units declared r.0 r.1 [] unit r.2 n
