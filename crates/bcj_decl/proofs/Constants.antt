-- The fields of a declared world hold its constants.
use Rattle.std.proofs.Common.{◌≡◌, ◌+◌, ◌++◌, ◌↔◌, List, [], ◌∷◌, map, length, ℕ, ℤ, zero, suc, refl, sym, ◌∙◌, ap, subst, Option, Some, None, slice_get, arith}
use Rattle.std.proofs.lemmas.List.{map-append, length-map}
use Rattle.std.specs.Option.{option_map}
use Rattle.std.specs.List.{flat_map}
use Rattle.bcj_parser_trees.specs.Trees.{PlainUnit}
use Rattle.bcj_decl_rules.specs.declared.value.Value.{Value}
use Rattle.bcj_decl_rules.specs.World.{Field, Declared, world_of}
use Rattle.bcj_decl_rules.specs.Constants.{IsConstantField}
use Rattle.bcj_decl_table.specs.declared.info.FieldInfo.{FieldInfo}
use Rattle.bcj_decl_table.specs.declared.info.TypeInfo.{TypeInfo}
use Rattle.bcj_decl_table.specs.Views.{declared_of, field_of_info, world_in}
use Rattle.bcj_decl_constants.specs.Laws.{AreConstants}
use Rattle.bcj_decl_constants.specs.Needs.{fields_in}
use Rattle.bcj_decl.specs.Filled.{constants_in, infos_in, numbers_of}
use Rattle.bcj_decl.specs.Ready.{HasConstants}
use Rattle.bcj_decl.specs.Worlds.{IsConstantOf, number_of}

-- the fields of the world are those of the types
pub fields_of_infos : (ts : List TypeInfo) → fields_in (world_in ts) ≡ map field_of_info (infos_in ts)
fields_of_infos [] = refl
fields_of_infos (t ∷ ts) = ap (λ l. map field_of_info t.fields ++ l) (fields_of_infos ts) ∙ sym (map-append field_of_info t.fields (infos_in ts))

pub as_many : (units : List PlainUnit) (ts : List TypeInfo) (values : List (Option Value)) → world_in ts ≡ world_of units → AreConstants units values → length (infos_in ts) ≡ length values
as_many units ts values e are =
    sym (length-map (infos_in ts) field_of_info) ∙ (ap length (sym (fields_of_infos ts)) ∙ (ap (λ w. length (fields_in w)) e ∙ sym are.many))

get-map : {A B : Type 0} (f : A → B) (xs : List A) (n : ℕ) → slice_get (map f xs) n ≡ option_map f (slice_get xs n)
get-map f [] n = refl
get-map f (x ∷ xs) zero = refl
get-map f (x ∷ xs) (suc n) = get-map f xs n

-- an item of the first list, and of the second
get_first : {A : Type 0} (xs ys : List A) (n : ℕ) (x : A) → slice_get xs n ≡ Some x → slice_get (xs ++ ys) n ≡ Some x
get_first [] ys n x e = cc
get_first (y ∷ xs) ys zero x e = e
get_first (y ∷ xs) ys (suc n) x e = get_first xs ys n x e

behind : {A : Type 0} (xs ys : List A) (n : ℕ) (x : A) → slice_get ys n ≡ Some x → (m : ℕ) × (slice_get (xs ++ ys) m ≡ Some x)
behind [] ys n x e = (n, e)
behind (y ∷ xs) ys n x e = let rest : (m : ℕ) × (slice_get (xs ++ ys) m ≡ Some x) = behind xs ys n x e in (suc rest.0, rest.1)

-- a field of a type has a number
numbered : (ts : List TypeInfo) (k i : ℕ) (t : TypeInfo) (f : FieldInfo) → slice_get ts k ≡ Some t → slice_get t.fields i ≡ Some f → (n : ℕ) × (slice_get (infos_in ts) n ≡ Some f)
numbered [] k i t f et ef = cc
numbered (u ∷ us) zero i t f et ef =
    let same : u ≡ t = cc in
    (i, get_first u.fields (infos_in us) i f (ap (λ (v : TypeInfo). slice_get v.fields i) same ∙ ef))
numbered (u ∷ us) (suc k) i t f et ef =
    let rest : (n : ℕ) × (slice_get (infos_in us) n ≡ Some f) = numbered us k i t f et ef in
    behind u.fields (infos_in us) rest.0 f rest.1

-- by the value at the number
by_value : (units : List PlainUnit) (values : List (Option Value)) (n : ℕ) (f : Field) (o : Option Value) → AreConstants units values → slice_get (fields_in (world_of units)) n ≡ Some f
    → slice_get values n ≡ Some o → IsConstantOf units f (option_map number_of o)
by_value units values n f None are at e =
    λ v c.
    let other : slice_get values n ≡ Some (Some v) = (are.each n f v at).1 c in
    cc
by_value units values n f (Some v) are at e = (v, (are.each n f v at).0 e, refl)

abbrev Numbered : Option (Option Value) → Option ℤ → Type 0
Numbered x c = option_map (option_map number_of) x ≡ Some c

by_number : (units : List PlainUnit) (values : List (Option Value)) (n : ℕ) (f : Field) (c : Option ℤ) (x : Option (Option Value)) → AreConstants units values
    → slice_get (fields_in (world_of units)) n ≡ Some f → slice_get values n ≡ x → Numbered x c → IsConstantOf units f c
by_number units values n f c None are at e held = cc
by_number units values n f c (Some o) are at e held =
    let same : option_map number_of o ≡ c = cc in
    let P : Option ℤ → Type 0 = λ d. IsConstantOf units f d in
    subst P same (by_value units values n f o are at e)

pub has_constants : (units : List PlainUnit) (ts : List TypeInfo) (values : List (Option Value)) → world_in ts ≡ world_of units → AreConstants units values → constants_in ts ≡ numbers_of values
    → HasConstants units ts
has_constants units ts values e are held k i t f et ef =
    let number : (n : ℕ) × (slice_get (infos_in ts) n ≡ Some f) = numbered ts k i t f et ef in
    let n : ℕ = number.0 in
    let at : slice_get (fields_in (world_of units)) n ≡ Some (field_of_info f) =
    ap (λ w. slice_get (fields_in w) n) (sym e)
    ∙ (ap (λ l. slice_get l n) (fields_of_infos ts) ∙ (get-map field_of_info (infos_in ts) n ∙ ap (option_map field_of_info) number.1)) in
    let mine : slice_get (constants_in ts) n ≡ Some f.constant =
    get-map (λ (g : FieldInfo). g.constant) (infos_in ts) n ∙ ap (option_map (λ (g : FieldInfo). g.constant)) number.1 in
    let theirs : option_map (option_map number_of) (slice_get values n) ≡ Some f.constant =
    sym (get-map (option_map number_of) values n) ∙ (ap (λ l. slice_get l n) (sym held) ∙ mine) in
    by_number units values n (field_of_info f) f.constant (slice_get values n) are at refl theirs
