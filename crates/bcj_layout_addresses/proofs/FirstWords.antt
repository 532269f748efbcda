-- The words of the first methods of their names and descriptors.
use Rattle.std.proofs.Common.{◌≡◌, ◌+◌, ◌≤◌, ℕ, suc, Bool, true, false, cond, ◌&&◌, List, [], ◌∷◌, drop, length, slice_get, find, Option, Some, None, refl, sym, ◌∙◌, ap, subst, if◌then◌else◌}
use Rattle.std.specs.Option.{option_map, option_map_or}
use Rattle.std.specs.Str.{bytes_eq}
use Rattle.std.specs.Map.{lookup}
use Rattle.indexmap.specs.IndexMap.{IndexMap}
use Rattle.bcj_tables_rules.specs.declared.records.MethodRecord.{MethodRecord}
use Rattle.bcj_hier_rules.specs.Shapes.{Named, Reference}
use Rattle.bcj_hier_soundness.proofs.Names.{bytes_same}
use Rattle.bcj_layout_rules.specs.Rows.{same_reference}
use Rattle.bcj_layout_resolution.specs.Places.{wanted}
use Rattle.bcj_layout_rows.specs.declared.keys.ReferenceKey.{ReferenceKey}
use Rattle.bcj_layout_rows.specs.Keys.{reference_in}
use Rattle.bcj_layout_addresses.specs.Lists.{is_same_method, code_at, found_at}
use Rattle.bcj_layout_addresses.specs.Finding.{word_by, HasFirst}
use Rattle.bcj_layout_addresses.proofs.Growing.{left_at}

-- a map without entries has the first of no methods
pub first_none : {S : Type 0} (class : Named) (text : ℕ) (all none : List MethodRecord) (found : IndexMap ReferenceKey ℕ S) → none ≡ [] → found.entries ≡ [] → HasFirst class text all none found
first_none class text all none found e h key same =
    ap (λ es. lookup (λ k. same_reference (reference_in key) (reference_in k)) es) h ∙ ap (λ ms. option_map (code_at text all) (find (is_same_method key.name.now key.desc.now) ms)) (sym e)

both : (a b : Bool) → (a && b) ≡ cond a b false
both true b = refl
both false b = refl

-- a reference to a method of a class is told by its name and its descriptor
told : (class : Named) (m : MethodRecord) (key : ReferenceKey) → key.class.now ≡ class
    → same_reference (wanted class m.name m.desc) (reference_in key) ≡ is_same_method key.name.now key.desc.now m
told class m key same =
    let rest : Bool = bytes_eq m.name key.name.now && bytes_eq m.desc key.desc.now in
    ap (λ c. bytes_eq class c && rest) same ∙ (ap (λ b. b && rest) (bytes_same class) ∙ both (bytes_eq m.name key.name.now) (bytes_eq m.desc key.desc.now))

-- the first of a list, through a function
chosen : {X Y : Type 0} (f : X → Y) (b : Bool) (x : X) (o : Option X) → cond b (Some (f x)) (option_map f o) ≡ option_map f (cond b (Some x) o)
chosen f true x o = refl
chosen f false x o = refl

-- a method more, before the others
pub first_more : {S : Type 0} (class : Named) (text : ℕ) (all : List MethodRecord) (k : ℕ) (m : MethodRecord) (old new : IndexMap ReferenceKey ℕ S) (put : ReferenceKey) (word : ℕ)
    → slice_get all k ≡ Some m → reference_in put ≡ wanted class m.name m.desc → word ≡ code_at text all m
    → ((q : ReferenceKey) → word_by new q ≡ (if same_reference (reference_in put) (reference_in q) then Some word else word_by old q)) → HasFirst class text all (drop (suc k) all) old
    → HasFirst class text all (drop k all) new
first_more class text all k m old new put word there is_it word_is puts first key same =
    let test : same_reference (reference_in put) (reference_in key) ≡ is_same_method key.name.now key.desc.now m = ap (λ r. same_reference r (reference_in key)) is_it ∙ told class m key same in
    let before : Option ℕ = option_map (code_at text all) (find (is_same_method key.name.now key.desc.now) (drop (suc k) all)) in
    puts key
    ∙ ((λ i. cond (test i) (Some (word_is i)) (first key same i))
    ∙ (chosen (code_at text all) (is_same_method key.name.now key.desc.now m) m (find (is_same_method key.name.now key.desc.now) (drop (suc k) all))
    ∙ ap (λ ms. option_map (code_at text all) (find (is_same_method key.name.now key.desc.now) ms)) (sym (left_at all k m there))))

value : {X : Type 0} (f : X → ℕ) (o : Option X) → option_map_or (λ w. w) (option_map f o) 0 ≡ option_map_or f o 0
value f None = refl
value f (Some x) = refl

-- what is found of a method of the class
pub found_word : {S : Type 0} (class : Named) (text : ℕ) (methods : List MethodRecord) (m : MethodRecord) (found : IndexMap ReferenceKey ℕ S) (key : ReferenceKey)
    → HasFirst class text methods methods found → reference_in key ≡ wanted class m.name m.desc → option_map_or (λ w. w) (word_by found key) 0 ≡ found_at text methods m
found_word class text methods m found key first is_it =
    ap (λ o. option_map_or (λ w. w) o 0) (first key (ap (λ r. r.class) is_it))
    ∙ (value (code_at text methods) (find (is_same_method key.name.now key.desc.now) methods)
    ∙ ap (λ (r : Reference). option_map_or (code_at text methods) (find (is_same_method r.name r.desc) methods) 0) is_it)
