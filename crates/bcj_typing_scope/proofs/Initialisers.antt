-- The initialiser of a field of a type of declared units is the one in the type's text.
use Rattle.std.proofs.Common.{◌≡◌, ◌<◌, ◌++◌, List, [], ◌∷◌, map, Some, true, false, cond, ◌||◌, sym, ◌∙◌, ap, ℕ, zero, suc, length, slice_get, slice_index_or, append_assoc, arith}
use Rattle.std.proofs.lemmas.Bool.{or_parts}
use Rattle.std.proofs.lemmas.List.Folds.{list_any-append}
use Rattle.std.proofs.lemmas.List.Concat.{flat_map-append}
use Rattle.std.specs.List.{find}
use Rattle.std.specs.Option.{option_map_or}
use Rattle.std.specs.Str.{bytes_eq}
use Rattle.bcj_parser_trees.specs.Trees.{absent, PlainType, PlainUnit}
use Rattle.bcj_decl_rules.specs.World.{Named, Field, boot_types, source_types, declared_type, is_named, has_type, initialiser_in, initialiser_of}
use Rattle.bcj_decl_rules.specs.Faults.{here, IsDeclared}
use Rattle.bcj_decl_soundness.proofs.Climbing.{same_bytes, bytes_same}
use Rattle.bcj_decl_soundness.proofs.Listing.{new_name}
use Rattle.bcj_typing_scope.specs.Surroundings.{IsOfUnit}

-- what stands before and behind one of a list
record Split {A : Type 0} (xs : List A) (x : A) : Type 0 where
  front : List A
  behind : List A
  whole : xs ≡ front ++ x ∷ behind

one_more : {A : Type 0} (y : A) (ys : List A) (x : A) → Split ys x → Split (y ∷ ys) x
one_more y ys x s = record { front = y ∷ s.front; behind = s.behind; whole = ap (λ l. y ∷ l) s.whole }

-- one that is read splits the list
split_read : {A : Type 0} (xs : List A) (k : ℕ) (x : A) → slice_get xs k ≡ Some x → Split xs x
split_read [] k x e = cc
split_read (y ∷ ys) zero x e =
    let it : y ≡ x = cc in
    record { front = []; behind = ys; whole = ap (λ z. z ∷ ys) it }
split_read (y ∷ ys) (suc k) x e = one_more y ys x (split_read ys k x e)

-- one that a list contains splits it
split_at : {A : Type 0} (xs : List A) (k : ℕ) (x : A) → k < length xs → slice_index_or xs k x ≡ x → Split xs x
split_at [] k x inside e = absurd (omega (arith, inside))
split_at (y ∷ ys) zero x inside e = record { front = []; behind = ys; whole = ap (λ z. z ∷ ys) e }
split_at (y ∷ ys) (suc k) x inside e = one_more y ys x (split_at ys k x (omega (arith, inside)) e)

-- behind types of other names the type of a name is found
found_type : (name : Named) (before : List PlainType) (t : PlainType) (behind : List PlainType) → has_type (map declared_type before) name ≡ false → bytes_eq t.name name ≡ true
    → find (λ u. bytes_eq u.name name) (before ++ t ∷ behind) ≡ Some t
found_type name [] t behind none it = ap (λ b. cond b (Some t) (find (λ u. bytes_eq u.name name) behind)) it
found_type name (u ∷ us) t behind none it =
    let parts : (bytes_eq u.name name ≡ false) × (has_type (map declared_type us) name ≡ false) = or_parts (bytes_eq u.name name) (has_type (map declared_type us) name) none in
    ap (λ b. cond b (Some u) (find (λ v. bytes_eq v.name name) (us ++ t ∷ behind))) parts.0 ∙ found_type name us t behind parts.1 it

-- the types of the units around a type of one of them
types_around : (units earlier later : List PlainUnit) (before behind : List PlainType) (t : PlainType) → units ≡ earlier ++ (before ++ t ∷ behind) ∷ later
    → source_types units ≡ (source_types earlier ++ before) ++ t ∷ (behind ++ source_types later)
types_around units earlier later before behind t e =
    ap source_types e
    ∙ (flat_map-append (λ u. u) earlier ((before ++ t ∷ behind) ∷ later)
    ∙ (ap (λ l. source_types earlier ++ l) (append_assoc before (t ∷ behind) (source_types later)) ∙ sym (append_assoc (source_types earlier) before (t ∷ behind ++ source_types later))))

-- a type of declared units is found by its name
found_by_name : (units : List PlainUnit) → IsDeclared units → (earlier later : List PlainUnit) (before behind : List PlainType) (t : PlainType) → units ≡ earlier ++ (before ++ t ∷ behind) ∷ later
    → find (λ u. bytes_eq u.name t.name) (source_types units) ≡ Some t
found_by_name units fine earlier later before behind t e =
    let new : has_type (boot_types ++ map declared_type (source_types earlier ++ before)) t.name ≡ false =
    new_name units fine (length earlier) (source_types earlier ++ before) t (here earlier later before behind e) in
    let split : (has_type boot_types t.name || has_type (map declared_type (source_types earlier ++ before)) t.name) ≡ false =
    sym (list_any-append (is_named t.name) boot_types (map declared_type (source_types earlier ++ before))) ∙ new in
    let parts = or_parts (has_type boot_types t.name) (has_type (map declared_type (source_types earlier ++ before)) t.name) split in
    ap (find (λ u. bytes_eq u.name t.name)) (types_around units earlier later before behind t e)
    ∙ found_type t.name (source_types earlier ++ before) t (behind ++ source_types later) parts.1 (bytes_same t.name)

-- the initialiser of a field of such a type is the one in its text
pub own_initialiser : (units : List PlainUnit) (own : ℕ) (t : PlainType) (f : Field) → IsDeclared units → IsOfUnit units own t → bytes_eq f.class t.name ≡ true
    → initialiser_in f.name t.members ≡ initialiser_of units f
unfolding initialiser_of
own_initialiser units own t f fine of_unit named =
    let us : Split units of_unit.unit = split_read units own of_unit.unit of_unit.is_it in
    let ts : Split of_unit.unit t = split_at of_unit.unit of_unit.has.0 t of_unit.has.1 of_unit.has.2 in
    let whole : units ≡ us.front ++ (ts.front ++ t ∷ ts.behind) ∷ us.behind = us.whole ∙ ap (λ u. us.front ++ u ∷ us.behind) ts.whole in
    let found : find (λ u. bytes_eq u.name t.name) (source_types units) ≡ Some t = found_by_name units fine us.front us.behind ts.front ts.behind t whole in
    let class : f.class ≡ t.name = same_bytes f.class t.name named in
    sym (ap (λ n. option_map_or (λ u. initialiser_in f.name u.members) (find (λ u. bytes_eq u.name n) (source_types units)) absent) class
    ∙ ap (λ o. option_map_or (λ u. initialiser_in f.name u.members) o absent) found)
