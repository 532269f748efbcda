-- Where the types of files stand in the world.
use Rattle.std.proofs.Common.{◌≡◌, ◌<◌, ◌≤◌, ◌+◌, ◌++◌, ℕ, zero, suc, List, [], ◌∷◌, map, take, length, get_or, slice_get, refl, sym, ap, subst, ◌∙◌, Option, Some, append_assoc, append-nil, add-one, arith, length-append}
use Rattle.std.proofs.lemmas.List.{length-map}
use Rattle.std.proofs.lemmas.List.Concat.{flat_map-append}
use Rattle.bcj_parser_trees.specs.Trees.{PlainType, PlainUnit}
use Rattle.bcj_decl_rules.specs.World.{World, boot_types, source_types, declared_type, world_of}
use Rattle.bcj_decl_head_faults.specs.Refusals.{StandsBehind}
use Rattle.bcj_decl_faults.specs.Spots.{Spot, IsLeast}
use Rattle.bcj_decl_faults.specs.Parts.{TypeSpot, InFile, FileSpot, FileStands}
use Rattle.bcj_decl_faults.proofs.Parting.{Parted, parted}
use Rattle.bcj_decl_faults.proofs.Least.{least_of_same}

-- ---- items of a list

pub item_at : {X Y : Type 0} (f : X → Y) (xs : List X) (i : ℕ) (x : X) → i < length xs → x ≡ get_or xs i x → slice_get (map f xs) i ≡ Some (f x)
item_at f [] i x inside e = absurd (omega arith)
item_at f (y ∷ ys) zero x inside e = ap (λ z. Some (f z)) (sym e)
item_at f (y ∷ ys) (suc i) x inside e = item_at f ys i x (omega arith) e

take_suc : {X : Type 0} (xs : List X) (i : ℕ) (x : X) → slice_get xs i ≡ Some x → take (suc i) xs ≡ take i xs ++ x ∷ []
take_suc [] i x e = cc
take_suc (y ∷ ys) zero x e = let same : y ≡ x = cc in ap (λ z. z ∷ []) same
take_suc (y ∷ ys) (suc i) x e = ap (λ l. y ∷ l) (take_suc ys i x e)

pub take_next : {X : Type 0} (xs : List X) (i : ℕ) (x : X) → slice_get xs i ≡ Some x → take (i + 1) xs ≡ take i xs ++ x ∷ []
take_next xs i x e = ap (λ n. take n xs) (add-one i) ∙ take_suc xs i x e

-- ---- places

map-append : {X Y : Type 0} (f : X → Y) (xs ys : List X) → map f (xs ++ ys) ≡ map f xs ++ map f ys
map-append f [] ys = refl
map-append f (x ∷ xs) ys = ap (λ l. f x ∷ l) (map-append f xs ys)

-- more types behind
counted : {X Y : Type 0} (f : X → Y) (front : List Y) (xs ys : List X) → length (front ++ map f (xs ++ ys)) ≡ length (front ++ map f xs) + length ys
counted f front xs ys =
    let all : length (front ++ map f (xs ++ ys)) ≡ length front + length (map f (xs ++ ys)) = length-append front (map f (xs ++ ys)) in
    let some : length (front ++ map f xs) ≡ length front + length (map f xs) = length-append front (map f xs) in
    let both : length (xs ++ ys) ≡ length xs + length ys = length-append xs ys in
    omega (arith, all, some, both, length-map (xs ++ ys) f, length-map xs f)

abbrev world_behind : World → List PlainType → World
world_behind front types = front ++ map declared_type types

regrouped : {X : Type 0} (before xs ys behind : List X) (x : X) → before ++ ((xs ++ x ∷ ys) ++ behind) ≡ (before ++ xs) ++ x ∷ (ys ++ behind)
regrouped before xs ys behind x = ap (λ l. before ++ l) (append_assoc xs (x ∷ ys) behind) ∙ sym (append_assoc before xs (x ∷ (ys ++ behind)))

-- the type at a position of a file
pub stands_in_file : (w : World) (start : ℕ) (before types : List PlainType) → FileStands w start before types → (i : ℕ) (t : PlainType) → slice_get types i ≡ Some t
    → StandsBehind w (start + i) (before ++ take i types) t
stands_in_file w start before types s i t e =
    let p : Parted types i t = parted types i t e in
    let types_are : before ++ (types ++ s.behind) ≡ (before ++ take i types) ++ t ∷ (p.behind ++ s.behind) =
    ap (λ l. before ++ (l ++ s.behind)) p.whole ∙ regrouped before (take i types) p.behind s.behind t in
    let count : length (boot_types ++ map declared_type (before ++ take i types)) ≡ length (boot_types ++ map declared_type before) + length (take i types) = counted declared_type boot_types before (take i types) in
    let place : length (boot_types ++ map declared_type before) ≡ start = s.is_place in
    let some : length (take i types) ≡ i = p.count in
    record { behind = p.behind ++ s.behind; is_world = s.is_world ∙ ap (world_behind boot_types) types_are; is_place = count ∙ (ap (λ n. n + length (take i types)) place ∙ ap (λ n. start + n) some) }

-- a file stands within the world
pub file_fits : (w : World) (start : ℕ) (before types : List PlainType) → FileStands w start before types → start + length types ≤ length w
file_fits w start before types s =
    let count : length (boot_types ++ map declared_type (before ++ (types ++ s.behind))) ≡ length (boot_types ++ map declared_type before) + length (types ++ s.behind) = counted declared_type boot_types before (types ++ s.behind) in
    let whole : length w ≡ start + length (types ++ s.behind) = ap length s.is_world ∙ (count ∙ ap (λ n. n + length (types ++ s.behind)) s.is_place) in
    let both : length (types ++ s.behind) ≡ length types + length s.behind = length-append types s.behind in
    omega (arith, whole, both)

-- the file at a position
pub file_stands : (w : World) (units : List PlainUnit) → w ≡ world_of units → (i : ℕ) (unit : PlainUnit) → slice_get units i ≡ Some unit → (start : ℕ)
    → length (boot_types ++ map declared_type (source_types (take i units))) ≡ start → FileStands w start (source_types (take i units)) unit
unfolding world_of
file_stands w units is i unit e start place =
    let p : Parted units i unit = parted units i unit e in
    let types : source_types units ≡ source_types (take i units) ++ (unit ++ source_types p.behind) = ap source_types p.whole ∙ flat_map-append (λ u. u) (take i units) (unit ∷ p.behind) in
    record { behind = source_types p.behind; is_world = is ∙ ap (world_behind boot_types) types; is_place = place }

pub next_start : (units : List PlainUnit) (i : ℕ) (unit : PlainUnit) → slice_get units i ≡ Some unit → (start : ℕ) → length (boot_types ++ map declared_type (source_types (take i units))) ≡ start
    → length (boot_types ++ map declared_type (source_types (take (i + 1) units))) ≡ start + length unit
next_start units i unit e start place =
    let types : source_types (take (i + 1) units) ≡ source_types (take i units) ++ unit =
    ap source_types (take_next units i unit e) ∙ (flat_map-append (λ u. u) (take i units) (unit ∷ []) ∙ ap (λ l. source_types (take i units) ++ l) (append-nil unit)) in
    ap (λ l. length (world_behind boot_types l)) types ∙ (counted declared_type boot_types (source_types (take i units)) unit ∙ ap (λ n. n + length unit) place)

-- ---- the faults of the type at a position

pub least_in_file : (w : World) (before types : List PlainType) (i : ℕ) (t : PlainType) (o : Option Spot) → slice_get types i ≡ Some t → IsLeast (TypeSpot w (before ++ take i types) t) o
    → IsLeast (InFile w before types i) o
least_in_file w before types i t o e least =
    least_of_same (TypeSpot w (before ++ take i types) t) (InFile w before types i) o (λ x h. record { type = t; stands = e; fault = h })
    (λ x f.
    let both : Some f.type ≡ Some t = sym f.stands ∙ e in
    let same : f.type ≡ t = cc in
    let P : PlainType → Type 0 = λ u. TypeSpot w (before ++ take i types) u x in
    subst P same f.fault)
    least

-- the first fault of the file at a position, as it is found at its place
pub file_least : (w : World) (units : List PlainUnit) → w ≡ world_of units → (i : ℕ) (unit : PlainUnit) → slice_get units i ≡ Some unit → (start : ℕ)
    → length (boot_types ++ map declared_type (source_types (take i units))) ≡ start → (types : List PlainType) → types ≡ unit → (o : Option Spot)
    → ((before : List PlainType) → FileStands w start before types → IsLeast (FileSpot w before types) o) → IsLeast (FileSpot (world_of units) (source_types (take i units)) unit) o
file_least w units is i unit e start place types same o found =
    let before : List PlainType = source_types (take i units) in
    let P : List PlainType → Type 0 = λ ts. FileStands w start before ts in
    let Q : List PlainType → Type 0 = λ ts. IsLeast (FileSpot w before ts) o in
    let R : World → Type 0 = λ v. IsLeast (FileSpot v before unit) o in
    subst R is (subst Q same (found before (subst P (sym same) (file_stands w units is i unit e start place))))
