-- The number of the field at a place and a position.
use Rattle.std.proofs.Common.{◌≡◌, ◌<◌, ◌+◌, ◌++◌, ℕ, zero, suc, List, [], ◌∷◌, length, Option, Some, None, refl, sym, ◌∙◌, ap, subst, arith, slice_get, get_or}
use Rattle.std.proofs.lemmas.Option.{slice_get_within, get_or_from_slice_get}
use Rattle.std.specs.Option.{IsSome}
use Rattle.bcj_decl_rules.specs.World.{Field, Declared, World}
use Rattle.bcj_decl_constants.specs.Needs.{fields_in}
use Rattle.bcj_decl_constants.specs.Numbers.{field_at, offsets_from, IsNumberOf}

get-first : {A : Type 0} (xs ys : List A) (i : ℕ) (x : A) → slice_get xs i ≡ Some x → slice_get (xs ++ ys) i ≡ Some x
get-first [] ys i x h = absurd (cc)
get-first (z ∷ zs) ys zero x h = h
get-first (z ∷ zs) ys (suc i) x h = get-first zs ys i x h

get-second : {A : Type 0} (xs ys : List A) (i : ℕ) (x : A) → slice_get ys i ≡ Some x → slice_get (xs ++ ys) (length xs + i) ≡ Some x
get-second [] ys i x h = ap (slice_get ys) (omega arith) ∙ h
get-second (z ∷ zs) ys i x h =
    let up : suc (length zs) + i ≡ suc (length zs + i) = omega arith in
    ap (slice_get (z ∷ (zs ++ ys))) up ∙ get-second zs ys i x h

-- the offset of a type, and where its field stands behind it
pub record Stands (w : World) (base k i : ℕ) (f : Field) : Type 0 where
  pub offset : ℕ
  pub at_place : slice_get (offsets_from base w) k ≡ Some (base + offset)
  pub at_number : slice_get (fields_in w) (offset + i) ≡ Some f

stands_first : (base : ℕ) (t : Declared) (ts : World) (i : ℕ) (f : Field) → slice_get t.fields i ≡ Some f → Stands (t ∷ ts) base 0 i f
stands_first base t ts i f h =
    let same : base ≡ base + 0 = omega arith in
    let index : 0 + i ≡ i = omega arith in
    record {
      offset = 0;
      at_place = ap Some same;
      at_number = ap (slice_get (t.fields ++ fields_in ts)) index ∙ get-first t.fields (fields_in ts) i f h;
    }

stands_next : (base : ℕ) (t : Declared) (ts : World) (k i : ℕ) (f : Field) → Stands ts (base + length t.fields) k i f → Stands (t ∷ ts) base (suc k) i f
stands_next base t ts k i f s =
    let same : base + length t.fields + s.offset ≡ base + (length t.fields + s.offset) = omega arith in
    let index : length t.fields + s.offset + i ≡ length t.fields + (s.offset + i) = omega arith in
    record {
      offset = length t.fields + s.offset;
      at_place = s.at_place ∙ ap Some same;
      at_number = ap (slice_get (t.fields ++ fields_in ts)) index ∙ get-second t.fields (fields_in ts) (s.offset + i) f s.at_number;
    }

pub stands : (base : ℕ) (w : World) (k i : ℕ) (f : Field) → field_at w k i ≡ Some f → Stands w base k i f
stands base [] k i f h = absurd (cc)
stands base (t ∷ ts) zero i f h = stands_first base t ts i f h
stands base (t ∷ ts) (suc k) i f h = stands_next base t ts k i f (stands (base + length t.fields) ts k i f h)

-- what an option has that isn't empty
pub some_of : {A : Type 0} (o : Option A) → IsSome o → (x : A) × (o ≡ Some x)
some_of None h = absurd (cc)
some_of (Some x) h = (x, refl)

-- a field that was found
pub record Found (w : World) (o : Option Field) (k i : ℕ) : Type 0 where
  pub field : Field
  pub is : o ≡ Some field
  pub offset : ℕ
  pub at_place : slice_get (offsets_from 0 w) k ≡ Some offset
  pub at_number : slice_get (fields_in w) (offset + i) ≡ Some field

pub found_at : (w : World) (o : Option Field) (k i : ℕ) → field_at w k i ≡ o → IsSome o → Found w o k i
found_at w o k i h some =
    let f : (x : Field) × (o ≡ Some x) = some_of o some in
    let s : Stands w 0 k i f.0 = stands 0 w k i f.0 (h ∙ f.1) in
    let same : 0 + s.offset ≡ s.offset = omega arith in
    record { field = f.0; is = f.1; offset = s.offset; at_place = s.at_place ∙ ap Some same; at_number = s.at_number }

pub place_within : (w : World) (offsets : List ℕ) (o : Option Field) (k i : ℕ) → offsets ≡ offsets_from 0 w → Found w o k i → k < length offsets
place_within w offsets o k i e found =
    let P : List ℕ → Type 0 = λ l. k < length l in
    subst P (sym e) (slice_get_within (offsets_from 0 w) k found.offset found.at_place)

pub offset_is : (w : World) (offsets : List ℕ) (o : Option Field) (k i d : ℕ) → offsets ≡ offsets_from 0 w → (found : Found w o k i) → get_or offsets k d ≡ found.offset
offset_is w offsets o k i d e found = ap (λ l. get_or l k d) e ∙ get_or_from_slice_get (offsets_from 0 w) k found.offset d found.at_place

pub number_below : (w : World) (offsets : List ℕ) (o : Option Field) (k i d : ℕ) → offsets ≡ offsets_from 0 w → Found w o k i → get_or offsets k d + i < length (fields_in w)
number_below w offsets o k i d e found =
    let same : get_or offsets k d ≡ found.offset = offset_is w offsets o k i d e found in
    let below : found.offset + i < length (fields_in w) = slice_get_within (fields_in w) (found.offset + i) found.field found.at_number in
    omega arith

pub number_is : (w : World) (offsets : List ℕ) (o : Option Field) (k i d : ℕ) → offsets ≡ offsets_from 0 w → Found w o k i → IsNumberOf w o (Some (get_or offsets k d + i))
number_is w offsets o k i d e found =
    let same : get_or offsets k d ≡ found.offset = offset_is w offsets o k i d e found in
    let P : Option Field → Type 0 = λ p. IsNumberOf w p (Some (get_or offsets k d + i)) in
    subst P (sym found.is) (ap (λ x. slice_get (fields_in w) (x + i)) same ∙ found.at_number)

pub number_none : (w : World) (o : Option Field) → None ≡ o → IsNumberOf w o None
number_none w None h = refl
number_none w (Some f) h = absurd (cc)
