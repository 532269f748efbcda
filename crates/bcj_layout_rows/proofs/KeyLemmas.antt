-- Keys put into a set, as what they stand for.
use Rattle.std.proofs.Common.{◌≡◌, refl, ap, sym, Bool, true, false, not, cond, ◌||◌, ◌+◌, nat_lt, List, [], ◌∷◌, ◌++◌, map, Some, None, if◌then◌else◌}
use Rattle.std.specs.Prelude.{position}
use Rattle.std.specs.List.{list_any, position_or_len}
use Rattle.std.proofs.lemmas.List.{map-append, length-map}
use Rattle.indexmap.specs.IndexSet.{insert_key}

module _ {K P : Type 0} (same : P → P → Bool) (plain : K → P) where
  -- a key is in the set where what it stands for is among those of the others
  among-map : (k : K) (keys : List K) → list_any (λ x. same (plain k) (plain x)) keys ≡ list_any (same (plain k)) (map plain keys)
  among-map k [] = refl
  among-map k (x ∷ keys) = ap (λ b. same (plain k) (plain x) || b) (among-map k keys)

  -- a key that is put goes behind the others, unless one that stands for the same is there
  pub insert_key-map : (keys : List K) (k : K) → map plain (insert_key (λ (x y : K). same (plain x) (plain y)) keys k) ≡ (if list_any (same (plain k)) (map plain keys) then map plain keys else map plain keys ++ plain k ∷ [])
  insert_key-map keys k = by (list_any (λ x. same (plain k) (plain x)) keys) (list_any (same (plain k)) (map plain keys)) (among-map k keys)
    where
      by : (b d : Bool) → b ≡ d → map plain (if b then keys else keys ++ k ∷ []) ≡ (if d then map plain keys else map plain keys ++ plain k ∷ [])
      by true true p = refl
      by false false p = map-append plain keys (k ∷ [])
      by true false p = cc
      by false true p = cc

  -- the place of a key among others, in the set and plain
  place-map : (keys : List K) (k : K) → position_or_len (λ x. same (plain k) (plain x)) keys ≡ position_or_len (same (plain k)) (map plain keys)
  place-map [] k = refl
  place-map (x ∷ keys) k = ap (λ n. cond (not (same (plain k) (plain x))) (1 + n) 0) (place-map keys k)

  -- which is none where the key is not there
  pub position-map : (keys : List K) (k : K) → position (λ x. same (plain k) (plain x)) keys ≡ position (same (plain k)) (map plain keys)
  position-map keys k = λ i. cond (nat_lt (place-map keys k i) (sym (length-map keys plain) i)) (Some (place-map keys k i)) None
