-- The records of an object as a whole.
use Rattle.std.proofs.Common.{◌≡◌, ◌≢◌, ℕ, List, [], ◌∷◌, length, Ok, Err, refl, arith}
use Rattle.bcj_tables_rules.specs.declared.parts.ClassPlace.{ClassPlace}
use Rattle.bcj_tables_rules.specs.declared.records.Records.{Records}
use Rattle.bcj_tables_rules.specs.declared.stop.Stop.TheVariants.{Bad}
use Rattle.bcj_tables_rules.specs.Records.{class_format, whole}

-- nothing stands behind the records
pub whole_end : (r : Records) (z : List ℕ) → length z ≡ 0 → whole r z ≡ (Ok r, z)
whole_end r [] h = refl
whole_end r (b ∷ z) h = absurd (omega arith)

-- something does
pub whole_more : (r : Records) (z : List ℕ) → length z ≢ 0 → whole r z ≡ (Err Bad, z)
whole_more r [] h = absurd (h refl)
whole_more r (b ∷ z) h = refl

pub ruleset whole_rules = (whole_end, whole_more)

-- a class has the place and the name of its number
pub class_formats : (version : ℕ) (place : ℕ → ClassPlace) (name : ℕ → List ℕ) (n m : ℕ) → n ≡ m → (i : List ℕ)
    → (class_format version (place n) (name n)).reads i ≡ (class_format version (place m) (name m)).reads i
class_formats version place name n m e i = λ j. (class_format version (place (e j)) (name (e j))).reads i
