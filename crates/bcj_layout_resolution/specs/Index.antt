-- Numbers of members in buckets, by a hash of the name.
use Rattle.std.specs.Prelude.{◌≡◌, ◌<◌, ◌+◌, ◌*◌, ◌%◌, ℕ, List, [], ◌∷◌, ◌++◌, length, slice_get, slice_index_or, slice_set, map, Some}
use Rattle.std.specs.List.{fold}
use Rattle.bcj_symbolic_trees.specs.declared.class_tree.ClassHead.{ClassHead}
use Rattle.bcj_hier_rules.specs.Heads.{AreDistinct}
use Rattle.bcj_layout_resolution.specs.Places.{heads_in}
use Rattle.bcj_layout_resolution.specs.Searches.{AreNumbered}
use Rattle.bcj_hier_rules.specs.Shapes.{Named, behind_first}
use Rattle.bcj_tables_rules.specs.declared.records.ClassRecord.{ClassRecord}
use Rattle.bcj_layout_rules.specs.Rows.{Classes}

abbrev pub hash_limit : ℕ
hash_limit = 4294967291

abbrev pub hash_step : ℕ → ℕ → ℕ
hash_step sum byte = (sum * 31 + byte) % hash_limit

abbrev pub hash_of : Named → ℕ
hash_of name = fold hash_step 0 name

abbrev pub Numbers : Type 0
Numbers = List ℕ

abbrev pub bucket_number : List Numbers → Named → ℕ
bucket_number buckets name = hash_of name % length buckets

abbrev pub bucket_of : List Numbers → Named → Numbers
bucket_of buckets name = slice_index_or buckets (bucket_number buckets name) []

abbrev pub with_number : List Numbers → Named → ℕ → List Numbers
with_number buckets name number = slice_set buckets (bucket_number buckets name) (bucket_of buckets name ++ number ∷ [])

-- numbers below this one, each once, from small to large
pub record IsBucket (count : ℕ) (numbers : Numbers) : Type 0 where
  pub within : (i : ℕ) → i < length numbers → slice_index_or numbers i 0 < count
  pub ascending : (i j : ℕ) → i < j → j < length numbers → slice_index_or numbers i 0 < slice_index_or numbers j 0

pub record StandsIn (numbers : Numbers) (k : ℕ) : Type 0 where
  pub place : ℕ
  pub within : place < length numbers
  pub is_it : slice_index_or numbers place 0 ≡ k

-- the number of each name stands in its bucket
pub record Indexes (names : List Named) (buckets : List Numbers) : Type 0 where
  pub some : 0 < length buckets
  pub each : (b : ℕ) → IsBucket (length names) (slice_index_or buckets b [])
  pub complete : (k : ℕ) (name : Named) → slice_get names k ≡ Some name → StandsIn (bucket_of buckets name) k

-- for each class the index of its fields by name
pub record IndexesFields (cs : Classes) (all : List (List Numbers)) : Type 0 where
  pub count : length all ≡ length cs
  pub each : (k : ℕ) (r : ClassRecord) → slice_get cs k ≡ Some r → Indexes (map (λ f. f.name) r.fields) (slice_index_or all k [])

-- and of its methods, but the class initialiser
pub record IndexesMethods (cs : Classes) (all : List (List Numbers)) : Type 0 where
  pub count : length all ≡ length cs
  pub each : (k : ℕ) (r : ClassRecord) → slice_get cs k ≡ Some r → Indexes (map (λ m. m.name) (behind_first r.methods)) (slice_index_or all k [])

-- what a resolver holds: the heads of its hierarchy, its records and their indices
pub record Agree (heads : List ClassHead) (cs : Classes) (by_field by_method : List (List Numbers)) : Type 0 where
  pub heads_are : heads ≡ heads_in cs
  pub distinct : AreDistinct heads
  pub numbered : AreNumbered cs
  pub fields : IndexesFields cs by_field
  pub methods : IndexesMethods cs by_method
