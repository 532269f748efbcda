-- Fields that wait for the fields that they need. Fields are numbers here.
use Rattle.std.specs.Prelude.{◌≡◌, ◌<◌, ◌≤◌, ◌+◌, ◌*◌, ◌⊎◌, ℕ, suc, List, [], ◌∷◌, length, Option, None, Some, slice_get, slice_index_or}
use Rattle.bcj_decl_rules.specs.declared.value.Value.{Value}
use Rattle.bcj_decl_constants.specs.declared.waiting.Waiter.{Waiter}

abbrev pub Table : Type 0
Table = List (Option Value)

-- what fields are worth by the values that are known
abbrev pub Worth : Type 0
Worth = Table → ℕ → Option Value

-- the list at a number; an empty one past the end
abbrev pub list_at : {A : Type 0} → List (List A) → ℕ → List A
list_at xs n = slice_index_or xs n []

-- an element of a list, somewhere
abbrev pub Has : {A : Type 0} → List A → A → Type 0
Has xs x = (n : ℕ) × (slice_get xs n ≡ Some x)

-- the field has a value
abbrev pub IsKnownAt : Table → ℕ → Type 0
IsKnownAt vs m = (v : Value) × (slice_get vs m ≡ Some (Some v))

-- each of the fields before a position has a value
abbrev pub KnownBelow : Table → List ℕ → ℕ → Type 0
KnownBelow vs is k = (i m : ℕ) → i < k → slice_get is i ≡ Some m → IsKnownAt vs m

abbrev pub AllAt : Table → List ℕ → Type 0
AllAt vs is = (i m : ℕ) → slice_get is i ≡ Some m → IsKnownAt vs m

-- a value that follows from values that follow
pub data Follows (worth : Worth) : ℕ → Value → Type 0 where
  follows : {n : ℕ} {v : Value} (vs : Table) → ((m : ℕ) (u : Value) → slice_get vs m ≡ Some (Some u) → Follows worth m u) → worth vs n ≡ Some v → Follows worth n v

-- the values of a table follow, and are what the fields are worth by the table
pub record IsSound (worth : Worth) (vs : Table) : Type 0 where
  pub good : (n : ℕ) (v : Value) → slice_get vs n ≡ Some (Some v) → worth vs n ≡ Some v
  pub right : (n : ℕ) (v : Value) → slice_get vs n ≡ Some (Some v) → Follows worth n v

-- a field whose needs are known as far as it was looked at
pub record IsAhead (ids : List (List ℕ)) (vs : Table) (x : Waiter) : Type 0 where
  pub below : x.field < length ids
  pub known : KnownBelow vs (list_at ids x.field) x.next

-- all that wait are ahead, and there are as many lists as fields
pub record IsOrderly (ids : List (List ℕ)) (vs : Table) (waiting : List (List Waiter)) (found : List ℕ) : Type 0 where
  pub values : length vs ≡ length ids
  pub lists : length waiting ≡ length ids
  pub ahead : (m : ℕ) (x : Waiter) → Has (list_at waiting m) x → IsAhead ids vs x
  pub finds : (m : ℕ) → Has found m → m < length ids

-- a field waits for one that it needs, which has no value yet or whose list is still to be gone through
pub record Waits (ids : List (List ℕ)) (vs : Table) (waiting : List (List Waiter)) (found : List ℕ) (n : ℕ) : Type 0 where
  pub need : ℕ
  pub waiter : Waiter
  pub needed : Has (list_at ids n) need
  pub listed : Has (list_at waiting need) waiter
  pub is : waiter.field ≡ n
  pub open_yet : (slice_get vs need ≡ Some None) ⊎ Has found need

-- a field has a value, can have none, or waits
abbrev pub IsPlaced : Worth → List (List ℕ) → Table → List (List Waiter) → List ℕ → ℕ → Type 0
IsPlaced worth ids vs waiting found n = IsKnownAt vs n ⊎ (((worth vs n ≡ None) × AllAt vs (list_at ids n)) ⊎ Waits ids vs waiting found n)

-- how many fields have no value
abbrev pub unknown : Table → ℕ
unknown [] = 0
unknown (None ∷ vs) = suc (unknown vs)
unknown (Some v ∷ vs) = unknown vs

-- what is known, the lists of those that wait for each field, and the fields whose lists are still to be gone through
pub record State : Type 0 where
  pub values : Table
  pub waiting : List (List Waiter)
  pub found : List ℕ

abbrev pub Places : Worth → List (List ℕ) → State → ℕ → Type 0
Places worth ids s n = IsPlaced worth ids s.values s.waiting s.found n

abbrev pub Orderly : List (List ℕ) → State → Type 0
Orderly ids s = IsOrderly ids s.values s.waiting s.found

-- what is left to do
abbrev pub left : State → ℕ
left s = 2 * unknown s.values + length s.found

-- what a state keeps of an earlier one
pub record IsStep (worth : Worth) (ids : List (List ℕ)) (old new : State) : Type 0 where
  pub sound : IsSound worth new.values
  pub orderly : Orderly ids new
  pub kept : (n : ℕ) → Places worth ids old n → Places worth ids new n
  pub ahead : (x : Waiter) → IsAhead ids old.values x → IsAhead ids new.values x
  pub less : left new ≤ left old

-- in a list of those that wait
abbrev pub IsListed : List Waiter → ℕ → Type 0
IsListed list n = (x : Waiter) × Has list x × (x.field ≡ n)

-- each value is what the field is worth by the table
abbrev pub IsFixed : Worth → Table → Type 0
IsFixed worth vs = (n : ℕ) → n < length vs → slice_get vs n ≡ Some (worth vs n)

-- all that is known of a number of fields, when nothing is left to do
pub record IsDone (worth : Worth) (count : ℕ) (vs : Table) : Type 0 where
  pub sound : IsSound worth vs
  pub many : length vs ≡ count
  pub fixed : IsFixed worth vs
