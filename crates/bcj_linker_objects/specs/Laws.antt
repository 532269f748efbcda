-- What a reader expects of these definitions.
use Rattle.std.specs.Prelude.{◌≡◌, ℕ, List}
use Rattle.bcj_linker_rules.specs.Memory.{Linked}
use Rattle.bcj_linker_objects.specs.Objects.{IsLinked, IsBadObject}

-- bytes that are an object aren't damaged
abbrev pub NoObjectIsBad : Type 0
NoObjectIsBad = (bytes : List ℕ) (l : Linked) (at : ℕ) → IsLinked bytes l → IsBadObject bytes at → ⊥

-- bytes are one object at most
abbrev pub BytesAreOneObject : Type 0
BytesAreOneObject = (bytes : List ℕ) (k l : Linked) → IsLinked bytes k → IsLinked bytes l → k ≡ l

-- the place of damage is one
abbrev pub DamageHasOnePlace : Type 0
DamageHasOnePlace = (bytes : List ℕ) (at other : ℕ) → IsBadObject bytes at → IsBadObject bytes other → at ≡ other
