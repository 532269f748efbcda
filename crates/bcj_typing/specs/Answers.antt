-- What the answers say of the unit that is typed, and that each comes exactly where it holds, but for want of memory.
use Rattle.std.specs.Prelude.{◌≡◌, ℕ, List, true, [], Result, Ok, Err}
use Rattle.std.specs.List.{AllByRecursion}
use Rattle.bcj_parser_trees.specs.Trees as source
use Rattle.bcj_symbolic_trees.specs.declared.class_tree.SymUnit.{SymUnit}
use Rattle.bcj_symbolic_trees.specs.Units.{PlainUnit, plain_of}
use Rattle.bcj_typing_rules.specs.declared.kind.Kind.{Kind}
use Rattle.bcj_typing_rules.specs.Members.{constructor_members}
use Rattle.bcj_typing_rules.specs.Faults.{IsUntyped}
use Rattle.bcj_typing.specs.declared.stop.Limited.{Limited}
use Rattle.bcj_typing.specs.declared.stop.TypeStop.{TypeStop}
use Rattle.bcj_typing.specs.declared.stop.TypeStop.TheVariants as stop
use Rattle.bcj_typing.specs.Limits.{IsWithin, IsTooLarge}

-- an interface writes no constructor
abbrev pub HaveNoConstructor : List source.PlainType → Type 0
HaveNoConstructor = AllByRecursion (λ t. t.interface ≡ true → constructor_members t ≡ [])

-- why there is no symbolic unit
abbrev pub IsCause : List source.PlainUnit → ℕ → TypeStop → Type 0
IsCause units own (stop.Untyped at k) = IsUntyped units own at k
IsCause units own (stop.TooLarge what at) = IsTooLarge units own what at
IsCause units own stop.NoMemory = Unit {0}

-- this stop, but for want of memory
abbrev pub StopsAt : TypeStop → Result SymUnit TypeStop → Type 0
StopsAt s (Ok u) = ⊥
StopsAt s (Err stop.NoMemory) = Unit {0}
StopsAt s (Err e) = e ≡ s

-- this unit, but for want of memory
abbrev pub Gives : PlainUnit → Result SymUnit TypeStop → Type 0
Gives u (Ok v) = plain_of v ≡ u
Gives u (Err stop.NoMemory) = Unit {0}
Gives u (Err e) = ⊥

-- each answer comes where it holds
pub record IsExact (units : List source.PlainUnit) (own : ℕ) (r : Result SymUnit TypeStop) : Type 0 where
  pub given : (u : PlainUnit) → IsWithin units own u → Gives u r
  pub untyped : (at : ℕ) (k : Kind) → IsUntyped units own at k → StopsAt (stop.Untyped at k) r
  pub too_large : (what : Limited) (at : ℕ) → IsTooLarge units own what at → StopsAt (stop.TooLarge what at) r
