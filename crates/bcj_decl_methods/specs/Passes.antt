-- What a pass over methods comes to, which keeps the best so far.
use Rattle.std.specs.Prelude.{◌≡◌, Bool, true, List, [], ◌∷◌, Option, Some}
use Rattle.bcj_symbolic_trees.specs.Types.{PlainArg}
use Rattle.bcj_decl_rules.specs.World.{Named, Method, World}
use Rattle.bcj_decl_rules.specs.Methods.{IsApplicable, IsAsSpecific}

-- the best so far, and whether it changed
pub record Best : Type 0 where
  pub method : Option Method
  pub changed : Bool

-- one method: another best gives way to it where it is applicable and the best isn't as specific
pub data Step (w : World) (from : Named) (args : List PlainArg) : Best → Method → Best → Type 0 where
  skips : {b : Best} {m : Method} → (IsApplicable w from m args → ⊥) → Step w from args b m b
  keeps : {b : Best} {m : Method} (best : Method) → b.method ≡ Some best → IsAsSpecific w best m → Step w from args b m b
  takes : {b : Best} {m : Method} → IsApplicable w from m args → ((best : Method) → b.method ≡ Some best → IsAsSpecific w best m → ⊥) → Step w from args b m (record { method = Some m; changed = true })

-- a list of methods
pub data Passed (w : World) (from : Named) (args : List PlainArg) : Best → List Method → Best → Type 0 where
  over : {b : Best} → Passed w from args b [] b
  onward : {b c d : Best} {m : Method} {ms : List Method} → Step w from args b m c → Passed w from args c ms d → Passed w from args b (m ∷ ms) d
