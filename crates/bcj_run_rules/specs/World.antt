-- What a run keeps beside its machine, and how it ends.
use Rattle.std.specs.Prelude.{ℕ, List}
use Rattle.bcj_hier_rules.specs.Shapes.{Named}
use Rattle.bcj_layout_rules.specs.Rows.{Classes}
use Rattle.bcj_linker_rules.specs.declared.state.ClassState.{ClassState}

-- what is run: the records of the classes, boot first, the main class, and the words of the heap
pub record Program : Type 0 where
  pub classes : Classes
  pub main : Named
  pub heap : ℕ

-- an error that a service made: its class, what failed, the turns that were left and the bytes that had been printed
pub record Thrown : Type 0 where
  pub class : Named
  pub reference : List ℕ
  pub turns : ℕ
  pub printed : ℕ

pub record World : Type 0 where
  -- of each class in the order of the records
  pub states : List ClassState
  -- how many words of the heap are taken
  pub allocated : ℕ
  -- the turns behind those that s11 counts
  pub reserve : ℕ
  pub output : List ℕ
  -- how many entries were resolved
  pub resolved : ℕ
  pub thrown : List Thrown

-- how a service ends a run
pub data End : Type 0 where
  done : End
  uncaught : Named → End
  turns_spent : End
  depth_spent : End
  heap_spent : End
  -- a throw that came to a frame that lies nowhere: its ECALL is a bad call, behind the error that it made
  lost : End
