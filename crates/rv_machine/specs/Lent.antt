-- What a machine is once the slice that its memory was lent by is over.
use Rattle.std.specs.Prelude.{ℕ, List}
use Rattle.std.specs.Borrow.{Lends, Fml, MutBor, Array, u8 as byte}
use Rattle.bcj_edge.specs.Replaced.{replaced}
use Rattle.rv_machine.specs.Machine.{State}
use Rattle.rv_machine.specs.contracts.hart.Machine.{the_row}

-- s with others in the place of its memory, of the memory's length
abbrev pub with_memory : State → List ℕ → State
with_memory s others = record s { memory = replaced s.memory others }

-- the slice r is all of the memory of s, and what it holds at its end takes the memory's place
abbrev pub LendsMemory : MutBor State → MutBor (List ℕ) → Fml
LendsMemory s r = Lends the_row (Array byte 0) s r (with_memory s.now)
