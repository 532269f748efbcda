-- The rows by computation.
use Rattle.std.proofs.Common.{refl}
use Rattle.rv_steps.specs.Memory.{read, write, wrap}
use Rattle.rv_steps.specs.Arithmetic.{sum, product}
use Rattle.rv_steps.specs.Machine.{run, step}
use Rattle.bcj_cli_code.specs.function.Code.{skip, turn, print_code, program_code}
use Rattle.bcj_cli_code.specs.Rows.{Rows}

pub rows : Rows
unfolding read write wrap sum product run step skip turn print_code program_code
rows = record { sum = refl; stopped = refl }
