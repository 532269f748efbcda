-- Small programs with their runs, worked out by hand.
use Rattle.std.specs.Prelude.{◌≡◌, []}
use Rattle.bcj_cli_language.specs.declared.tree.Operator.TheVariants.{Add, Mul}
use Rattle.bcj_cli_language.specs.Tree.{number, binary, print, Acts, nil, cons}
use Rattle.bcj_cli_language.specs.Meaning.{line_of}
use Rattle.rv_steps.specs.Machine.{Over, run}
use Rattle.bcj_cli_code.specs.function.Code.{program_code, program_words}
use Rattle.bcj_cli_code.specs.function.Run.{Done, TurnsSpent, image, start}
use Rattle.bcj_cli_code.specs.Correct.{memory_of}

-- System.out.println(2 + 3 * 4);
abbrev pub adds : Acts
adds = cons (print (binary Add (number 2) (binary Mul (number 3) (number 4)))) nil

-- System.out.println(7);
abbrev pub prints : Acts
prints = cons (print (number 7)) nil

-- the first makes 35 words, of which 26 run; with no turn for the print the run stops at its service 14
pub record Rows : Type 0 where
  pub sum : run (image (program_code adds)) 100 0 (start (program_code adds) (memory_of (program_words adds)) 3) ≡ Over Done (line_of 14) 26
  pub stopped : run (image (program_code prints)) 100 0 (start (program_code prints) (memory_of (program_words prints)) 2) ≡ Over TurnsSpent [] 10
