use Rattle.std.proofs.Common.{All}
use Rattle.bcj_parser_trees.specs.Plain.{unit_of}
use Rattle.bcj_typing.specs.Answers.{HaveNoConstructor}
use Rattle.bcj_typing_rows.proofs.source.units.Given as goal

abbrev pub invariant-loop-source : goal.invariant-loop-source
invariant-loop-source l = All (λ u. HaveNoConstructor (unit_of u)) l.units.items
