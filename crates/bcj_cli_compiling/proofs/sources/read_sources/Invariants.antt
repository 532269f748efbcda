use Rattle.std.proofs.Common.{◌≡◌, ◌-◌, ◌<◌, ◌≤◌, ◌^◌, take, length}
use Rattle.bcj_cli_telling.specs.Faults.{counts}
use Rattle.bcj_cli_compiling.specs.Compilations.{HaveTexts}
use Rattle.bcj_cli_compiling.specs.function.Named.{Later, named_in}
use Rattle.bcj_cli_compiling.proofs.sources.read_sources.Given as goal

abbrev pub invariant-loop-at : goal.invariant-loop-at
invariant-loop-at g l = record {
  texts : HaveTexts (g.F.Files.held l.initial.files) (take (l.at - 2) (named_in l.words).files) l.sources;
  few : length l.sources < 2 ^ 32;
  held : g.F.Files.held l.files ≡ g.F.Files.held l.initial.files;
  later : Later (counts (g.F.Files.read_faults l.initial.files) (g.F.Files.absents l.initial.files) (g.F.Files.overs l.initial.files)) (counts (g.F.Files.read_faults l.files) (g.F.Files.absents l.files) (g.F.Files.overs l.files));
  write_later : g.F.Files.write_faults l.initial.files ≤ g.F.Files.write_faults l.files;
}
