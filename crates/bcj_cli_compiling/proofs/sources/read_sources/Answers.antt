use Rattle.std.proofs.Common.{◌∙◌, arith}
use Rattle.bcj_cli_compiling.proofs.TextsRead.{more_read, still_later}
use Rattle.bcj_cli_compiling.proofs.sources.read_sources.Goals as goal

pub loop-at-preserved : goal.loop-at-preserved
loop-at-preserved g c = record {
  texts =
      more_read (g.F.Files.held c.args.files.now) (g.F.Files.held c.loop-at.files) c.args.words.now c.loop-at.at c.in-Some.file.now c.loop-at.sources c.push_source.new.sources c.loop-at.auto.at c.in-Some.ensures.value
      c.loop-at.invariant.held c.loop-at.invariant.texts c.in-Ok.ensures.ok;
  few = c.in-Ok.ensures.few;
  held = c.push_source.ensures.held ∙ c.loop-at.invariant.held;
  later = still_later _ _ _ c.loop-at.invariant.later c.push_source.ensures.later;
  write_later = (let before = c.loop-at.invariant.write_later in let now = c.push_source.ensures.write_later in omega (arith, before, now));
}
