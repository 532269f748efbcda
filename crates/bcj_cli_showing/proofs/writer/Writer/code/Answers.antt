use Rattle.std.proofs.Common.{◌*◌, refl, arith}
use Rattle.bcj_cli_showing.proofs.Codes.{shown_more, shown_all}
use Rattle.bcj_cli_showing.proofs.writer.Writer.code.Goals as goal

pub loop-index-preserved : goal.loop-index-preserved
loop-index-preserved c =
    rw (c.in_ok-code_word.ensures, c.word_at.ensures)
    (shown_more _ _ _ _ (c.loop-index.index * 4) refl (omega (arith, c.loop-index-test.true)) c.loop-index.invariant)

pub returns : goal.returns
returns c = shown_all _ _ _ c.loop-index.index (omega (arith, c.loop-index-test.false)) c.loop-index.invariant
