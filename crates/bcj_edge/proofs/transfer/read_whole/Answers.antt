use Rattle.std.proofs.Common.{◌≡◌, ◌+◌, ◌≤◌, length, arith}
use Rattle.bcj_edge.proofs.Limited.{all_read}
use Rattle.bcj_edge.proofs.transfer.read_whole.Goals as goal

pub returns-in-Ok-2-clause-bytes : goal.returns-in-Ok-2-clause-bytes
returns-in-Ok-2-clause-bytes g c =
    let asked : c.take-front.result.limit ≡ c.args.limit + 1 = omega (arith, c.take-front.ensures.limit, c.from.ensures) in
    let short : length c.read_to_end.new.buf.items ≤ c.args.limit = grind (arith, c.if-len-limit.false) in
    all_read (g.S.Read.remaining c.args.source) c.args.limit c.take-front.result.limit c.new-bytes.result.items c.read_to_end.new.buf.items c.of.result
    c.new-bytes.ensures.items c.of.ensures asked short
    (rw c.take-front.ensures.inner at c.in-Ok-2.ensures.bytes)
