use Rattle.std.proofs.Common.{◌≡◌, ◌<◌, ◌/◌, length, arith}
use Rattle.bcj_hier.proofs.Bits.{put_bit}
use Rattle.bcj_hier.proofs.rows.Row.put.Goals as goal

pub returns : goal.returns
returns c =
    let count : length c.args.self.now.words ≡ 64 = omega arith in
    let within : c.args.i / 64 < length c.args.self.now.words = omega arith in
    λ j h. put_bit c.args.self.now.words c.args.i j within
