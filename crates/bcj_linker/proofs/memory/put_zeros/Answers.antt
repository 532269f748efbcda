use Rattle.std.proofs.Common.{◌≡◌, ◌+◌, ◌*◌, length, arith}
use Rattle.bcj_linker.proofs.Zeros.{zeros_put}
use Rattle.bcj_linker.proofs.memory.put_zeros.Goals as goal

pub returns-in_ok-resize-in-Some : goal.returns-in_ok-resize-in-Some
returns-in_ok-resize-in-Some c =
    let counted : c.args.out.now.len ≡ length c.args.out.now.items = omega (arith, c.args.out.now.ok) in
    let end_is : c.in-Some.end ≡ c.args.out.now.len + 4 * c.args.count = omega (arith, c.len.ensures, c.in-Some.ensures) in
    zeros_put c.args.out.now.items c.resize.new.self.items c.args.out.now.len c.in-Some.end c.args.count counted end_is c.in_ok-resize-in-Some.ensures.items
