use Rattle.std.proofs.Common.{ℕ, ◌-◌, List, ◌++◌, length, take, drop, refl, ap, ◌∙◌}
use Rattle.byteorder.specs.Endian.{little_bytes}
use Rattle.rv_machine.proofs.Stored.{placed, half_of}
use Rattle.rv_machine.proofs.memory.write_half.Goals as goal

pub returns : goal.returns
returns c =
    let m : List ℕ = c.args.memory.now in
    let rest : List ℕ = drop 2 (take (length m - c.args.place) (drop c.args.place m)) in
    placed m (little_bytes 2 c.args.v) c.write_u16.new.buf c.args.place 2 refl
    (c.write_u16.ensures ∙ ap (λ bs. bs ++ rest) (half_of c.args.v))
