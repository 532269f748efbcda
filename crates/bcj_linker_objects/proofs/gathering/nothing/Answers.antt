use Rattle.std.proofs.Common.{rules}
use Rattle.bcj_linker_objects.proofs.Taken.{gathers_nothing}
use Rattle.bcj_linker_objects.proofs.gathering.nothing.Goals as goal

pub returns : goal.returns
returns c = gathers_nothing (record { owners = c.new.result; classes = c.new-2.result; objects = c.new-3.result }) c.new-2.ensures c.new-3.ensures (λ q. search rules)
