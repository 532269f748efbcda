use Rattle.std.proofs.Common.{◌≡◌, ◌++◌, map, drop}
use Rattle.bcj_layout_addresses.specs.Lists.{code_at}
use Rattle.bcj_layout_addresses.proofs.methods.own_words.Given as goal

abbrev pub invariant-loop-method : goal.invariant-loop-method
invariant-loop-method l = l.words ++ map (code_at l.text l.methods) (drop l.method-index l.methods) ≡ map (code_at l.text l.methods) l.methods
