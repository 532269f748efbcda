use Rattle.std.proofs.Common.{◌≡◌, ◌++◌, map, drop, get_or}
use Rattle.bcj_layout_addresses.specs.Lists.{found_at, by_number}
use Rattle.bcj_layout_addresses.proofs.lists.found_lists.Given as goal

abbrev pub invariant-loop-k : goal.invariant-loop-k
invariant-loop-k l =
    l.lists ++ by_number (λ k c. map (found_at (get_or l.text k 0) c.methods) c.methods) l.k (drop l.k l.classes)
    ≡ by_number (λ k c. map (found_at (get_or l.text k 0) c.methods) c.methods) 0 l.classes
