use Rattle.std.proofs.Common.{◌≡◌, ◌++◌, drop, get_or}
use Rattle.bcj_layout_addresses.specs.Lists.{fields_by, by_number}
use Rattle.bcj_layout_addresses.proofs.lists.field_lists.Given as goal

abbrev pub invariant-loop-k : goal.invariant-loop-k
invariant-loop-k l =
    l.lists ++ by_number (λ k c. fields_by (get_or l.statics k 0) l.resolver c) l.k (drop l.k l.resolver)
    ≡ by_number (λ k c. fields_by (get_or l.statics k 0) l.resolver c) 0 l.resolver
