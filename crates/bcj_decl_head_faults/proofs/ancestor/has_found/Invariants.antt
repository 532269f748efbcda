use Rattle.std.proofs.Common.{◌≡◌, drop, nat_eq}
use Rattle.std.specs.List.{list_any}
use Rattle.bcj_decl_graph.specs.Found.{found_of}
use Rattle.bcj_decl_head_faults.proofs.ancestor.has_found.Given as goal

abbrev pub invariant-loop-found : goal.invariant-loop-found
invariant-loop-found l = list_any (nat_eq l.place) (drop l.found-index l.found-items) ≡ list_any (nat_eq l.place) (found_of l.search)
