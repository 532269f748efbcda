use Rattle.std.proofs.Common.{◌≡◌, drop, nat_eq}
use Rattle.indexmap.specs.IndexSet.{insert_all}
use Rattle.bcj_decl_graph.specs.Found.{found_of}
use Rattle.bcj_decl_graph.proofs.search.Search.insert_each.Given as goal

abbrev pub invariant-loop-place : goal.invariant-loop-place
invariant-loop-place l = insert_all nat_eq (found_of l.self) (drop l.place-index l.places) ≡ insert_all nat_eq (found_of l.fn.self) l.places
