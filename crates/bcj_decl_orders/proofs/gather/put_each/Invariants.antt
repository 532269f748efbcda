use Rattle.std.proofs.Common.{◌≡◌, drop, nat_eq}
use Rattle.indexmap.specs.IndexSet.{insert_all}
use Rattle.bcj_decl_orders.proofs.gather.put_each.Given as goal

abbrev pub invariant-loop-place : goal.invariant-loop-place
invariant-loop-place l = insert_all nat_eq l.found.keys (drop l.place-index l.places) ≡ insert_all nat_eq l.fn.found.keys l.places
