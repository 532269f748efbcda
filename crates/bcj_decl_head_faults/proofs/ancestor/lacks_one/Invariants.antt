use Rattle.std.proofs.Common.{drop}
use Rattle.bcj_decl_table.specs.Views.{method_of_info, declared_of, world_in}
use Rattle.bcj_decl_head_faults.specs.Lacks.{Lacks, SomeOf}
use Rattle.bcj_decl_head_faults.proofs.ancestor.lacks_one.Given as goal

abbrev pub invariant-loop-method : goal.invariant-loop-method
invariant-loop-method l =
    SomeOf (λ m. Lacks (world_in l.listing.types) l.steps (declared_of l.info) l.from l.place (method_of_info m)) l.methods
    → SomeOf (λ m. Lacks (world_in l.listing.types) l.steps (declared_of l.info) l.from l.place (method_of_info m)) (drop l.method-index l.methods)
