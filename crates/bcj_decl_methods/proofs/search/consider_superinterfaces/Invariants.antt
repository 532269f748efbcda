use Rattle.std.proofs.Common.{drop, false, List, ℕ}
use Rattle.std.specs.List.{flat_map}
use Rattle.bcj_symbolic_trees.specs.Types.{args_of}
use Rattle.bcj_decl_rules.specs.World.{Method, World}
use Rattle.bcj_decl_table.specs.Views.{world_in}
use Rattle.bcj_decl_methods.specs.Search.{best_of, offered}
use Rattle.bcj_decl_methods.specs.Passes.{Best, Passed}
use Rattle.bcj_decl_methods.proofs.search.consider_superinterfaces.Given as goal

-- what passes the rest passes all
abbrev pub invariant-loop-other : goal.invariant-loop-other
invariant-loop-other l =
    let w : World = world_in l.listing.types in
    let offers : ℕ → List Method = offered false w l.call.name.now in
    (d : Best) → Passed w l.call.from.now (args_of l.call.args.now) (best_of w l.contest) (flat_map offers (drop l.other-index l.other-items)) d
    → Passed w l.call.from.now (args_of l.call.args.now) (best_of w l.fn.contest) (flat_map offers l.other-items) d
