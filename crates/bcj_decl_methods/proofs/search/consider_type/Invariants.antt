use Rattle.std.proofs.Common.{drop, List, ℕ}
use Rattle.std.specs.List.{flat_map}
use Rattle.std.specs.Option.{option_to_list}
use Rattle.bcj_symbolic_trees.specs.Types.{args_of}
use Rattle.bcj_decl_rules.specs.World.{Method, World}
use Rattle.bcj_decl_table.specs.Views.{world_in}
use Rattle.bcj_decl_methods.specs.Search.{method_at, best_of, shown}
use Rattle.bcj_decl_methods.specs.Passes.{Best, Passed}
use Rattle.bcj_decl_methods.proofs.search.consider_type.Given as goal

-- what passes the rest passes all
abbrev pub invariant-loop-at : goal.invariant-loop-at
invariant-loop-at l =
    let w : World = world_in l.listing.types in
    let offers : ℕ → List Method = λ at. shown l.all (option_to_list (method_at w (record { class = l.place; at = at }))) in
    (d : Best) → Passed w l.call.from.now (args_of l.call.args.now) (best_of w l.contest) (flat_map offers (drop l.at-index l.at-items)) d
    → Passed w l.call.from.now (args_of l.call.args.now) (best_of w l.fn.contest) (flat_map offers l.at-items) d
