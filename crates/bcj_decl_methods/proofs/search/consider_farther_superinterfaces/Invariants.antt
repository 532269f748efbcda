use Rattle.std.proofs.Common.{◌-◌, false, length, List, ℕ}
use Rattle.std.specs.List.{flat_map}
use Rattle.bcj_symbolic_trees.specs.Types.{args_of}
use Rattle.bcj_decl_rules.specs.World.{Method, World}
use Rattle.bcj_decl_table.specs.Views.{world_in}
use Rattle.bcj_decl_methods.specs.Search.{best_of, offered}
use Rattle.bcj_decl_fields.specs.Searches.{places_up, superclass_place}
use Rattle.bcj_decl_orders.specs.Orders.{list_at}
use Rattle.bcj_decl_methods.specs.Passes.{Best, Passed}
use Rattle.bcj_decl_methods.proofs.search.consider_farther_superinterfaces.Given as goal

-- what passes the superclasses from the next on passes all
abbrev pub invariant-loop-step : goal.invariant-loop-step
invariant-loop-step l =
    let w : World = world_in l.listing.types in
    let offers : ℕ → List Method = λ k. flat_map (offered false w l.call.name.now) (list_at l.orders k) in
    (d : Best) → Passed w l.call.from.now (args_of l.call.args.now) (best_of w l.contest) (flat_map offers (places_up (length l.listing.types - l.step) w l.next)) d
    → Passed w l.call.from.now (args_of l.call.args.now) (best_of w l.fn.contest) (flat_map offers (places_up (length l.listing.types) w (superclass_place w l.place))) d
