use Rattle.std.proofs.Common.{length, sym}
use Rattle.std.proofs.lemmas.List.{length-map}
use Rattle.bcj_symbolic_trees.specs.Types.{args_of}
use Rattle.bcj_decl_table.specs.Views.{declared_of, world_in}
use Rattle.bcj_decl_methods.proofs.Beyond.{passed_all}
use Rattle.bcj_decl_methods.proofs.search.consider_all.Goals as goal

pub returns : goal.returns
returns c =
    passed_all (world_in c.args.listing.now.types) c.args.call.from.now (args_of c.args.call.args.now) c.args.orders.now c.args.call.name.now c.args.place (length c.args.listing.now.types)
    (sym (length-map c.args.listing.now.types declared_of))
    _ _ _ _ _ c.consider_type-own.ensures
    c.consider_superclasses-classes.ensures
    c.consider_superinterfaces-near.ensures
    c.consider_farther_superinterfaces.ensures
