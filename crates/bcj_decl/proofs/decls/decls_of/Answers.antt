use Rattle.bcj_decl.specs.Worlds.{units_of}
use Rattle.bcj_decl.proofs.Facts.{world_acyclic}
use Rattle.bcj_decl.proofs.decls.decls_of.Goals as goal

pub orders-requires : goal.orders-requires
orders-requires c = world_acyclic (units_of c.args.units.now) c.args.listing.types c.requires.world c.requires.declared
