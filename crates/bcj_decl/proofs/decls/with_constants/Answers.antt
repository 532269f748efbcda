use Rattle.std.proofs.Common.{◌∙◌, ap, sym, length}
use Rattle.bcj_decl.specs.Filled.{numbers_of}
use Rattle.bcj_decl.specs.Worlds.{units_of}
use Rattle.bcj_decl.proofs.Constants.{as_many, has_constants}
use Rattle.bcj_decl.proofs.Facts.{stand_once, world_searched}
use Rattle.bcj_decl.proofs.decls.with_constants.Goals as goal

pub invariant_of-constants : goal.invariant_of-constants
invariant_of-constants c = world_searched (units_of c.args.units.now) c.args.listing.types c.args.orders.now c.requires.world c.requires.declared c.requires.orders

pub constants-requires-clause-once : goal.constants-requires-clause-once
constants-requires-clause-once c = stand_once (units_of c.args.units.now) c.requires.declared

pub filled-types-requires : goal.filled-types-requires
filled-types-requires c =
    as_many (units_of c.args.units.now) c.args.listing.types c.in_ok-values.values.items c.requires.world c.in_ok-values.ensures ∙ ap length (sym c.as_slice.ensures.value)

pub returns-clause-constants : goal.returns-clause-constants
returns-clause-constants c =
    has_constants (units_of c.args.units.now) c.filled-types.result c.in_ok-values.values.items (c.filled-types.ensures.same ∙ c.requires.world) c.in_ok-values.ensures
    (c.filled-types.ensures.set ∙ ap numbers_of c.as_slice.ensures.value)
