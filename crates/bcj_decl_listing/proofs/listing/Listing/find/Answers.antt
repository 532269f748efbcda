use Rattle.std.proofs.Common.{◌∙◌, ap}
use Rattle.std.specs.Option.{option_map}
use Rattle.bcj_decl_table.specs.Views.{declared_of, world_in}
use Rattle.bcj_decl_listing.proofs.PlaceLemmas.{found_none, found_some}
use Rattle.bcj_decl_listing.proofs.listing.Listing.find.Goals as goal

pub returns-in-None : goal.returns-in-None
returns-in-None c = found_none (world_in c.args.self.now.types) c.args.name.now (cc (c.place.ensures, c.in-None.is))

pub returns-in-Some : goal.returns-in-Some
returns-in-Some c =
    ap (option_map declared_of) c.get.ensures.value
    ∙ found_some declared_of c.args.self.now.types c.args.name.now c.in-Some.place (cc (c.place.ensures, c.in-Some.is))
