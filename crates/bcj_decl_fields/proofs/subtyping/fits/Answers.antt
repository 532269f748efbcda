use Rattle.bcj_symbolic_trees.specs.Types.{ty_of, arg_of}
use Rattle.bcj_decl_table.specs.Views.{world_in}
use Rattle.bcj_decl_fields.proofs.Places.{fits_means}
use Rattle.bcj_decl_fields.proofs.subtyping.fits.Goals as goal

pub returns : goal.returns
returns c = fits_means (world_in c.args.listing.now.types) c.requires.acyclic c.requires.hierarchy (arg_of c.args.arg.now) (ty_of c.args.ty.now) c.does_fit.result c.does_fit.ensures
