use Rattle.bcj_symbolic_trees.specs.Types.{ty_of}
use Rattle.bcj_decl_table.specs.Views.{world_in}
use Rattle.bcj_decl_fields.proofs.Places.{subtype_means}
use Rattle.bcj_decl_fields.proofs.subtyping.subtype.Goals as goal

pub returns : goal.returns
returns c =
    subtype_means (world_in c.args.listing.now.types) c.requires.acyclic c.requires.hierarchy (ty_of c.args.ty.now) (ty_of c.args.other.now) c.is_subtype.result c.is_subtype.ensures
