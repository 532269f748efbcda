use Rattle.bcj_symbolic_trees.specs.Types.{ty_of}
use Rattle.bcj_decl_methods.proofs.Zips.{zip_long, never}
use Rattle.bcj_decl_methods.proofs.applicable.each_is_subtype.Goals as goal

pub returns-then-types-others : goal.returns-then-types-others
returns-then-types-others c = never (λ all. c.if-types-others.true (zip_long _ ty_of ty_of c.args.types.now c.args.others.now all))
