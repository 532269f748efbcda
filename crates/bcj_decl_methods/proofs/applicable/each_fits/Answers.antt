use Rattle.bcj_symbolic_trees.specs.Types.{arg_of, ty_of}
use Rattle.bcj_decl_methods.proofs.Zips.{zip_long, never}
use Rattle.bcj_decl_methods.proofs.applicable.each_fits.Goals as goal

pub returns-then-args-params : goal.returns-then-args-params
returns-then-args-params c = never (λ all. c.if-args-params.true (zip_long _ arg_of ty_of c.args.args.now c.args.params.now all))
