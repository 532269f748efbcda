use Rattle.std.proofs.Common.{◌≡◌, length}
use Rattle.bcj_symbolic_trees.specs.Types.{arg_of, ty_of}
use Rattle.bcj_decl_rules.specs.Subtypes.{Fits}
use Rattle.bcj_decl_table.specs.Views.{world_in}
use Rattle.bcj_decl_methods.proofs.Zips.{LeftToZip}
use Rattle.bcj_decl_methods.proofs.applicable.each_fits.Given as goal

abbrev pub invariant-loop-i : goal.invariant-loop-i
invariant-loop-i l = record { long : length l.args ≡ length l.params; left : LeftToZip (Fits (world_in l.listing.types)) arg_of ty_of l.args l.params l.i }
