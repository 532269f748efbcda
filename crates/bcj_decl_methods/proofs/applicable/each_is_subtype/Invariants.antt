use Rattle.std.proofs.Common.{◌≡◌, length}
use Rattle.bcj_symbolic_trees.specs.Types.{ty_of}
use Rattle.bcj_decl_rules.specs.Subtypes.{Subtype}
use Rattle.bcj_decl_table.specs.Views.{world_in}
use Rattle.bcj_decl_methods.proofs.Zips.{LeftToZip}
use Rattle.bcj_decl_methods.proofs.applicable.each_is_subtype.Given as goal

abbrev pub invariant-loop-i : goal.invariant-loop-i
invariant-loop-i l = record { long : length l.types ≡ length l.others; left : LeftToZip (Subtype (world_in l.listing.types)) ty_of ty_of l.types l.others l.i }
