use Rattle.std.proofs.Common.{List, map}
use Rattle.std.specs.Option.{option_map}
use Rattle.bcj_parser_trees.specs.Trees.{PlainType}
use Rattle.bcj_parser_trees.specs.Plain as tree
use Rattle.bcj_decl_table.specs.Views.{world_in}
use Rattle.bcj_decl_faults.specs.Refusals.{spot_of}
use Rattle.bcj_decl_faults.specs.Spots.{IsLeast}
use Rattle.bcj_decl_faults.specs.Parts.{Below, InFile, FileStands}
use Rattle.bcj_decl_faults.proofs.file.file_found.Given as goal

abbrev pub invariant-loop-index : goal.invariant-loop-index
invariant-loop-index l =
    (before : List PlainType) → FileStands (world_in l.listing.types) l.start before (map tree.type_of l.decls)
    → IsLeast (Below (InFile (world_in l.listing.types) before (map tree.type_of l.decls)) l.index) (option_map spot_of l.least)
