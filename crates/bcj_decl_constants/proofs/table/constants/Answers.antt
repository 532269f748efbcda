use Rattle.std.proofs.Common.{◌∙◌, map}
use Rattle.bcj_parser_trees.specs.Plain as tree
use Rattle.bcj_decl_constants.proofs.Finished.{finished_ok}
use Rattle.bcj_decl_constants.proofs.table.constants.Goals as goal

pub returns : goal.returns
returns g c =
    finished_ok (map tree.unit_of c.args.units.now) (g.L.FieldSearch.world c.args.search.now) c.in_ok-book.book c.values_of.result c.requires.once (c.requires.search ∙ c.requires.world) c.in_ok-book.ensures
    c.values_of.ensures
