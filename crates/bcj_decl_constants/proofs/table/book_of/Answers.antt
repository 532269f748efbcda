use Rattle.std.proofs.Common.{map}
use Rattle.bcj_parser_trees.specs.Plain as tree
use Rattle.bcj_decl_constants.proofs.Finished.{is_book}
use Rattle.bcj_decl_constants.proofs.table.book_of.Goals as goal

pub returns : goal.returns
returns g c =
    is_book (map tree.unit_of c.args.units.now) (g.L.FieldSearch.world c.args.search.now) c.as_slice.result.now c.args.listing.now.types _ c.as_slice-2.result.now c.as_slice.ensures c.as_slice-2.ensures.value
    c.requires.search c.requires.world c.in_ok-fields.ensures.offsets c.in_ok-fields.ensures.fields c.requires.once c.in_ok-initialisers.ensures c.in_ok-needs.ensures.many c.in_ok-needs.ensures.means
