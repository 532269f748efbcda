use Rattle.std.proofs.Common.{◌∙◌}
use Rattle.bcj_decl_constants.proofs.NumberLemmas.{value_of_none, value_of_number_is}
use Rattle.bcj_decl_constants.proofs.expression.value_of_name.Goals as goal

pub returns-in-None : goal.returns-in-None
returns-in-None g c = value_of_none (g.L.FieldSearch.world c.args.search.now) c.args.values.now _ c.in-None.ensures

pub returns-in-Some : goal.returns-in-Some
returns-in-Some g c = c.value_at.ensures ∙ value_of_number_is (g.L.FieldSearch.world c.args.search.now) c.args.values.now _ c.in-Some.number c.requires.once c.requires.length c.in-Some.ensures
