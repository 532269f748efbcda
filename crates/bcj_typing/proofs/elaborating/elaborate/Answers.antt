use Rattle.bcj_decl.specs.Worlds.{units_in}
use Rattle.bcj_parser_trees.specs.Plain.{unit_of}
use Rattle.bcj_typing.proofs.Answering.{comes_within, comes_typed, comes_cause, comes_exact}
use Rattle.bcj_typing.proofs.elaborating.elaborate.Goals as goal

pub returns-clause-ok : goal.returns-clause-ok
returns-clause-ok c =
    comes_within (units_in c.args.decls.now) c.is_declared.ensures c.args.decls.now.own (unit_of c.args.unit.now) c.requires.own c.requires.constructors c.answered.result c.answered.ensures

pub returns-clause-well_typed : goal.returns-clause-well_typed
returns-clause-well_typed c =
    comes_typed (units_in c.args.decls.now) c.is_declared.ensures c.args.decls.now.own (unit_of c.args.unit.now) c.requires.own c.requires.constructors c.answered.result c.answered.ensures

pub returns-clause-cause : goal.returns-clause-cause
returns-clause-cause c =
    comes_cause (units_in c.args.decls.now) c.is_declared.ensures c.args.decls.now.own (unit_of c.args.unit.now) c.requires.own c.requires.constructors c.answered.result c.answered.ensures

pub returns-clause-exact : goal.returns-clause-exact
returns-clause-exact c =
    comes_exact (units_in c.args.decls.now) c.is_declared.ensures c.args.decls.now.own (unit_of c.args.unit.now) c.requires.own c.requires.constructors c.answered.result c.answered.ensures
