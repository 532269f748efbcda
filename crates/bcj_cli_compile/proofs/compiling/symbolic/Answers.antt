use Rattle.std.proofs.Common.{map, subst, arith}
use Rattle.bcj_parser_trees.specs.Plain.{unit_of}
use Rattle.bcj_symbolic_trees.specs.Units.{plain_of}
use Rattle.bcj_decl.specs.Worlds.{units_in}
use Rattle.bcj_typing.specs.Limits.{IsWithin}
use Rattle.bcj_cli_compile.proofs.Own.{as_many, own_is, own_lacks, accepted}
use Rattle.bcj_cli_compile.proofs.compiling.symbolic.Goals as goal

pub declare-requires-clause-own : goal.declare-requires-clause-own
declare-requires-clause-own c = omega (arith, as_many _ _ c.requires.parsed)

pub declare-requires-clause-few : goal.declare-requires-clause-few
declare-requires-clause-few c = omega (arith, as_many _ _ c.requires.parsed)

pub bounds-units-own : goal.bounds-units-own
bounds-units-own c = omega (arith, as_many _ _ c.requires.parsed)

pub elaborate-requires-clause-own : goal.elaborate-requires-clause-own
elaborate-requires-clause-own c =
    own_is c.args.units.now c.args.own c.index-units-own.result (omega (arith, as_many _ _ c.requires.parsed)) c.index-units-own.is c.in-Ok.decls c.in-Ok.ensures.world

pub elaborate-requires-clause-constructors : goal.elaborate-requires-clause-constructors
elaborate-requires-clause-constructors c =
    own_lacks c.interfaces_have_no_constructors.ensures.none c.args.sources.now c.args.units.now c.args.own c.index-units-own.result c.requires.parsed (omega (arith, as_many _ _ c.requires.parsed)) c.index-units-own.is

pub returns-in-Ok-elaborate-clause-ok : goal.returns-in-Ok-elaborate-clause-ok
returns-in-Ok-elaborate-clause-ok c =
    accepted c.args.sources.now c.args.own (map unit_of c.args.units.now) (plain_of c.in-Ok-elaborate.unit) c.requires.parsed c.in-Ok.ensures.declared
    (subst (λ d. IsWithin (units_in d) d.own (plain_of c.in-Ok-elaborate.unit)) c.in-Ok.ensures.world c.in-Ok-elaborate.ensures.ok)
