use Rattle.bcj_symbolic_trees.specs.Types.{ty_of}
use Rattle.bcj_decl.specs.Worlds.{units_in}
use Rattle.bcj_typing_scope.proofs.Answered.{subtype_answered}
use Rattle.bcj_typing_scope.proofs.world.World.subtype.Goals as goal

pub returns : goal.returns
returns c =
    rw (← c.self.view_is)
    (subtype_answered (units_in c.self.inside.decls.now) c.self.invariant.declared (ty_of c.args.s.now) (ty_of c.args.t.now) c.subtype.result c.subtype.ensures)
