use Rattle.bcj_decl.proofs.Facts.{ready_acyclic}
use Rattle.bcj_decl.proofs.decls.Decls.subtype.Goals as goal

pub subtype-requires-clause-acyclic : goal.subtype-requires-clause-acyclic
subtype-requires-clause-acyclic c = ready_acyclic c.self.invariant
