use Rattle.bcj_decl.proofs.Facts.{ready_acyclic}
use Rattle.bcj_decl.proofs.decls.Decls.most_specific.Goals as goal

pub most_specific-requires-clause-acyclic : goal.most_specific-requires-clause-acyclic
most_specific-requires-clause-acyclic c = ready_acyclic c.self.invariant
