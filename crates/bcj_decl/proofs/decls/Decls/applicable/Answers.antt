use Rattle.bcj_decl.proofs.Facts.{ready_acyclic}
use Rattle.bcj_decl.proofs.decls.Decls.applicable.Goals as goal

pub is_applicable-requires-clause-acyclic : goal.is_applicable-requires-clause-acyclic
is_applicable-requires-clause-acyclic c = ready_acyclic c.self.invariant
