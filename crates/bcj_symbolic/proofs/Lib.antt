mod BootLemmas
pub use Rattle.bcj_symbolic_trees.proofs.PlainLemmas
pub use Rattle.bcj_symbolic_trees.proofs.SameLemmas
