-- Definitions that the contracts cite.
pub mod Answers
pub mod function
pub use Rattle.bcj_parser_rules.specs.Texts
pub use Rattle.bcj_parser_trees.specs.Trees
pub use Rattle.bcj_parser_trees.specs.Plain
