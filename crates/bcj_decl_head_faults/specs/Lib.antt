pub mod Kinds
pub mod Lacks
pub mod Refusals
