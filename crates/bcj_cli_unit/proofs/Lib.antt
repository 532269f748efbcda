pub mod Rulesets
pub mod Scopes
pub mod Slices
pub mod Building
pub mod Sums
pub mod Blocks
pub mod Whole
pub mod Walking
