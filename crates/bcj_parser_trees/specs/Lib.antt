pub mod Trees
pub mod Plain
