pub mod Chosen
pub mod Contexts
