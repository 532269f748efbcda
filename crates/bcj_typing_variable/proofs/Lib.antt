pub mod Compounds
pub mod Contexts
