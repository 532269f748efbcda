pub mod Compilations
pub mod Form
pub mod function
