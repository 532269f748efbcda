pub mod Arithmetic
pub mod Lent
pub mod Machine
