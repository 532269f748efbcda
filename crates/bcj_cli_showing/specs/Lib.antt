pub mod Laws
pub mod Lines
pub mod Rows
pub mod Text
pub mod Trees
