pub mod Lines
pub mod Words
pub mod Nodes
pub mod Ranges
pub mod Bodies
pub mod Classes
pub mod Rows
pub mod Laws
