pub mod Code
pub mod Entries
pub mod World
pub mod Objects
pub mod Services
pub mod Run
pub mod Laws
pub mod Examples
