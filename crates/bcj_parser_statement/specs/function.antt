pub mod Variables
pub mod Openings
pub mod Views
pub mod Nests
