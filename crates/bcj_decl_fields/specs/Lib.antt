pub mod FieldSearch
pub mod Hierarchy
pub mod Laws
pub mod Searches
