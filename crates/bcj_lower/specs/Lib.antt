pub mod Views
pub mod function
