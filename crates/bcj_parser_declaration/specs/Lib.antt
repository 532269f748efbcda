pub mod function
