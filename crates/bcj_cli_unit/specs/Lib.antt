pub mod Limits
pub mod Kinds
pub mod Program
pub mod Lacking
pub mod Laws
pub mod Stops
pub mod function
