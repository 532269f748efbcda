-- symbolic units as plain data, and the plain form of each tree
pub mod Names
pub mod Types
pub mod Trees
pub mod Plain
pub mod Units
pub mod Descriptors
pub mod Same
