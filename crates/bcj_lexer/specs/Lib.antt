-- Definitions that the contracts cite.
pub mod Bytes
pub mod Symbols
pub mod Numbers
pub mod Pieces
pub mod Answers
pub mod Laws
pub mod function
