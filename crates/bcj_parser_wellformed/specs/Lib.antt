-- Definitions that the contracts cite.
pub mod WellFormed
pub mod Constructors
pub mod Laws
