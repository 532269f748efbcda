-- Definitions that the contracts cite.
pub mod World
pub mod Values
pub mod Frames
pub mod Laws
