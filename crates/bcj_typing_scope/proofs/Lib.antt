pub mod Answered
pub mod Casts
pub mod Heads
pub mod Initialisers
pub mod Locals
pub mod Rules
pub mod Types
