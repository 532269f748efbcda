pub mod Constants
pub mod Facts
pub mod Once
pub mod Rules
mod Types
pub mod Views
