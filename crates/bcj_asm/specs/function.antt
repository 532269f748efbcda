pub mod Emitting
pub mod Places
