pub mod Members
pub mod Typed
