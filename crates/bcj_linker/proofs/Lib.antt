pub mod Zeros
pub mod Joined
pub mod Mixed
