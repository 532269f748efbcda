pub mod Twice
pub mod Upward
pub mod Bodies
pub mod Some
pub mod Reaching
pub mod Standing
pub mod Heads
