pub mod Rules
pub mod Membership
pub mod Within
pub mod Explored
pub mod Stepping
mod Circles
mod Passing
