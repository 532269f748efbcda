pub mod Damage
pub mod Placed
pub mod Places
pub mod Distinct
pub mod Noted
pub mod Taken
pub mod Refused
pub mod Rooted
