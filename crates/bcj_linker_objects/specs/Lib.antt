pub mod Objects
pub mod Gathering
pub mod Names
pub mod Read
pub mod Steps
pub mod Stops
pub mod Laws
