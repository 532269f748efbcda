pub mod Sources
pub mod Statuses
mod WordLists
