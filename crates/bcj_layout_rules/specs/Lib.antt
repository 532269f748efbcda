pub mod Members
pub mod Rows
pub mod Places
pub mod Entries
pub mod Worked
