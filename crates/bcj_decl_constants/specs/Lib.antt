pub mod Books
pub mod Initials
pub mod Laws
pub mod Needs
pub mod Numbers
pub mod Waiting
