pub mod Orders
pub mod Spans
pub mod Looks
