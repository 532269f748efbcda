pub mod Totals
pub mod Entries
pub mod Scheme
pub mod Depths
pub mod Bodies
pub mod Objects
pub mod Measures
pub mod function
