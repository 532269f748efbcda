pub mod Counts
pub mod Hashes
pub mod EntryTests
pub mod Sums
pub mod Noted
