pub mod Acceptance
pub mod Judging
pub mod Reading
