pub mod Code
pub mod Execution
pub mod Room
pub mod Run
pub mod Slots
