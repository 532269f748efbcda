pub mod Gathered
pub mod Initialised
pub mod Parts
pub mod Steps
pub mod StepTests
pub mod Typed
