pub mod Gathering
pub mod Loops
pub mod Missing
pub mod OwnFields
pub mod Rules
pub mod Starts
pub mod StepLemmas
