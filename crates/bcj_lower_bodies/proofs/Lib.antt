pub mod Steps
pub mod Walks
pub mod Arms
pub mod Excess
pub mod Whole
pub mod Rules
