pub mod Start
pub mod Relocations
pub mod Memory
pub mod States
pub mod Frames
pub mod Worked
