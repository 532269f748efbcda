pub mod Objects
pub mod Instructions
pub mod Relocating
