pub mod Shapes
pub mod Loading
pub mod Trees
pub mod Resolution
pub mod Selection
pub mod Linking
pub mod Heads
pub mod Rows
