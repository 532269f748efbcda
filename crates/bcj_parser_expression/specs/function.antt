pub mod Begin
pub mod Nests
pub mod Shapes
