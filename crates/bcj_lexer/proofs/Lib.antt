pub mod ByteClasses
pub mod Identifiers
pub mod Literals
pub mod Parts
pub mod Longest
pub mod Cutting
pub mod Ascii
