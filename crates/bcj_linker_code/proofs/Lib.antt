pub mod Parted
pub mod Encoded
pub mod Words
pub mod Objects
pub mod Symbols
pub mod StartCode
