pub mod Ranged
pub mod RangedNodes
pub mod Words
