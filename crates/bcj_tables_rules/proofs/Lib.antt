pub mod Lawful
pub mod Descriptions
pub mod Spelled
pub mod Conclusions
pub mod DescriptorLaws
