pub mod Texts
pub mod Keys
pub mod KeyTests
pub mod Found
pub mod Laws
