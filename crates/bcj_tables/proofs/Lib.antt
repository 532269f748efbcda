pub mod Ascii
pub mod DescriptorLoops
pub mod MemberTurns
pub mod Tests
pub mod Turns
pub mod Wholes
