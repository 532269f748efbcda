pub mod Objects
pub mod LaidOut
pub mod MemberPlaces
pub mod EntryPlaces
pub mod RowTypes
