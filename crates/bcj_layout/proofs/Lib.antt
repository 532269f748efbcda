pub mod MemberLemmas
mod EntryLemmas
pub mod RowLemmas
pub mod InstanceLemmas
pub mod ObjectLemmas
