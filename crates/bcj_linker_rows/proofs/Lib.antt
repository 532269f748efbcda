pub mod ListLemmas
pub mod CallLemmas
pub mod HierLemmas
pub mod SlotLemmas
pub mod RowLemmas
pub mod DispatchLemmas
pub mod TableLemmas
pub mod Rules
