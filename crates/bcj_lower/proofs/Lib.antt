pub mod StepLemmas
pub mod TableLemmas
pub mod LabelLemmas
pub mod WordLemmas
pub mod EmittedLemmas
pub mod Rules
