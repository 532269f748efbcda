pub mod WalkLemmas
pub mod TypeLemmas
pub mod LengthLemmas
pub mod RangeLemmas
pub mod FaultLemmas
pub mod StepLemmas
pub mod Rulesets
pub mod LawLemmas
