pub mod AgreementLemmas
pub mod PlaceLemmas
