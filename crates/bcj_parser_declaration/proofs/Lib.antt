pub mod Lists
pub mod ModifierTurns
pub mod UnitTurns
