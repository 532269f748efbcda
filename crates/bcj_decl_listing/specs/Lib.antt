pub mod Agreement
pub mod Places
