pub mod Written
pub mod Limited
