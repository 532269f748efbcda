pub mod Circles
pub mod Steps
pub mod Firsts
pub mod RoundLemmas
