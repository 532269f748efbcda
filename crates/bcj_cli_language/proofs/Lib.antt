pub mod PlainLemmas
mod Rows
