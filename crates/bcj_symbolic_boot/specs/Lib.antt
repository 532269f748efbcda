pub mod BootUnit
