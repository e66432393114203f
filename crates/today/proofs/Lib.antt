pub mod ByFlow
pub mod Meaning
