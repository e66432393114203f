pub mod Lines
pub mod Outcomes
pub mod Recorded
