pub mod EveryKind
pub mod Runs
pub mod Worked
pub mod Needed
