pub mod EveryKind
pub mod Worked
pub mod Needed
