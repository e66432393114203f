pub mod Additions
pub mod Storing
