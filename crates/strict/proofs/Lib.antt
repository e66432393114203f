pub mod Strict
pub mod Run
