mod Finding
mod Lines
pub mod Going
mod PrintedLines
mod Pairs
mod Ending
pub mod Recorded
