mod Answering
mod Feeding
pub mod Endings
pub mod Framed
