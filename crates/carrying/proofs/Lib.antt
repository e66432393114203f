pub mod Widening
pub mod Carrying
pub mod Moving
