pub mod Carrying
pub mod Moving
