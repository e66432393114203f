pub mod Reading
pub mod Places
pub mod Meaning
pub mod Framing
