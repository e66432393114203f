pub mod Feeds
pub mod Keeping
