pub mod Feeds
pub mod Serving
pub mod Words
pub mod Failure
