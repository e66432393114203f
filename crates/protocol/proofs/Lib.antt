pub mod Laws
pub mod Widths
pub mod Products
pub mod Spelling
pub mod Saying
pub mod Exact
pub mod ProductBytes
pub mod Demands
