pub mod Made
pub mod ByFlow
