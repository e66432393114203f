pub mod Widths
pub mod Specification
pub mod Digits
pub mod Lines
pub mod Run
pub mod Demands
pub mod Products
