pub mod Bounds
pub mod Far
