pub mod Least
pub mod Lines
pub mod Verdict
