pub mod Bits
pub mod Quiet
