pub mod Sent
pub mod Engaged
pub mod Turned
