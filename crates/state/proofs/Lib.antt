pub mod Devices
pub mod Same
