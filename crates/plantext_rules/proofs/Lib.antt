pub mod Numbers
pub mod Fields
pub mod Lines
pub mod Devices
pub mod Texts
pub mod Cases
