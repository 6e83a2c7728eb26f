pub mod Fields
pub mod Letters
pub mod Rolls
pub mod Standing
pub mod Headers
pub mod Cases
pub mod Theorems
