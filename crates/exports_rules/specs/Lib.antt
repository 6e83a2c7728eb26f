pub mod Asked
pub mod Calls
pub mod Theorems
