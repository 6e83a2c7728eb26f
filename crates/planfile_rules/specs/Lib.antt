pub mod File
pub mod Writing
pub mod Worked
pub mod Theorems
