pub mod Pieces
pub mod Back
