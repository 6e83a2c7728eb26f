pub mod Piece
pub mod Theorems
