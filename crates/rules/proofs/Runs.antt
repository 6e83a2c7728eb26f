-- "Run": a run in two parts; what the bytes show.
pub mod Formed
pub mod Splits
pub mod Engaged
