-- "Yard and places": a well-formed state, read as facts; the fresh one.
pub mod Formed
pub mod Fresh
