-- "The plan": the table read line by line; accepted exactly, refused exactly.
pub mod Table
pub mod Accepted
pub mod Refused
pub mod Chain
