-- "One tick": what a tick does to one device; well formed again; valid records.
pub mod Views
pub mod Keeps
pub mod Valid
