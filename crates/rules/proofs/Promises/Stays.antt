-- What one device does in a tick, in terms of its stay alone: no base, no other device.
pub mod Stay
pub mod Moves
pub mod Hears
pub mod Ticked
pub mod Steps
