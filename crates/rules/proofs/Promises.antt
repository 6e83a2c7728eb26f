-- Demand 3, proved: what a device does in a tick (Stays), what the base does (Bases), the invariant that every tick keeps
-- (Safe), and what follows: for one device over time (History), for pairs (Spacing), the base (Rest), the bytes, the blade.
pub mod Stays
pub mod Bases
pub mod Safe
pub mod History
pub mod Spacing
pub mod Rest
pub mod Bytes
pub mod Blade
