-- The invariant: its clauses over a general device and a general pair, that a tick keeps each of them, and that they hold
-- after every tick of every roll.
pub mod Clauses
pub mod Reach
pub mod Cover
pub mod Nest
pub mod Always
