pub mod Sweeps
pub mod Bytes
pub mod Arrives
pub mod Ready
pub mod Pass
pub mod OneTick
pub mod Loop
pub mod Answers
