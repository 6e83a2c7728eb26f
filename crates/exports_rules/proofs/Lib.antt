pub mod Sizes
pub mod Zero
pub mod Lengths
pub mod Determined
pub mod Refused
pub mod Chained
pub mod Told
