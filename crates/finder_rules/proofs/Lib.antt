pub mod Determined
pub mod Empty
pub mod Within
