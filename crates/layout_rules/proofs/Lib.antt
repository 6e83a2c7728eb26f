pub mod Widths
pub mod Numbers
pub mod Forms
pub mod Yards
pub mod Malformed
pub mod Bytes
