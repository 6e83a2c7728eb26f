pub mod Decimal
pub mod Laid
pub mod Theorems
