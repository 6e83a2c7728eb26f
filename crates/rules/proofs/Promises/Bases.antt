-- Letters and the base: a letter that is heard is true, and what the base then does.
pub mod Letters
pub mod Turns
pub mod Ticked
