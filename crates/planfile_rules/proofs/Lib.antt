pub mod Trailers
pub mod Slots
pub mod Bodies
pub mod Files
pub mod Written
pub mod GivenBack
pub mod Numbers
pub mod Cases
