pub mod Held
pub mod Turns
pub mod Ends
pub mod Passes
