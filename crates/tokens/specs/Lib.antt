pub mod Tokens
pub mod Names
pub mod Faults
pub mod Bounds
pub mod Shown
pub mod Examples
