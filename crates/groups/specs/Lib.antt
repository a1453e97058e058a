pub mod Faults
pub mod Stack
pub mod Groups
