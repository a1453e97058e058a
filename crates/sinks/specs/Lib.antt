pub mod Puts
pub mod Buffer
pub mod Cards
pub mod Pile
pub mod Faults
