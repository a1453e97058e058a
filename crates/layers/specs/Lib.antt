pub mod Layers
pub mod Refusals
