pub mod Sittings
pub mod Calls
pub mod Truth
pub mod Examples
