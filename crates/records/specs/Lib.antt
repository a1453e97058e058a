pub mod Kinds
pub mod Faults
pub mod Apart
pub mod Shown
pub mod Laws
pub mod Cursor
pub mod Examples
