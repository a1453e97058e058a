pub mod Page
pub mod Ascii
pub mod Windows
pub mod Examples
pub mod Computed
pub mod Distinct
pub mod Codes
