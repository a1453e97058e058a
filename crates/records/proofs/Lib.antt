pub mod Alone
pub mod Series
