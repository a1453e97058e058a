pub mod Runs
pub mod Fronts
pub mod Items
pub mod Steps
pub mod Texts
pub mod Braces
pub mod Lexed
