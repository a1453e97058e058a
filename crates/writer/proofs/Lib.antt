pub mod Appends
pub mod Spellings
pub mod Sound
pub mod Presses
pub mod Answered
pub mod Decorations
