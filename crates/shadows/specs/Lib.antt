pub mod EveryView
pub mod Refusals
pub mod Shadows
pub mod Answers
pub mod Texts
