pub mod EveryView
pub mod Texts
pub mod Filled
pub mod Most
pub mod Longest
pub mod Front
