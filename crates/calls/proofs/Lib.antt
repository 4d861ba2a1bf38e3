pub mod Built
pub mod Transposes
pub mod Linearity
