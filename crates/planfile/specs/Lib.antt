pub mod Numbers
pub mod Sections
pub mod Pairs
pub mod Plans
pub mod Written
pub mod Faults
pub mod FileChecks
pub mod Kept
