pub mod Stores
pub mod Systems
pub mod Boxes
pub mod Calls
pub mod Rows
pub mod RowLaws
