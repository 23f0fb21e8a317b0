pub mod Table
pub mod First
pub mod Rows
pub mod Decided
pub mod Outcomes
