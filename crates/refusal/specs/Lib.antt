pub mod Limits
pub mod Table
pub mod Refusal
pub mod First
pub mod Rows
