pub mod Rule
pub mod Program
pub mod Image
pub mod Rows
pub mod Literals
pub mod Writable
