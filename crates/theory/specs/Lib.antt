pub mod Book
pub mod Used
pub mod BenchCases
pub mod Image
pub mod Marks
pub mod Rows
pub mod NodeValues
