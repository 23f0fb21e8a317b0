pub mod Books
pub mod PairLaws
pub mod BenchCases
pub mod Used
pub mod Rows
pub mod Accepted
pub mod NodeValues
pub mod Satisfaction
