pub mod Value
pub mod Formula
pub mod Atoms
pub mod HereAndThere
pub mod AnswerSet
