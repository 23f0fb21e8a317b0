pub mod Laws
pub mod Sequence
pub mod Outcome
