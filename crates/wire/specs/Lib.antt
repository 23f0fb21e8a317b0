pub mod Wire
pub mod Sequence
pub mod Outcome
