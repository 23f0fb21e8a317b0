pub mod Behind
pub mod Promises
pub mod Candidate
pub mod FirstBytes
