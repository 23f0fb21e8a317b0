pub mod ByKind
pub mod Sizes
pub mod Simplify
pub mod OneNode
pub mod Rules
pub mod Extensions
pub mod Demand3
pub mod BenchCases
