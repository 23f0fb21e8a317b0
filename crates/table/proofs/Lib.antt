pub mod Shapes
pub mod OneRule
pub mod Names
