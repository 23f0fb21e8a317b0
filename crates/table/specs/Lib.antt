pub mod Shapes
pub mod OneRule
