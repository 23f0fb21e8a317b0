pub mod Table
pub mod Flat
pub mod Extension
pub mod OneToOne
