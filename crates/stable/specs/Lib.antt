pub mod Subset
pub mod Number
pub mod Testable
pub mod Listing
pub mod Bitmap
