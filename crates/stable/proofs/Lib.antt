pub mod Digits
pub mod Subsets
pub mod Numbers
pub mod Listings
pub mod Steps
pub mod Candidates
pub mod Tests
pub mod Bitmaps
