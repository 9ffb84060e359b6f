pub mod Limits
pub mod Trees
pub mod Vertices
pub mod Images
pub mod Walks
pub mod Reading
pub mod Listings
