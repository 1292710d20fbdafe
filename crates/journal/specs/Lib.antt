pub mod Listable
pub mod Listing
pub mod Numbered
pub mod Shown
pub mod Touching
