pub mod Kept
pub mod Takers
pub mod Told
