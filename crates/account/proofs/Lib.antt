pub mod Accounts
mod Closings
pub mod Messages
mod Numbers
mod Openings
mod Readers
mod Segments
mod Tips
