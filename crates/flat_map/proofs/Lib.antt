pub mod Closes
pub mod Entries
pub mod Puts
