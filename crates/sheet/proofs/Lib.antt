pub mod Puts
pub mod Renders
pub mod Terminals
