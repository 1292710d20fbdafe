pub mod Area
pub mod Check
pub mod File
pub mod Laws
pub mod Layout
pub mod Opening
pub mod Outcome
pub mod Refusals
