pub mod Assoc
pub mod Laws
pub mod Maps
