pub mod Laws
pub mod Lengths
pub mod Literal
pub mod Packed
pub mod Quoting
pub mod Shown
pub mod Text
