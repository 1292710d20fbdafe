pub mod Texts
pub mod Unpacks
pub mod Lengths
pub mod Literals
pub mod Packs
pub mod Quotes
pub mod Shows
