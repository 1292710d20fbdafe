pub mod Account
pub mod Keys
pub mod Kinds
pub mod Laws
pub mod Values
pub mod Wording
