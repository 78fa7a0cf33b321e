pub mod Laws
pub mod Packed
