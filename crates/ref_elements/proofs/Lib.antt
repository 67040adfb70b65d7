pub mod SameTypes
pub mod Mapped
