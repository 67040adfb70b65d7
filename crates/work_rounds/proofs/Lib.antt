pub mod Gifts
pub mod Rings
