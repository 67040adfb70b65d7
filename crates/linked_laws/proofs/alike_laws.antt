pub mod Deciding
mod Together
pub mod Entities
pub mod Origins
pub mod Plain
