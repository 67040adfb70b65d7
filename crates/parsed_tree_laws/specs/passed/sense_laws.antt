pub mod Senses
pub mod Sound
pub mod Laws
