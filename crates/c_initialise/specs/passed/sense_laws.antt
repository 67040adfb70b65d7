pub mod Senses
pub mod Sound
pub mod Asked
pub mod Laws
pub mod PassedOn
