mod Joined
pub mod OneReading
mod Spots
mod Stores
mod Telling
