pub mod Productions
pub mod Words
pub mod Terminals
pub mod PassedOn
pub mod declared
pub mod Reads
