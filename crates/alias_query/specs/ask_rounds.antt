pub mod Said
pub mod Solves
pub mod Tries
