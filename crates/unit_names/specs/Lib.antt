pub mod Internal
pub mod Choosing
pub mod Typing
pub mod Storages
pub mod Bodies
pub mod Entries
pub mod Firsts
pub mod Asked
