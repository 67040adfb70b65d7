pub mod Positions
pub mod Bodies
pub mod Numbers
pub mod Anew
