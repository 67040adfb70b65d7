pub mod Trees
pub mod declared
pub mod Layout
pub mod Table
