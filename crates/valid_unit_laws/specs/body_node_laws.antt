pub mod own_initials
pub mod known_names
pub mod parts_named
pub mod known_initials
pub mod parts_initialise
pub mod raised_parts
