pub mod own_initials
