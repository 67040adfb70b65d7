pub mod parameter_bodies
pub mod lasting_literals
pub mod unlinked_laws
