pub mod Programs
pub mod library_names
pub mod allocation_laws
pub mod served_worlds
pub mod passed
