pub mod Limited
pub mod literal_laws
