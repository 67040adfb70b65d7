pub mod sense_laws
