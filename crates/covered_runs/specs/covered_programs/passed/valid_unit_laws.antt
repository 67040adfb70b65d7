pub mod object_size_laws
