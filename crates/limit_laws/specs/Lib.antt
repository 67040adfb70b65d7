pub mod Limits
pub mod literal_laws
pub mod struct_laws
pub mod member_laws
