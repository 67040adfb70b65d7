pub mod member_laws
