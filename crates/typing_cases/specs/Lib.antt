pub mod tagged
