pub mod Scoped
