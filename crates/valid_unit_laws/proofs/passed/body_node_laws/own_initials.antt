pub mod Own
