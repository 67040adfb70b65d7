pub mod Wholeness
