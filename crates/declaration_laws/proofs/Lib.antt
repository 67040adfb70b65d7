pub mod passed
