pub mod Programs
pub mod passed
