pub mod kind
pub mod place
