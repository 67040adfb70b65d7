pub mod owners_known
pub mod bodies_fit
