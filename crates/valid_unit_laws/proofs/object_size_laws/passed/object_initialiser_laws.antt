pub mod owners_known
pub mod all_listed
pub mod bodies_fit
