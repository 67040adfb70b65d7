pub mod c_consts
pub mod c_inits
