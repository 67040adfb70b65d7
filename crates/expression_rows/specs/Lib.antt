pub mod Fitting
pub mod Built
pub mod Readable
pub mod c_rows
pub mod whole_rows
