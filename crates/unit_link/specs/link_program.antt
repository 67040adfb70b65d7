pub mod Merging
pub mod Checked
pub mod Alike
pub mod Rows
pub mod Ready
