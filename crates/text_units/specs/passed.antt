pub mod c_lower
