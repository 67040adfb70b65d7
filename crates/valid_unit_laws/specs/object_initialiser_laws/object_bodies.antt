pub mod Objects
