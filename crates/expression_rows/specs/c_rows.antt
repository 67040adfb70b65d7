pub mod Literals
pub mod Pieces
pub mod Named
pub mod Parts
pub mod Postfix
pub mod Built
pub mod Lists
