pub mod Forms
pub mod Said
pub mod File
pub mod Literals
pub mod Owning
pub mod Reading
