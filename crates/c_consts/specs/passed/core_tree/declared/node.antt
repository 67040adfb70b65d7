pub mod NodeKind
pub mod Linkage
pub mod Storage
pub mod Op
pub mod Node
pub mod Entity
pub mod Unit
