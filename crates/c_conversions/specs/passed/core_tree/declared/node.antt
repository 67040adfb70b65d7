pub mod Node
pub mod Unit
pub mod NodeKind
pub mod Op
pub mod Entity
