pub mod Effects
pub mod ref_alloc
pub mod text_laws
pub mod memory_laws
