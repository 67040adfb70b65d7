pub mod share_laws
pub mod row_classes
