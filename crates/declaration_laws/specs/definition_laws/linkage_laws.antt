pub mod Linked
pub mod PassedOn
pub mod Origins
