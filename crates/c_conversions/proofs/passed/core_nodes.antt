pub mod Reading
pub mod SameTypes
pub mod BitFields
