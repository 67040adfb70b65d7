pub mod Growing
pub mod Once
pub mod Reading
pub mod SameTypes
pub mod Failing
pub mod BitFields
pub mod IntegerTypes
