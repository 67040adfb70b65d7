pub mod Values
pub mod Items
pub mod Changes
pub mod ref_types
pub mod run_words
