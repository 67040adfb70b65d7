pub mod case_types
