pub mod function_storage
