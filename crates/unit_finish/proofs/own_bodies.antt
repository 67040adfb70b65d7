pub mod Found
mod Items
