pub mod Small
pub mod Unions
pub mod Laws
