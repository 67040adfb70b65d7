pub mod Report
pub mod Outside
pub mod Laws
