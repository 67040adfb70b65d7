pub mod Made
pub mod Initial
pub mod View
pub mod Tables
