pub mod Texts
pub mod Refused
pub mod Shares
pub mod Feeds
pub mod Lowering
pub mod KindLines
