pub mod ChangedFrames
pub mod Owned
pub mod Arguments
pub mod ListedTypes
pub mod OpenedItems
