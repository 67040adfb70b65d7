pub mod Alike
pub mod Pairs
pub mod Counts
pub mod Keys
pub mod RightAlike
