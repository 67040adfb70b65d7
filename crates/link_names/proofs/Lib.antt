pub mod Declaring
pub mod FirstLemmas
pub mod Gathering
pub mod Saying
pub mod Starting
pub mod Missing
pub mod Making
pub mod Ordering
