pub mod KeptLemmas
pub mod PlacedLemmas
pub mod SliceLemmas
pub mod AroundLemmas
pub mod NumberingLemmas
pub mod FrameLemmas
pub mod RangeLemmas
