pub mod Parts
pub mod NumberLaws
pub mod StorageLaws
pub mod ValueLaws
pub mod PlacedLaws
pub mod ObjectLaws
pub mod FillingLaws
