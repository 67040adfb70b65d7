pub mod TypeLemmas
pub mod ListLemmas
pub mod Demanded
pub mod Laws
pub mod OwnedLemmas
pub mod Agreeing
pub mod CallLemmas
pub mod StartLemmas
