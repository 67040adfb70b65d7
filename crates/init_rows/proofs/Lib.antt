pub mod ObjectLaws
pub mod Turned
pub mod TypeLaws
pub mod RowLaws
pub mod LiteralLaws
pub mod Own
pub mod JoinedLaws
