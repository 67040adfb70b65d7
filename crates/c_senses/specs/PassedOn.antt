-- What this crate passes on, from those below it to those above it.
pub use Rattle.c_inits.specs.Tables.{part_of, part_with, parts_in}
pub use Rattle.c_inits.specs.Made.{Part}
pub use Rattle.c_scope.specs.declared.kinds.Declared.{Declared}
pub use Rattle.c_consts.specs.Core.{Core, Of, kind_of}
