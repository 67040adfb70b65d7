-- What this crate passes on, from those below it to those above it.
pub use Rattle.c_mentions.specs.Syntax.{nodes_of}
pub use Rattle.c_mentions.specs.Settings.{standings}
