-- What this crate passes on, from those below it to those above it.
pub use Rattle.c_senses.specs.Given.{Fits}
pub use Rattle.c_senses.specs.Tree.{Source}
pub use Rattle.c_senses.specs.Tags.{completed_from, members_under}
pub use Rattle.c_senses.specs.Rows.{AreSenses, world_at}
pub use Rattle.c_senses.specs.Sense.{Sense, sense_in}
pub use Rattle.c_senses.specs.Right.{Declared, InitialisesOnce, IsBody, IsDeclaredAt, IsEntityOf, KeysRight}
pub use Rattle.c_senses.specs.Right.{Numbering, TagsDiffer, is_tag}
pub use Rattle.c_senses.specs.passed.c_consts.Core.{Core, InOrder, Of}
