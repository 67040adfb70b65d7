pub use Rattle.c_inits.specs.Made.{shape_for, Part, TagParts}
