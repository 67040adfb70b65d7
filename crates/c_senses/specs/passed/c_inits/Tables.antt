pub use Rattle.c_inits.specs.Tables.{part_of, parts_in}
