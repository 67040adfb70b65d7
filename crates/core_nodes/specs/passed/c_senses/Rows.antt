pub use Rattle.c_senses.specs.Rows.{AreSenses, world_at, at_its_name, declarator_row, declaring_row, row_of, row}
