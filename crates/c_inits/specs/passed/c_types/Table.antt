pub use Rattle.c_types.specs.Table.{size_below, nodes_within, type_of, members_in}
