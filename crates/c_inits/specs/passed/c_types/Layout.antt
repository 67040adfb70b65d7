pub use Rattle.c_types.specs.Layout.{Extent, Look, structure_of, union_of, member_extent, looked_up, laid_out}
pub use Rattle.c_types.specs.Layout.{Completed, extent_of}
