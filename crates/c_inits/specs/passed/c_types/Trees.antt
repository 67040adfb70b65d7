pub use Rattle.c_types.specs.Trees.{Ctype, VoidType, BoolType, IntegerType, FloatingType, VaListType, PointerTo}
pub use Rattle.c_types.specs.Trees.{ArrayOf, FunctionFrom, StructureOf, UnionOf, Ctypes, NoTypes, MoreTypes}
