-- The members that a world sees are those of its table.
use Rattle.std.proofs.Common.{◌≡◌, refl}
use Rattle.c_types.specs.Trees.{Ctype, VoidType, BoolType, IntegerType, FloatingType, VaListType, PointerTo, ArrayOf, FunctionFrom, StructureOf, UnionOf}
use Rattle.c_types.specs.Table.{Table}
use Rattle.c_senses.specs.World.{World, members_of}
use Rattle.c_operators.specs.c_members.Worlds.{IsWorldOf, members_in_type, parts_in}

pub members_are : (w : World) (table : Table) (t : Ctype) → IsWorldOf w table → members_of w t ≡ parts_in table (members_in_type table t)
members_are w table VoidType h = refl
members_are w table BoolType h = refl
members_are w table (IntegerType size rank signed) h = refl
members_are w table FloatingType h = refl
members_are w table VaListType h = refl
members_are w table (PointerTo to) h = refl
members_are w table (ArrayOf of length) h = refl
members_are w table (FunctionFrom result parameters form) h = refl
members_are w table (StructureOf tag) h = h.members tag
members_are w table (UnionOf tag) h = h.members tag
