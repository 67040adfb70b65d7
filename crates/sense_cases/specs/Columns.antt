-- Entities and tags by the columns of the names that declare them.
use Rattle.std.specs.Prelude.{ℕ, map}
use Rattle.pta_base.specs.declared.place.Place.{Place}
use Rattle.c_types.specs.Trees.{Ctype, Ctypes, NoTypes, MoreTypes, VoidType, BoolType, IntegerType, FloatingType}
use Rattle.c_types.specs.Trees.{VaListType, PointerTo, ArrayOf, FunctionFrom, StructureOf, UnionOf}
use Rattle.core_tree.specs.declared.node.NodeKind.{NodeKind}
use Rattle.core_tree.specs.declared.node.NodeKind.TheVariants.{Named, Literal, FunctionName, Initialise, Block, For}
use Rattle.c_consts.specs.Core.{Core, Cores, Of, NoCores, MoreCores}
use Rattle.c_senses.specs.Tree.{Source, place_at}
use Rattle.c_senses.specs.Sense.{Sense, IsCore, IsType, IsRun, IsInitial}

-- the place in a column of the only line
abbrev pub at : ℕ → Place
at column = record { unit = 0; line = 1; column = column }

module _ (s : Source) where
  -- the column of a node's first token
  abbrev pub column_of : ℕ → ℕ
  column_of i = (place_at s i).column

  abbrev mutual
    pub type_by : Ctype → Ctype
    type_by VoidType = VoidType
    type_by BoolType = BoolType
    type_by (IntegerType size rank signed) = IntegerType size rank signed
    type_by FloatingType = FloatingType
    type_by VaListType = VaListType
    type_by (PointerTo to) = PointerTo (type_by to)
    type_by (ArrayOf of length) = ArrayOf (type_by of) length
    type_by (FunctionFrom result parameters form) = FunctionFrom (type_by result) (types_by parameters) form
    type_by (StructureOf tag) = StructureOf (column_of tag)
    type_by (UnionOf tag) = UnionOf (column_of tag)

    pub types_by : Ctypes → Ctypes
    types_by NoTypes = NoTypes
    types_by (MoreTypes t rest) = MoreTypes (type_by t) (types_by rest)

  abbrev pub kind_by : NodeKind → NodeKind
  kind_by (Named e) = Named (column_of e)
  kind_by (Literal e) = Literal (column_of e)
  kind_by (FunctionName e) = FunctionName (column_of e)
  kind_by (Initialise e paths) = Initialise (column_of e) paths
  kind_by (Block es) = Block (map column_of es)
  kind_by (For es condition after) = For (map column_of es) condition after
  kind_by kind = kind

  abbrev mutual
    pub core_by : Core → Core
    core_by (Of kind place type under) = Of (kind_by kind) place (type_by type) (cores_by under)

    pub cores_by : Cores → Cores
    cores_by NoCores = NoCores
    cores_by (MoreCores c rest) = MoreCores (core_by c) (cores_by rest)

  abbrev pub sense_by : Sense → Sense
  sense_by (IsCore c) = IsCore (core_by c)
  sense_by (IsType t) = IsType (type_by t)
  sense_by (IsRun cores) = IsRun (map core_by cores)
  sense_by (IsInitial c length) = IsInitial (core_by c) length
  sense_by sense = sense
