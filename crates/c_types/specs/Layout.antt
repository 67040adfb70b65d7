-- Sizes, alignments and node trees.
use Rattle.std.specs.Prelude.{ℕ, ◌+◌, ◌-◌, ◌*◌, ◌/◌, max, cond, eqb, List, [], ◌∷◌, ◌++◌, Option, Some, None, map}
use Rattle.c_types.specs.Trees.{Ctype, VoidType, BoolType, IntegerType, FloatingType, VaListType, PointerTo}
use Rattle.c_types.specs.Trees.{ArrayOf, FunctionFrom, StructureOf, UnionOf}

-- what a type takes: its bytes, its alignment, and the types of its nodes in preorder
pub record Extent : Type 0 where
  pub size : ℕ
  pub align : ℕ
  pub nodes : List Ctype

-- the next multiple of a step
abbrev pub multiple : ℕ → ℕ → ℕ
multiple size step = ((size + (step - 1)) / step) * step

-- the next multiple of an alignment, which is at least 1
abbrev pub round_up : ℕ → ℕ → ℕ
round_up size align = multiple size (max align 1)

-- the members' extents of a tag, where it is complete
abbrev pub Look : Type 0
Look = ℕ → Option (List Extent)

abbrev pub scalar : Ctype → ℕ → Option Extent
scalar t size = Some (record { size = size; align = size; nodes = t ∷ [] })

-- an array: its element's extent, so many times
abbrev pub repeated : ℕ → Option Extent → Option Extent
repeated n None = None
repeated n (Some e) = Some (record e { size = n * e.size })

-- one member more behind those so far
abbrev pub beside : Extent → Extent → Extent
beside so_far m = record {
  size = round_up so_far.size m.align + m.size;
  align = max so_far.align m.align;
  nodes = so_far.nodes ++ m.nodes;
}

-- the nodes of these, one after another
abbrev pub all_nodes : List Extent → List Ctype
all_nodes [] = []
all_nodes (e ∷ rest) = e.nodes ++ all_nodes rest

abbrev pub placed : Extent → List Extent → Extent
placed so_far [] = so_far
placed so_far (m ∷ rest) = placed (beside so_far m) rest

abbrev pub padded : Extent → Extent
padded e = record e { size = round_up e.size e.align }

-- what has no members yet
abbrev pub first_extent : Ctype → Extent
first_extent t = record { size = 0; align = 1; nodes = t ∷ [] }

abbrev pub structure_of : Ctype → List Extent → Extent
structure_of t members = padded (placed (first_extent t) members)

-- one member more over those so far
abbrev pub above : Extent → Extent → Extent
above so_far m = record so_far { size = max so_far.size m.size; align = max so_far.align m.align }

abbrev pub overlaid : Extent → List Extent → Extent
overlaid so_far [] = so_far
overlaid so_far (m ∷ rest) = overlaid (above so_far m) rest

abbrev pub union_of : Ctype → List Extent → Extent
union_of t members = padded (overlaid (first_extent t) members)

abbrev pub of_members : (List Extent → Extent) → Option (List Extent) → Option Extent
of_members f None = None
of_members f (Some members) = Some (f members)

-- a type's extent, or none for void, functions and incomplete types
abbrev pub extent_of : Look → Ctype → Option Extent
extent_of look VoidType = None
extent_of look BoolType = scalar BoolType 1
extent_of look (IntegerType size rank signed) = scalar (IntegerType size rank signed) size
extent_of look FloatingType = scalar FloatingType 16
extent_of look VaListType = scalar VaListType 8
extent_of look (PointerTo to) = scalar (PointerTo to) 8
extent_of look (ArrayOf of None) = None
extent_of look (ArrayOf of (Some n)) = repeated n (extent_of look of)
extent_of look (FunctionFrom result parameters form) = None
extent_of look (StructureOf tag) = of_members (structure_of (StructureOf tag)) (look tag)
extent_of look (UnionOf tag) = of_members (union_of (UnionOf tag)) (look tag)

-- a member's extent: a flexible array counts for its alignment alone
abbrev pub flexible : Option Extent → Extent
flexible None = record { size = 0; align = 1; nodes = [] }
flexible (Some e) = record { size = 0; align = e.align; nodes = [] }

abbrev pub element_extent : Look → Ctype → Option Extent
element_extent look (ArrayOf of length) = extent_of look of
element_extent look t = None

abbrev pub or_flexible : Option Extent → Option Extent → Extent
or_flexible None element = flexible element
or_flexible (Some e) element = e

abbrev pub member_extent : Look → Ctype → Extent
member_extent look t = or_flexible (extent_of look t) (element_extent look t)

-- the completed tags in order, each with its members' types
pub record Completed : Type 0 where
  pub tag : ℕ
  pub types : List Ctype

-- the members' extents that a list of tags has for one of them
abbrev pub looked_up : List (ℕ × List Extent) → Look
looked_up [] tag = None
looked_up (entry ∷ rest) tag = cond (eqb entry.0 tag) (Some entry.1) (looked_up rest tag)

-- each completed tag's members' extents, over the tags that were completed before it
abbrev pub laid_out : List (ℕ × List Extent) → List Completed → List (ℕ × List Extent)
laid_out done [] = done
laid_out done (c ∷ rest) = laid_out (done ++ (c.tag, map (member_extent (looked_up done)) c.types) ∷ []) rest
