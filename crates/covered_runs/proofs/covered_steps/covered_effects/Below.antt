-- What copies of an object's cells point to is what these pointed to.
use Rattle.std.proofs.Common.{ℕ, zero, suc, ◌+◌, ℤ, Bool, true, false, List, [], ◌∷◌, Option, Some, None, min, slice_get}
use Rattle.c_types.specs.declared.term.PathStep.TheVariants.{Index, Member}
use Rattle.c_types.specs.declared.term.TypeId.{TypeId}
use Rattle.c_types.specs.Trees.{Ctype, VoidType, VaListType, PointerTo, ArrayOf, FunctionFrom, StructureOf, UnionOf}
use Rattle.c_types.specs.Table.{Table, type_of, extent_in, size_below}
use Rattle.ref_cells.specs.Wholes.{elements_in}
use Rattle.ref_cells.specs.declared.instance.Instance.{Instance}
use Rattle.ref_cells.specs.Cells.{CellList, under, prefixed}
use Rattle.ref_cells.specs.Values.{zero_cell, blank, cell_in, listed, active, member_types, Fill, elements, members_from, one_member, filled_by, filled_to, filled}
use Rattle.ref_texts.specs.Writing.{text_cells}
use Rattle.ref_lib.specs.ref_alloc.Allocation.{kept_elements}
use Rattle.covering_laws.specs.covered_state.Exists.{NamesBelow, AllBelow}
use Rattle.covering_laws.proofs.covered_memory.Cells.{each_append, each_prefixed, each_under}

module _ (count : ℕ) (table : Table) (marked : Bool) where
  abbrev Keeps : Fill → Type 0
  Keeps fill = (t : Ctype) (cells : CellList) → AllBelow count cells → AllBelow count (fill t cells)

  zero_below : (t : Ctype) → NamesBelow count (zero_cell t)
  zero_below (PointerTo to) = tt
  zero_below VaListType = tt
  zero_below t = tt

  blank_below : (b : Bool) (t : Ctype) → NamesBelow count (blank b t)
  blank_below true t = zero_below t
  blank_below false t = tt

  one_below : (t : Ctype) (cells : CellList) → AllBelow count cells → AllBelow count (([], cell_in marked t cells) ∷ [])
  one_below t [] h = (blank_below marked t, tt)
  one_below t (e ∷ rest) h = (h.0, tt)

  elements_below : (fill : CellList → CellList) → ((cells : CellList) → AllBelow count cells → AllBelow count (fill cells)) → (n : ℕ) (cells : CellList) → AllBelow count cells → AllBelow count (elements fill n cells)
  elements_below fill keeps zero cells h = tt
  elements_below fill keeps (suc n) cells h =
      each_append (λ path cell. NamesBelow count cell) (elements fill n cells) (prefixed (Index n) (fill (under (Index n) cells))) (elements_below fill keeps n cells h)
      (each_prefixed (λ path cell. NamesBelow count cell) (Index n) (fill (under (Index n) cells)) (keeps (under (Index n) cells) (each_under (λ path cell. NamesBelow count cell) (Index n) cells h)))

  members_below : (fill : Fill) → Keeps fill → (k : ℕ) (ts : List Ctype) (cells : CellList) → AllBelow count cells → AllBelow count (members_from fill k ts cells)
  members_below fill keeps k [] cells h = tt
  members_below fill keeps k (t ∷ rest) cells h =
      each_append (λ path cell. NamesBelow count cell) (prefixed (Member k) (fill t (under (Member k) cells))) (members_from fill (k + 1) rest cells)
      (each_prefixed (λ path cell. NamesBelow count cell) (Member k) (fill t (under (Member k) cells)) (keeps t (under (Member k) cells) (each_under (λ path cell. NamesBelow count cell) (Member k) cells h)))
      (members_below fill keeps (k + 1) rest cells h)

  listed_below : (cells : CellList) → AllBelow count cells → AllBelow count (listed cells)
  listed_below [] h = (tt, tt)
  listed_below (e ∷ rest) h = h

  member_below : (fill : Fill) → Keeps fill → (k : ℕ) (o : Option Ctype) (cells : CellList) → AllBelow count cells → AllBelow count (one_member fill k o cells)
  member_below fill keeps k None cells h = tt
  member_below fill keeps k (Some t) cells h =
      each_prefixed (λ path cell. NamesBelow count cell) (Member k) (listed (fill t (under (Member k) cells)))
      (listed_below (fill t (under (Member k) cells)) (keeps t (under (Member k) cells) (each_under (λ path cell. NamesBelow count cell) (Member k) cells h)))

  by_below : (fill : Fill) → Keeps fill → Keeps (filled_by table marked fill)
  by_below fill keeps VoidType cells h = tt
  by_below fill keeps (FunctionFrom result parameters form) cells h = tt
  by_below fill keeps (ArrayOf of None) cells h = tt
  by_below fill keeps (ArrayOf of (Some n)) cells h = elements_below (filled_by table marked fill of) (by_below fill keeps of) n cells h
  by_below fill keeps (StructureOf tag) cells h = members_below fill keeps 0 (member_types table tag) cells h
  by_below fill keeps (UnionOf tag) cells h = member_below fill keeps (active cells) (slice_get (member_types table tag) (active cells)) cells h
  by_below fill keeps t cells h = one_below t cells h

  to_below : (depth : ℕ) → Keeps (filled_to table marked depth)
  to_below zero t cells h = tt
  to_below (suc depth) t cells h = by_below (filled_to table marked depth) (to_below depth) t cells h

  pub filled_below : Keeps (filled table marked)
  unfolding filled
  filled_below t cells h = by_below (filled_to table marked table.tags) (to_below table.tags) t cells h

-- the elements of an object that is made anew with so many bytes
pub kept_below : (count : ℕ) (table : Table) (old : Instance) (bytes : ℕ) (o : Option TypeId) → AllBelow count old.cells → AllBelow count (kept_elements table old bytes o)
kept_below count table old bytes None h = tt
kept_below count table old bytes (Some id) h =
    elements_below count table old.zero (filled table old.zero (type_of table id.0)) (filled_below count table old.zero (type_of table id.0))
    (min (elements_in old.bytes (size_below (extent_in table (type_of table id.0)))) (elements_in bytes (size_below (extent_in table (type_of table id.0))))) old.cells h

-- a text
pub text_below : (count k : ℕ) (text : List ℤ) → AllBelow count (text_cells k text)
text_below count k [] = tt
text_below count k (c ∷ text) = (tt, text_below count (k + 1) text)
