-- The pointers that a row puts into cells are in the rows of their places.
use Rattle.std.proofs.Common.{◌≡◌, ℕ, Bool, true, false, cond, List, [], ◌∷◌, ◌++◌, filter, map, Option, Some, None, slice_get, refl, sym, subst}
use Rattle.c_types.specs.declared.term.PathStep.{PathStep}
use Rattle.c_types.specs.Trees.{Ctype, VoidType, BoolType, IntegerType, FloatingType, VaListType, PointerTo, ArrayOf, FunctionFrom, StructureOf, UnionOf}
use Rattle.sol_model.specs.declared.system.System.{System}
use Rattle.obj_space.specs.Spots.{Reached, part_at}
use Rattle.ref_cells.specs.declared.cells.Cell.{Cell}
use Rattle.ref_cells.specs.declared.instance.Instance.{Instance}
use Rattle.ref_cells.specs.Cells.{CellList, joined}
use Rattle.ref_cells.specs.Wholes.{whole_of}
use Rattle.ref_elements.specs.Outcomes.{is_pointing, place_in, pointers_in}
use Rattle.ref_elements.specs.Parts.{Parts, pointers_of}
use Rattle.covering_laws.specs.covered_memory.Cells.{EachCell}
use Rattle.covering_laws.specs.covered_memory.Spots.{spot, whole_part, IsFurther}
use Rattle.covering_laws.specs.covered_memory.Covered.{Sets, CellIn, row_by, pointer_row, object_row, further_row, cell_row, InstanceIn, Extends}
use Rattle.covering_laws.specs.covered_memory.Demands.{Grounds}
use Rattle.covering_laws.specs.covered_library.Calls.{instance_row, StoresIn}
use Rattle.c_types.specs.declared.key.ObjectKey.{ObjectKey}
use Rattle.c_types.specs.declared.key.ObjectKey.TheVariants.{Varargs as VarargsKey, Outside as OutsideKey, Entity as EntityKey, Text as TextKey, Call as CallKey, Library as LibraryKey, Star as StarKey, Function as FunctionKey}
use Rattle.covering_laws.proofs.covered_memory.Anchors.{spot_is}
use Rattle.covering_laws.proofs.covered_memory.Cells.{each_change}
use Rattle.covering_laws.proofs.covered_memory.Changes.{PartsIn}
use Rattle.covering_laws.proofs.covered_memory.Puts.{part_along}
use Rattle.covering_laws.proofs.covered_memory.Stays.{cell_from_none, cell_stays, further_spot}

module _ (g : Sets) (memory : List Instance) where
  by_type : (t : Ctype) (k : ℕ) (c : Cell) → CellIn g memory (row_by t k) c → CellIn g memory (Some k) c
  by_type (PointerTo to) k c h = h
  by_type VoidType k c h = cell_from_none g memory (Some k) c h
  by_type BoolType k c h = cell_from_none g memory (Some k) c h
  by_type (IntegerType size rank signed) k c h = cell_from_none g memory (Some k) c h
  by_type FloatingType k c h = cell_from_none g memory (Some k) c h
  by_type VaListType k c h = h
  by_type (ArrayOf of n) k c h = cell_from_none g memory (Some k) c h
  by_type (FunctionFrom x y z) k c h = cell_from_none g memory (Some k) c h
  by_type (StructureOf tag) k c h = cell_from_none g memory (Some k) c h
  by_type (UnionOf tag) k c h = cell_from_none g memory (Some k) c h

  pub stores_append : (xs ys : List (Cell × Cell)) → StoresIn g memory xs → StoresIn g memory ys → StoresIn g memory (xs ++ ys)
  stores_append [] ys hx hy = hy
  stores_append (x ∷ xs) ys hx hy = (hx.0, stores_append xs ys hx.1 hy)

  -- the pointers among covered cells of an instance
  pub pointers_stored : (i : ℕ) (b : Instance) → slice_get memory i ≡ Some b → (cells : CellList) → EachCell (λ p c. CellIn g memory (spot g.table g.space b.key p) c) cells → StoresIn g memory (pointers_in i cells)
  pointers_stored i b b_is [] h = tt
  pointers_stored i b b_is (e ∷ rest) h = by (is_pointing e.1) (pointers_stored i b b_is rest h.1)
    where
      by : (t : Bool) → StoresIn g memory (pointers_in i rest) → StoresIn g memory (map (λ x. (place_in i x.0, x.1)) (cond t (e ∷ filter (λ x. is_pointing x.1) rest) (filter (λ x. is_pointing x.1) rest)))
      by true more = (subst (λ (o : Option Instance). CellIn g memory (instance_row g e.0 o) e.1) (sym b_is) h.0, more)
      by false more = more

  each_joined : (P : List PathStep → Cell → Type 0) (path : List PathStep) (xs : CellList) → EachCell (λ p c. P (path ++ p) c) xs → EachCell P (joined path xs)
  each_joined P path [] h = tt
  each_joined P path (e ∷ rest) h = (h.0, each_joined P path rest h.1)

module _ (g : Sets) (system : System) (grounds : Grounds g.table g.space system) (memory : List Instance) where
  -- what is covered at a part of an instance is covered at the part's location
  pub cell_spot : (inst : Instance) (h : InstanceIn g memory inst) (path : List PathStep) (c : Cell)
      → CellIn g memory (pointer_row (object_row h.location.content h.first) (part_at g.table (whole_part (whole_of g.table inst)) path)) c → CellIn g memory (spot g.table g.space inst.key path) c
  cell_spot inst h path c e = by (part_at g.table (whole_part (whole_of g.table inst)) path) refl e
    where
      by : (o : Option Reached) → part_at g.table (whole_part (whole_of g.table inst)) path ≡ o → CellIn g memory (pointer_row (object_row h.location.content h.first) o) c → CellIn g memory (spot g.table g.space inst.key path) c
      by None o_is f = cell_from_none g memory (spot g.table g.space inst.key path) c f
      by (Some r) o_is f =
          subst (λ (o : Option ℕ). CellIn g memory o c) (sym (spot_is g.table g.space system grounds inst.key h.first h.location h.first_is h.location_is (whole_of g.table inst) h.shape path r o_is))
          (by_type g memory r.ty (object_row h.location.content h.first r.node) c f)

  -- the parts that are put into an instance, once they are there
  pub parts_stored : (x : Instance) (h : InstanceIn g memory x) (after : List Instance) → Extends g memory after → (i : ℕ) (b : Instance) → slice_get after i ≡ Some b → b.key ≡ x.key → (parts : Parts)
      → PartsIn g system grounds memory (object_row h.location.content h.first) (whole_part (whole_of g.table x)) parts → StoresIn g after (pointers_of i parts)
  parts_stored x h after extends i b b_is key [] put = tt
  parts_stored x h after extends i b b_is key (part ∷ rest) put =
      stores_append g after (pointers_in i (joined part.0 part.1)) (pointers_of i rest)
      (pointers_stored g after i b b_is (joined part.0 part.1)
      (each_joined g after (λ p c. CellIn g after (spot g.table g.space b.key p) c) part.0 part.1
      (each_change (λ p c. CellIn g memory (pointer_row (object_row h.location.content h.first) (part_at g.table (part_at g.table (whole_part (whole_of g.table x)) part.0) p)) c)
      (λ p c. CellIn g after (spot g.table g.space b.key (part.0 ++ p)) c) part.1
      (λ p c e. subst (λ (k : ObjectKey). CellIn g after (spot g.table g.space k (part.0 ++ p)) c) (sym key)
      (cell_stays g memory after extends (spot g.table g.space x.key (part.0 ++ p)) c
      (cell_spot x h (part.0 ++ p) c
      (subst (λ (o : Option Reached). CellIn g memory (pointer_row (object_row h.location.content h.first) o) c) (sym (part_along g.table (whole_part (whole_of g.table x)) part.0 p)) e)))) put.0)))
      (parts_stored x h after extends i b b_is key rest put.1)

  -- what is covered in an instance is covered at its place
  own_spot : (inst : Instance) (h : InstanceIn g memory inst) (path : List PathStep) (c : Cell) → CellIn g memory (cell_row g.table inst h.location.content h.first path) c → CellIn g memory (spot g.table g.space inst.key path) c
  own_spot inst h path c e = by inst.key (λ f. further_spot g memory inst h (h.further f).1 path) e
    where
      plain : CellIn g memory (pointer_row (object_row h.location.content h.first) (part_at g.table (whole_part (whole_of g.table inst)) path)) c → CellIn g memory (spot g.table g.space inst.key path) c
      plain x = cell_spot inst h path c x

      by : (key : ObjectKey) → (IsFurther key → spot g.table g.space inst.key path ≡ Some h.first)
          → CellIn g memory (further_row key h.first (pointer_row (object_row h.location.content h.first) (part_at g.table (whole_part (whole_of g.table inst)) path))) c → CellIn g memory (spot g.table g.space inst.key path) c
      by (VarargsKey n) at x = subst (λ (o : Option ℕ). CellIn g memory o c) (sym (at tt)) x
      by (EntityKey n) at x = plain x
      by (TextKey n) at x = plain x
      by (CallKey n) at x = plain x
      by (LibraryKey n) at x = plain x
      by (StarKey n) at x = plain x
      by OutsideKey at x = plain x
      by (FunctionKey n) at x = plain x

  -- the cells of an instance that is covered
  pub own_stored : (inst : Instance) (h : InstanceIn g memory inst) (after : List Instance) → Extends g memory after → (i : ℕ) (b : Instance) → slice_get after i ≡ Some b → b.key ≡ inst.key → StoresIn g after (pointers_in i inst.cells)
  own_stored inst h after extends i b b_is key =
      pointers_stored g after i b b_is inst.cells
      (each_change (λ p c. CellIn g memory (cell_row g.table inst h.location.content h.first p) c)
      (λ p c. CellIn g after (spot g.table g.space b.key p) c) inst.cells
      (λ p c e. subst (λ (k : ObjectKey). CellIn g after (spot g.table g.space k p) c) (sym key) (cell_stays g memory after extends (spot g.table g.space inst.key p) c (own_spot inst h p c e))) h.cells)
