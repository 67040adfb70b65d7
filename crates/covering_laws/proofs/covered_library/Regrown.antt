-- realloc: the elements of the old object are covered in the new one.
use Rattle.std.proofs.Common.{◌≡◌, ℕ, zero, suc, ◌<◌, Bool, true, false, List, [], ◌∷◌, Option, Some, slice_get, Contains, refl, subst}
use Rattle.c_types.specs.declared.term.PathStep.TheVariants.{Index}
use Rattle.c_types.specs.Trees.{Ctype, ArrayOf}
use Rattle.sol_model.specs.declared.system.System.{System}
use Rattle.sol_model.specs.Families.{IsContained}
use Rattle.sol_model.specs.Places.{nodes_of as system_nodes, deep}
use Rattle.obj_space.specs.Spots.{reached, part_at}
use Rattle.row_numbers.specs.Kept.{nodes_of, kept_at}
use Rattle.row_numbers.specs.Numbers.{type_number}
use Rattle.ref_cells.specs.declared.instance.Instance.{Instance}
use Rattle.ref_cells.specs.Cells.{under, prefixed}
use Rattle.ref_cells.specs.Wholes.{whole_of}
use Rattle.ref_cells.specs.Values.{elements, filled}
use Rattle.covering_laws.specs.covered_memory.Cells.{EachCell}
use Rattle.covering_laws.specs.covered_memory.Spots.{whole_part}
use Rattle.covering_laws.specs.covered_memory.Covered.{Sets, CellIn, pointer_row, CellsIn, object_row, InstanceIn}
use Rattle.covering_laws.specs.covered_memory.Demands.{Grounds, IsFew}
use Rattle.covering_laws.proofs.covered_memory.Cells.{each_append, each_prefixed, each_under}
use Rattle.covering_laws.proofs.covered_memory.Stays.{cells_out, typed_plain}
use Rattle.covering_laws.proofs.covered_memory.Access.{Target, filled_in}
use Rattle.covering_laws.proofs.covered_library.Deep.{cells_copied}

module _ (g : Sets) (system : System) (grounds : Grounds g.table g.space system) (memory : List Instance) (old new : Instance) (old_in : InstanceIn g memory old) (new_in : InstanceIn g memory new)
    (t : Ctype) (m n : ℕ) (old_whole : whole_of g.table old ≡ Some (ArrayOf t (Some m))) (new_whole : whole_of g.table new ≡ Some (ArrayOf t (Some n))) (few : IsFew g.table t)
    (counts : (i : ℕ) → kept_at (slice_get (nodes_of g.table t) i) ≡ true → i < system_nodes system (type_number t))
    (joined : (x y : ℕ) → Contains (deep system (object_row new_in.location.content new_in.first 0) (object_row old_in.location.content old_in.first 0)) (x, y) → IsContained g.family y x) where
  abbrev old_row : ℕ → ℕ
  old_row k = object_row old_in.location.content old_in.first k

  abbrev new_row : ℕ → ℕ
  new_row k = object_row new_in.location.content new_in.first k

  old_cells : EachCell (λ p c. CellIn g memory (pointer_row (object_row old_in.location.content old_in.first) (part_at g.table (Some (reached (ArrayOf t (Some m)) 0 false)) p)) c) old.cells
  old_cells =
      subst (λ (w : Option Ctype). EachCell (λ p c. CellIn g memory (pointer_row (object_row old_in.location.content old_in.first) (part_at g.table (whole_part w) p)) c) old.cells) old_whole
      (cells_out g memory old old_in.location.content old_in.first (typed_plain g memory old old_in (ArrayOf t (Some m)) old_whole) old.cells old_in.cells)

  two : Target g system grounds memory (λ l. l ≡ object_row old_in.location.content old_in.first 0) old (Index 0 ∷ [])
  two = record { inside = old_in; whole = ArrayOf t (Some m); whole_is = old_whole; part = reached t 0 false; part_is = refl; has = refl }

  one : Target g system grounds memory (λ l. l ≡ object_row new_in.location.content new_in.first 0) new (Index 0 ∷ [])
  one = record { inside = new_in; whole = ArrayOf t (Some n); whole_is = new_whole; part = reached t 0 false; part_is = refl; has = refl }

  element : (marked : Bool) (k : ℕ) → CellsIn g memory (object_row new_in.location.content new_in.first) (Some (reached t 0 false)) (filled g.table marked t (under (Index k) old.cells))
  unfolding one two
  element marked k =
      cells_copied g system grounds memory (λ l. l ≡ object_row new_in.location.content new_in.first 0) (λ l. l ≡ object_row old_in.location.content old_in.first 0) new old (Index 0 ∷ []) (Index 0 ∷ []) one two refl few counts joined
      (filled g.table marked t (under (Index k) old.cells))
      (filled_in g system grounds memory (object_row old_in.location.content old_in.first) marked t (Some (reached t 0 false)) (under (Index k) old.cells) refl
      (each_under (λ p c. CellIn g memory (pointer_row (object_row old_in.location.content old_in.first) (part_at g.table (Some (reached (ArrayOf t (Some m)) 0 false)) p)) c) (Index k) old.cells old_cells))

  -- the elements that are kept
  pub elements_in : (marked : Bool) (k : ℕ) → CellsIn g memory (object_row new_in.location.content new_in.first) (Some (reached (ArrayOf t (Some n)) 0 false)) (elements (filled g.table marked t) k old.cells)
  elements_in marked zero = tt
  elements_in marked (suc k) =
      each_append (λ p c. CellIn g memory (pointer_row (object_row new_in.location.content new_in.first) (part_at g.table (Some (reached (ArrayOf t (Some n)) 0 false)) p)) c)
      (elements (filled g.table marked t) k old.cells) (prefixed (Index k) (filled g.table marked t (under (Index k) old.cells))) (elements_in marked k)
      (each_prefixed (λ p c. CellIn g memory (pointer_row (object_row new_in.location.content new_in.first) (part_at g.table (Some (reached (ArrayOf t (Some n)) 0 false)) p)) c) (Index k)
      (filled g.table marked t (under (Index k) old.cells)) (element marked k))
