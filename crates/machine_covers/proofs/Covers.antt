-- What the invariant of steps says is no less than what `covers` decides.
use Rattle.std.proofs.Common.{arith, ◌≡◌, inl, inr, ℕ, ◌≤◌, false, List, [], ◌∷◌, length, Option, Some, None, sym, subst}
use Rattle.c_types.specs.declared.key.ObjectKey.{ObjectKey}
use Rattle.core_tree.specs.Typed.{Sort, NoNode, PlaceNode, ValueNode, StatementNode, sort_at}
use Rattle.normal_form.specs.Assignments.{row_in}
use Rattle.ref_cells.specs.declared.cells.Value.{Value}
use Rattle.ref_cells.specs.declared.instance.Instance.{Instance}
use Rattle.ref_cells.specs.Cells.{CellList}
use Rattle.ref_state.specs.declared.items.Item.{Item}
use Rattle.ref_state.specs.declared.items.Item.TheVariants.{Do, Wait, Library, Result}
use Rattle.ref_state.specs.declared.frames.Frame.{Frame}
use Rattle.ref_state.specs.Values.{cell_of}
use Rattle.covering_laws.specs.covered_memory.Covered.{CellIn}
use Rattle.covering_laws.specs.covered_state.World.{World, trees_of, sets_of, setting_in}
use Rattle.covering_laws.specs.covered_state.Items.{SortIn, NodeIn, ItemIn}
use Rattle.covering_laws.specs.covered_state.State.{CalledIn, FrameIn}
use Rattle.covering_laws.proofs.covered_state.Stays.{each_change}
use Rattle.machine_covers.specs.Covers.{RowIn, HasIn, HoldsIn, EntersBy, StandsIn, CoveredIsCovered}

module _ (world : World) (memory : List Instance) where
  one_in : (at : Option ℕ) (cells : CellList) → CellIn (sets_of world) memory at (cell_of (record { cells = cells })) → length cells ≤ 1 → RowIn world memory at cells
  one_in at [] h short = tt
  one_in at (e ∷ []) h short = (h, tt)
  one_in at (e ∷ f ∷ rest) h short = absurd (omega arith)

  none_in : (cells : CellList) → cells ≡ [] → RowIn world memory None cells
  none_in cells is = subst (RowIn world memory None) (sym is) tt

  has_in : (s : Sort) (n : ℕ) (v : Value) → SortIn world memory s n v → HasIn world memory s n v
  has_in NoNode n v h = none_in v.cells h
  has_in PlaceNode n v h = one_in (Some (row_in (setting_in world) n)) v.cells h.0 h.1
  has_in ValueNode n v h = h.0
  has_in StatementNode n v h = none_in v.cells h

  holds_in : (f : ObjectKey) (item : Item) → ItemIn world memory f item → HoldsIn world memory f item
  holds_in f (Do n) h = tt
  holds_in f (Wait n left values) h =
      each_change (λ v. NodeIn world memory v.0 v.1) (λ v. HasIn world memory (sort_at (trees_of world) v.0) v.0 v.1) (λ v x. has_in (sort_at (trees_of world) v.0) v.0 v.1 x) values h.2
  holds_in f (Library n function arguments) (inl h) = inl (record { node = h.node; there = h.there; target = h.target; arguments_in = h.arguments_in; all = h.all })
  holds_in f (Library n function arguments) (inr h) = inr h
  holds_in f (Result v) h = h

  enters_by : (key : ObjectKey) (call : Option ℕ) → CalledIn world key call → EntersBy world key call
  enters_by key None h = tt
  enters_by key (Some n) h = h.0

  stands_in : (f : Frame) → FrameIn world memory f → StandsIn world memory f
  stands_in f h = record { called = enters_by f.function f.call h.called; back = h.back; items = each_change (ItemIn world memory f.function) (HoldsIn world memory f.function) (holds_in f.function) f.items h.items }

pub covered_is_covered : CoveredIsCovered
covered_is_covered world state covered = record {
  memory = covered.memory;
  frames = each_change (FrameIn world state.memory) (StandsIn world state.memory) (stands_in world state.memory) state.frames covered.frames;
  kept = covered.kept;
  notes = covered.notes;
  handed = covered.handed;
  awaited = covered.awaited;
}
