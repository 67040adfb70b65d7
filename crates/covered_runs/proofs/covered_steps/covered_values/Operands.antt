-- The values of operands, there or not, are covered at their nodes.
use Rattle.std.proofs.Common.{arith, ◌≡◌, ◌∙◌, inl, inr, ◌⊎◌, ℕ, zero, suc, Bool, true, false, cond, eqb, List, [], ◌∷◌, Option, Some, None, Result, Ok, Err, set, slice_get, refl, sym, ap, subst}
use Rattle.std.proofs.lemmas.Bool.{false≢true}
use Rattle.std.proofs.lemmas.Bool.Decides.{eqb_tells}
use Rattle.c_types.specs.declared.term.PathStep.{PathStep}
use Rattle.c_types.specs.declared.term.PathStep.TheVariants.{Index, Member}
use Rattle.c_types.specs.Trees.{Ctype, PointerTo}
use Rattle.core_tree.specs.declared.node.Node.{Node}
use Rattle.core_tree.specs.declared.node.NodeKind.{NodeKind}
use Rattle.core_tree.specs.Typed.{Sort, NoNode, PlaceNode, ValueNode, StatementNode, sort_of, sort_in, sort_at, type_at}
use Rattle.obj_space.specs.Spots.{reached, part_at}
use Rattle.obj_space.proofs.Followed.{no_part}
use Rattle.ref_cells.specs.declared.cells.Reason.{Reason}
use Rattle.ref_cells.specs.declared.cells.Cell.{Cell}
use Rattle.ref_cells.specs.declared.cells.Value.{Value}
use Rattle.ref_cells.specs.declared.instance.Instance.{Instance}
use Rattle.ref_cells.specs.Cells.{CellList}
use Rattle.ref_mem.specs.Reads.{one_cell}
use Rattle.ref_elements.specs.Runs.{◌>>=◌}
use Rattle.ref_elements.specs.Outcomes.{Effected, gives}
use Rattle.ref_state.specs.Values.{no_value, cell_of, value_in, cell_in}
use Rattle.ref_values.specs.Values.{cell_given}
use Rattle.covering_laws.specs.covered_types.Whole.{IsHeld}
use Rattle.covering_laws.specs.covered_memory.Covered.{Sets, CellIn, pointer_row, CellsIn, ValueIn, MemoryIn, Leaves}
use Rattle.covering_laws.proofs.covered_memory.Stays.{same_memory, cell_from_none}
use Rattle.covering_laws.specs.covered_rows.Nodes.{PlaceIn, HeldIn}
use Rattle.covering_laws.specs.covered_state.World.{World, trees_of, sets_of, setting_in}
use Rattle.covering_laws.specs.covered_state.Items.{Each, SortIn, NodeIn}
use Rattle.covered_runs.specs.covered_steps.covered_values.Values.{GoesBack, IsComputed}
use Rattle.covered_runs.proofs.covered_steps.covered_values.Types.{none_some, some_one}

pub ok_one : {X : Type 0} → {x y : X} → ◌≡◌ {A = Result X Reason} (Ok x) (Ok y) → x ≡ y
ok_one h = cc

pub err_ok : {X : Type 0} → {r : Reason} → {x : X} → ◌≡◌ {A = Result X Reason} (Err r) (Ok x) → ⊥
err_ok h = cc

-- what comes first went well, and so did the rest
pub went : {A B : Type 0} (r : Result A Reason) (f : A → Result B Reason) (y : B) → r >>= f ≡ Ok y → (x : A) × (◌≡◌ {A = Result A Reason} r (Ok x)) × (◌≡◌ {A = Result B Reason} (f x) (Ok y))
went (Ok x) f y e = (x, refl, e)
went (Err reason) f y e = absurd (err_ok e)

-- a memory goes back to itself, and one with an instance changed to the old one
pub same_back : (memory : List Instance) → GoesBack memory memory
same_back memory i b at = (b, at, λ none. none)

pub set_back : (xs : List Instance) (i : ℕ) (x v : Instance) → slice_get xs i ≡ Some x → (v.ty ≡ None → x.ty ≡ None) → GoesBack xs (set xs i v)
set_back [] i x v at none j b e = absurd (none_some at)
set_back (y ∷ ys) zero x v at none zero b e =
    (y, refl, λ own. subst (λ (z : Instance). z.ty ≡ None) (sym (some_one at)) (none (subst (λ (z : Instance). z.ty ≡ None) (sym (some_one e)) own)))
set_back (y ∷ ys) zero x v at none (suc j) b e = (b, e, λ own. own)
set_back (y ∷ ys) (suc i) x v at none zero b e = (b, e, λ own. own)
set_back (y ∷ ys) (suc i) x v at none (suc j) b e = set_back ys i x v at none j b e

-- a value of pointer type, as its one cell
module _ (g : Sets) (memory : List Instance) (row : ℕ → ℕ) (to : Ctype) where
  past : (step : PathStep) (rest : List PathStep) → pointer_row row (part_at g.table (Some (reached (PointerTo to) 0 false)) (step ∷ rest)) ≡ None
  past (Index i) rest = ap (pointer_row row) (no_part g.table rest)
  past (Member k) rest = ap (pointer_row row) (no_part g.table rest)

  at : (path : List PathStep) (c : Cell) → CellIn g memory (pointer_row row (part_at g.table (Some (reached (PointerTo to) 0 false)) path)) c → CellIn g memory (Some (row 0)) c
  at [] c h = h
  at (step ∷ rest) c h = cell_from_none g memory (Some (row 0)) c (subst (λ (o : Option ℕ). CellIn g memory o c) (past step rest) h)

  first_in : (cells : CellList) → CellsIn g memory row (Some (reached (PointerTo to) 0 false)) cells → CellsIn g memory row (Some (reached (PointerTo to) 0 false)) ((one_cell (cell_of (record { cells = cells }))).cells)
  first_in [] h = (tt, tt)
  first_in (e ∷ rest) h = (at e.0 e.1 h.0, tt)

  pub first_held : (v : Value) → ValueIn g memory row (PointerTo to) v → ValueIn g memory row (PointerTo to) (one_cell (cell_of v))
  first_held v h = first_in v.cells h

module _ (world : World) where
  sort_is : (n : ℕ) (node : Node) (kind : NodeKind) → slice_get (trees_of world).nodes n ≡ Some node → node.kind ≡ kind → sort_at (trees_of world) n ≡ sort_of kind
  sort_is n node kind there is = ap sort_in there ∙ ap sort_of is

  module _ (memory : List Instance) where
    none_in : (s : Sort) (n : ℕ) → SortIn world memory s n no_value
    none_in NoNode n = refl
    none_in PlaceNode n = (tt, omega arith)
    none_in ValueNode n = (tt, inl refl)
    none_in StatementNode n = refl

    pub operand_in : (values : List (ℕ × Value)) → Each (λ v. NodeIn world memory v.0 v.1) values → (c : ℕ) → NodeIn world memory c (value_in values c)
    operand_in [] h c = none_in (sort_at (trees_of world) c) c
    operand_in (v ∷ rest) h c = by (eqb v.0 c) refl (operand_in rest h.1 c)
      where
        same : eqb v.0 c ≡ true → v.0 ≡ c
        same e = elim (eqb_tells v.0 c) [ inl is ↦ is.1 | inr other ↦ absurd (false≢true (sym other.0 ∙ e)) ]

        by : (b : Bool) → eqb v.0 c ≡ b → NodeIn world memory c (value_in rest c) → NodeIn world memory c (cond b v.1 (value_in rest c))
        by true is next = subst (λ (m : ℕ). NodeIn world memory m v.1) (same is) h.0
        by false is next = next

    -- what the operands hold
    module _ (values : List (ℕ × Value)) (each : Each (λ v. NodeIn world memory v.0 v.1) values) where
      pub place_held : (c : ℕ) → sort_at (trees_of world) c ≡ PlaceNode → PlaceIn (sets_of world) (setting_in world) memory c (cell_in values c)
      place_held c s = (subst (λ (sort : Sort). SortIn world memory sort c (value_in values c)) s (operand_in values each c)).0

      pub value_held : (c : ℕ) → sort_at (trees_of world) c ≡ ValueNode → HeldIn (sets_of world) (setting_in world) memory c (value_in values c)
      value_held c s = (subst (λ (sort : Sort). SortIn world memory sort c (value_in values c)) s (operand_in values each c)).0

      -- what passes a value on may hold it
      pub value_held_by : (c : ℕ) → sort_at (trees_of world) c ≡ ValueNode → ((value_in values c).cells ≡ []) ⊎ IsHeld world.program.types (type_at (trees_of world) c)
      value_held_by c s = (subst (λ (sort : Sort). SortIn world memory sort c (value_in values c)) s (operand_in values each c)).1

    -- what a node of a kind holds
    module _ (n : ℕ) (node : Node) (there : slice_get (trees_of world).nodes n ≡ Some node) (kind : NodeKind) (is : node.kind ≡ kind) where
      pub place_node : sort_of kind ≡ PlaceNode → (c : Cell) → PlaceIn (sets_of world) (setting_in world) memory n c → NodeIn world memory n (one_cell c)
      place_node s c h = subst (λ (sort : Sort). SortIn world memory sort n (one_cell c)) (sym (sort_is n node kind there is ∙ s)) (h, omega arith)

      pub value_node : sort_of kind ≡ ValueNode → (v : Value) → HeldIn (sets_of world) (setting_in world) memory n v
          → (v.cells ≡ []) ⊎ IsHeld world.program.types (type_at (trees_of world) n) → NodeIn world memory n v
      value_node s v h may = subst (λ (sort : Sort). SortIn world memory sort n v) (sym (sort_is n node kind there is ∙ s)) (h, may)

  -- the memory stays as it is, and a value is given
  module _ (memory : List Instance) (all : MemoryIn (sets_of world) memory) (n : ℕ) where
    pub same_left : Leaves (sets_of world) memory memory
    same_left = record { extends = same_memory (sets_of world) memory; covered = all }

    pub left_so : (m : List Instance) (v : Value) (e : Effected) → gives m v ≡ Ok e → Leaves (sets_of world) memory m → GoesBack memory m → NodeIn world m n v → IsComputed world memory n e
    left_so m v e is left back h = subst (IsComputed world memory n) (ok_one is) (record { leaves = left; before = back; value = h; stores = tt })

    pub given_so : (v : Value) (e : Effected) → gives memory v ≡ Ok e → NodeIn world memory n v → IsComputed world memory n e
    given_so v e is h = left_so memory v e is same_left (same_back memory) h

    pub cell_so : (row : Result Cell Reason) (e : Effected) → cell_given memory row ≡ Ok e → ((c : Cell) → row ≡ Ok c → NodeIn world memory n (one_cell c)) → IsComputed world memory n e
    cell_so row e is each =
        let r = went row (λ c. gives memory (one_cell c)) e is in
        given_so (one_cell r.0) e r.2 (each r.0 r.1)
