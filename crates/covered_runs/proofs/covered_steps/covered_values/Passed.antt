-- Values that pass from a branch to a choice, and from a return to its function.
use Rattle.std.proofs.Common.{◌≡◌, inl, inr, ◌⊎◌, ℕ, List, [], ◌∷◌, Some, slice_get, refl, sym, ap, subst}
use Rattle.c_types.specs.declared.key.ObjectKey.TheVariants.{Entity as EntityKey}
use Rattle.c_types.specs.Table.{type_of}
use Rattle.core_tree.specs.declared.node.Node.{Node}
use Rattle.core_tree.specs.declared.node.NodeKind.{NodeKind}
use Rattle.core_tree.specs.declared.node.NodeKind.TheVariants.{Choose, Return}
use Rattle.core_tree.specs.Rows.{RowOf}
use Rattle.core_tree.specs.Typed.{Sort, ValueNode, sort_of, sort_at, type_in, type_at}
use Rattle.ref_cells.specs.declared.cells.Value.{Value}
use Rattle.ref_cells.specs.declared.instance.Instance.{Instance}
use Rattle.ref_cells.specs.Cells.{CellList}
use Rattle.normal_form.specs.Assignments.{given_type}
use Rattle.covering_laws.specs.covered_types.Whole.{IsHeld}
use Rattle.covering_laws.specs.covered_rows.Nodes.{IsNode, HeldIn}
use Rattle.covering_laws.proofs.covered_rows.Calls.{return_in}
use Rattle.covering_laws.proofs.covered_rows.Values.{choose_first, choose_second}
use Rattle.covering_laws.specs.covered_state.World.{World, trees_of, sets_of, setting_in}
use Rattle.covering_laws.specs.covered_state.Items.{SortIn, NodeIn, ReturnedIn}
use Rattle.covered_runs.specs.covered_steps.covered_values.Passed.{ChoicesCovered, ReturnsPassed}
use Rattle.covered_runs.proofs.covered_steps.covered_values.Operands.{value_node}

-- a value without cells is in any rows
none_held : (world : World) (memory : List Instance) (n : ℕ) (cells : CellList) → cells ≡ [] → HeldIn (sets_of world) (setting_in world) memory n (record { cells = cells })
none_held world memory n cells is = subst (λ (cs : CellList). HeldIn (sets_of world) (setting_in world) memory n (record { cells = cs })) (sym is) tt

none_returned : (world : World) (memory : List Instance) (f : ℕ) (cells : CellList) → cells ≡ [] → ReturnedIn world memory (EntityKey f) (record { cells = cells })
none_returned world memory f cells is = subst (λ (cs : CellList). ReturnedIn world memory (EntityKey f) (record { cells = cs })) (sym is) tt

module _ (world : World) (memory : List Instance) (n : ℕ) (node : Node) (there : slice_get (trees_of world).nodes n ≡ Some node) (kind : NodeKind) (kind_is : node.kind ≡ kind) (value : sort_of kind ≡ ValueNode) (v : Value) where
  -- what a node passes on
  pass : (x : ℕ) → sort_at (trees_of world) x ≡ ValueNode → type_at (trees_of world) x ≡ type_of world.program.types node.ty.0
      → (IsHeld world.program.types (type_of world.program.types node.ty.0) → HeldIn (sets_of world) (setting_in world) memory x v → HeldIn (sets_of world) (setting_in world) memory n v) → NodeIn world memory x v → NodeIn world memory n v
  pass x sort ty next h = by own.1
    where
      own : HeldIn (sets_of world) (setting_in world) memory x v × ((v.cells ≡ []) ⊎ IsHeld world.program.types (type_at (trees_of world) x))
      own = subst (λ (s : Sort). SortIn world memory s x v) sort h

      by : (v.cells ≡ []) ⊎ IsHeld world.program.types (type_at (trees_of world) x) → NodeIn world memory n v
      by (inl none) = value_node world memory n node there kind kind_is value v (none_held world memory n v.cells none) (inl none)
      by (inr held) =
          let may = subst (IsHeld world.program.types) ty held in
          value_node world memory n node there kind kind_is value v (next may own.0) (inr (subst (IsHeld world.program.types) (sym (ap (type_in world.program.types) there)) may))

pub choices_covered : ChoicesCovered
choices_covered world memory n node c a b v stands there kind children = (first, second)
  where
    row : RowOf (trees_of world) Choose (type_of world.program.types node.ty.0) (c ∷ a ∷ b ∷ [])
    row =
        subst (λ (k : NodeKind). RowOf (trees_of world) k (type_of world.program.types node.ty.0) (c ∷ a ∷ b ∷ [])) kind
        (subst (λ (cs : List ℕ). RowOf (trees_of world) node.kind (type_of world.program.types node.ty.0) cs) children (stands.rows n node there))

    is : IsNode (trees_of world) n Choose (type_of world.program.types node.ty.0) (c ∷ a ∷ b ∷ [])
    is = record { node = node; there = there; kind_is = kind; type_is = refl; children_are = children }

    first : NodeIn world memory a v → NodeIn world memory n v
    first h =
        pass world memory n node there Choose kind refl v a row.1.0 row.1.1
        (λ may x. choose_first world.program world.space world.system world.is_system world.family stands.closed stands.grounds n (type_of world.program.types node.ty.0) may c a b is row.1.1 memory v x) h

    second : NodeIn world memory b v → NodeIn world memory n v
    second h =
        pass world memory n node there Choose kind refl v b row.2.0 row.2.1
        (λ may x. choose_second world.program world.space world.system world.is_system world.family stands.closed stands.grounds n (type_of world.program.types node.ty.0) may c a b is row.2.1 memory v x) h

pub returns_passed : ReturnsPassed
returns_passed world memory n node v f value stands there kind children owned ty h = by own.1
  where
    row : RowOf (trees_of world) Return (type_of world.program.types node.ty.0) (v ∷ [])
    row =
        subst (λ (k : NodeKind). RowOf (trees_of world) k (type_of world.program.types node.ty.0) (v ∷ [])) kind
        (subst (λ (cs : List ℕ). RowOf (trees_of world) node.kind (type_of world.program.types node.ty.0) cs) children (stands.rows n node there))

    own : HeldIn (sets_of world) (setting_in world) memory v value × ((value.cells ≡ []) ⊎ IsHeld world.program.types (type_at (trees_of world) v))
    own = subst (λ (s : Sort). SortIn world memory s v value) row h

    by : (value.cells ≡ []) ⊎ IsHeld world.program.types (type_at (trees_of world) v) → ReturnedIn world memory (EntityKey f) value
    by (inl none) = none_returned world memory f value.cells none
    by (inr held) =
        return_in world.program world.space world.system world.is_system world.family stands.closed stands.grounds n v f (given_type (setting_in world) f) (type_of world.program.types node.ty.0)
        (record { node = node; there = there; kind_is = kind; type_is = refl; children_are = children }) owned refl ty (subst (IsHeld world.program.types) ty held) memory value own.0
