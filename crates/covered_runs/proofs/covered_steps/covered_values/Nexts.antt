-- NextArg: the argument that a list gives, and the list behind it.
use Rattle.std.proofs.Common.{◌≡◌, ◌∙◌, inl, inr, ℕ, ◌+◌, false, List, [], ◌∷◌, Option, Some, Ok, slice_get, refl, sym, ap, subst}
use Rattle.c_types.specs.declared.term.PathStep.TheVariants.{Index}
use Rattle.c_types.specs.Trees.{Ctype, VaListType, PointerTo}
use Rattle.c_types.specs.Table.{type_of}
use Rattle.type_rules.specs.Kinds.{IsPointer, IsList}
use Rattle.core_tree.specs.declared.node.Node.{Node}
use Rattle.core_tree.specs.declared.node.NodeKind.{NodeKind}
use Rattle.core_tree.specs.declared.node.NodeKind.TheVariants.{NextArg}
use Rattle.core_tree.specs.declared.node.Program.{Program}
use Rattle.core_tree.specs.Rows.{RowOf}
use Rattle.core_tree.specs.Typed.{CoreTrees, sort_of, type_in, type_at}
use Rattle.ref_cells.specs.declared.cells.Cell.{Cell}
use Rattle.ref_cells.specs.declared.cells.Cell.TheVariants.{Unset, Number, Null, Pointer, Function}
use Rattle.ref_cells.specs.declared.cells.Value.{Value}
use Rattle.ref_cells.specs.declared.instance.Instance.{Instance}
use Rattle.ref_cells.specs.Cells.{under}
use Rattle.ref_mem.specs.Reads.{read, one_cell, converted_cell}
use Rattle.ref_mem.specs.Writes.{write}
use Rattle.ref_elements.specs.Outcomes.{Effected, stores_and_gives}
use Rattle.ref_state.specs.Values.{first_cell}
use Rattle.ref_values.specs.Memory.{stores_at}
use Rattle.row_numbers.specs.Setting.{Setting}
use Rattle.normal_form.specs.Assignments.{row_in}
use Rattle.covering_laws.specs.covered_types.Whole.{IsHeld, HasValue}
use Rattle.covering_laws.specs.covered_memory.Covered.{Sets, CellIn, MemoryIn}
use Rattle.covering_laws.proofs.covered_memory.Stays.{value_stays}
use Rattle.covering_laws.specs.covered_rows.Nodes.{IsNode, node_row, PlaceIn, HeldIn}
use Rattle.covering_laws.proofs.covered_rows.Places.{held_cell, cell_held}
use Rattle.covering_laws.proofs.covered_rows.Nexts.{next_list, next_held}
use Rattle.covering_laws.specs.covered_state.World.{World, trees_of, sets_of, setting_in}
use Rattle.covered_runs.specs.covered_steps.covered_values.Values.{Stands, IsComputed, IsPlain, IsNext, NextsCovered}
use Rattle.covered_runs.proofs.covered_steps.covered_values.Operands.{ok_one, value_node}
use Rattle.covered_runs.proofs.covered_steps.covered_values.Fetched.{read_one, write_back, pointer_written}

list_inv : (t : Ctype) → IsList t → t ≡ VaListType
list_inv VaListType h = refl
list_inv t h = absurd h

pointer_inv : (t : Ctype) → IsPointer t → (to : Ctype) × (t ≡ PointerTo to)
pointer_inv (PointerTo to) h = (to, refl)
pointer_inv t h = absurd h

module _ (g : Sets) (memory : List Instance) (row : Option ℕ) where
  -- what doesn't point is covered anywhere
  plain_in : (t : Ctype) (c : Cell) → IsPlain c → CellIn g memory row (converted_cell t c)
  plain_in t Unset h = tt
  plain_in t (Number n) h = tt
  plain_in t Null h = tt
  plain_in t (Pointer i path past) h = absurd h
  plain_in t (Function key) h = absurd h

  converted_in : (t : Ctype) (c : Cell) → CellIn g memory row c → CellIn g memory row (converted_cell t c)
  converted_in t Unset h = tt
  converted_in t (Number n) h = tt
  converted_in t Null h = tt
  converted_in t (Pointer i path past) h = h
  converted_in t (Function key) h = h

module _ (world : World) (stands : Stands world) (memory : List Instance) (all : MemoryIn (sets_of world) memory) (n q : ℕ) (node : Node) (there : slice_get (trees_of world).nodes n ≡ Some node)
    (kind : node.kind ≡ NextArg) (children : node.children ≡ q ∷ []) (place : Cell) (at : PlaceIn (sets_of world) (setting_in world) memory q place) (value : Value) (after : List Instance)
    (next : IsNext world memory q place (type_of world.program.types node.ty.0) value after) where
  abbrev p : Program
  p = world.program

  abbrev u : CoreTrees
  u = trees_of world

  abbrev g : Sets
  g = sets_of world

  abbrev w : Setting
  w = setting_in world

  abbrev t : Ctype
  t = type_of world.program.types node.ty.0

  own_type : type_at u n ≡ type_of p.types node.ty.0
  own_type = ap (type_in p.types) there

  row : RowOf u NextArg (type_of p.types node.ty.0) (q ∷ [])
  row = subst (λ (cs : List ℕ). RowOf u NextArg (type_of p.types node.ty.0) cs) children (subst (λ (k : NodeKind). RowOf u k (type_of p.types node.ty.0) node.children) kind (stands.rows n node there))

  list_type : type_at u q ≡ VaListType
  list_type = list_inv (type_at u q) row.0.1

  read_is : read p.types memory place VaListType ≡ Ok next.list
  read_is = subst (λ (s : Ctype). read p.types memory place s ≡ Ok next.list) list_type next.list_is

  list_is : next.list ≡ one_cell (Pointer next.i (Index next.k ∷ []) false)
  list_is = read_one g world.system stands.grounds memory place VaListType tt next.list read_is ∙ ap one_cell next.points

  read_one_is : read p.types memory place VaListType ≡ Ok (one_cell (Pointer next.i (Index next.k ∷ []) false))
  read_one_is = read_is ∙ ap (λ (v : Value). Ok v) list_is

  write_is : write p.types memory place VaListType (one_cell (Pointer next.i (Index (next.k + 1) ∷ []) false)) ≡ Ok after
  write_is = subst (λ (s : Ctype). write p.types memory place s (one_cell (Pointer next.i (Index (next.k + 1) ∷ []) false)) ≡ Ok after) list_type next.after_is

  is_node : IsNode u n NextArg (type_of p.types node.ty.0) (q ∷ [])
  is_node = record { node = node; there = there; kind_is = kind; type_is = refl; children_are = children }

  -- the value is covered at the node
  value_in : HeldIn g w memory n value
  value_in =
      subst (HeldIn g w memory n) (sym next.value_is.value_is)
      (elim next.value_is.points [
        | inl pointer ↦ (let to = pointer_inv t pointer in pointed to.0 to.1)
        | inr plain ↦ (plain_in g memory _ t (first_cell (under (Index next.k) next.inst.cells)) plain, tt)
      ])
    where
      pointed : (to : Ctype) → t ≡ PointerTo to → HeldIn g w memory n (one_cell (converted_cell t (first_cell (under (Index next.k) next.inst.cells))))
      pointed to is =
          let c = first_cell (under (Index next.k) next.inst.cells) in
          let ty : type_at u n ≡ PointerTo to = own_type ∙ is in
          cell_held p world.space world.system world.is_system world.family stands.closed stands.grounds n to memory (converted_cell t c) ty
          (converted_in g memory (Some (row_in w n)) t c
          (held_cell p world.space world.system world.is_system world.family stands.closed stands.grounds n to memory c ty
          (next_held p world.space world.system world.is_system world.family stands.closed stands.grounds n q t is_node memory all place next.e next.i next.k to next.inst is ty at read_one_is next.inst_is next.key)))

  pub next_so : (e : Effected) → stores_and_gives after value (stores_at place (([], Pointer next.i (Index (next.k + 1) ∷ []) false) ∷ [])) ≡ Ok e → IsComputed world memory n e
  next_so e given =
      let left = pointer_written g world.system stands.grounds memory place VaListType tt (Pointer next.i (Index next.k ∷ []) false) (Pointer next.i (Index (next.k + 1) ∷ []) false) after (row_in w q) all at
      (next_list p world.space world.system world.is_system world.family stands.closed stands.grounds memory next.e next.i next.k next.inst next.inst_is (all next.i next.inst next.inst_is) next.key next.within)
      read_one_is write_is in
      let held : IsHeld p.types t = subst (λ (k : NodeKind). HasValue u k t (q ∷ [])) kind (subst (HasValue u node.kind t) children (stands.whole.values n node there (ap sort_of kind))) in
      subst (IsComputed world memory n) (ok_one given)
      (record {
        leaves = left.0;
        before = write_back g world.system stands.grounds memory place VaListType (one_cell (Pointer next.i (Index (next.k + 1) ∷ []) false)) after write_is;
        value = value_node world after n node there NextArg kind refl value (value_stays g memory after left.0.extends (node_row w n) (type_at u n) value value_in) (inr (subst (IsHeld p.types) (sym own_type) held));
        stores = left.1;
      })

pub nexts_covered : NextsCovered
nexts_covered world memory after n p node place value e stands all there kind children at next given = next_so world stands memory all n p node there kind children place at value after next e given
