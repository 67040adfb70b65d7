-- Values that pass from rows to rows, and the rows of reads, assignments and choices.
use Rattle.std.proofs.Common.{◌≡◌, ◌∙◌, inl, inr, ℕ, false, List, [], ◌∷◌, Option, Some, None, Ok, Bool, refl, sym, ap, subst, arith}
use Rattle.std.proofs.lemmas.List.Elements.{Contains-append_left, Contains-append_right}
use Rattle.c_types.specs.declared.term.PathStep.{PathStep}
use Rattle.c_types.specs.declared.term.PathStep.TheVariants.{Index, Member}
use Rattle.c_types.specs.Trees.{Ctype, VoidType, PointerTo}
use Rattle.core_tree.specs.declared.node.NodeKind.{NodeKind}
use Rattle.core_tree.specs.declared.node.NodeKind.TheVariants.{Fetch, Assign, Update, Choose, Sequence}
use Rattle.core_tree.specs.declared.node.Op.{Op}
use Rattle.core_tree.specs.declared.node.Program.{Program}
use Rattle.core_tree.specs.Typed.{CoreTrees, trees_in, type_in, type_at}
use Rattle.sol_model.specs.declared.system.System.{System}
use Rattle.sol_model.specs.Families.{Family, Has}
use Rattle.sol_model.specs.Solutions.{IsClosed}
use Rattle.obj_space.specs.declared.location.Location.{Location}
use Rattle.obj_space.specs.Spots.{reached, part_at}
use Rattle.obj_space.specs.View.{view_of}
use Rattle.obj_space.proofs.Followed.{no_part}
use Rattle.row_numbers.specs.Kept.{nodes_of, kept_row}
use Rattle.row_numbers.specs.Numbers.{type_number}
use Rattle.row_numbers.specs.Setting.{Setting}
use Rattle.ref_cells.specs.declared.cells.Cell.{Cell}
use Rattle.ref_cells.specs.declared.cells.Cell.TheVariants.{Unset, Number, Null, Pointer, Function}
use Rattle.ref_cells.specs.declared.cells.Value.{Value}
use Rattle.ref_cells.specs.declared.instance.Instance.{Instance}
use Rattle.ref_mem.specs.Reads.{read}
use Rattle.ref_mem.specs.Writes.{write}
use Rattle.normal_form.specs.Assignments.{row_in, copies, stores}
use Rattle.normal_form.specs.SystemOf.{SystemOf}
use Rattle.covering_laws.specs.covered_types.Whole.{IsHeld}
use Rattle.covering_laws.specs.covered_memory.Spots.{spot}
use Rattle.covering_laws.specs.covered_memory.Covered.{Sets, Lands, CellIn, pointer_row, ValueIn, MemoryIn, Leaves}
use Rattle.covering_laws.specs.covered_memory.Demands.{Grounds, IsWhole}
use Rattle.covering_laws.proofs.covered_memory.Cells.{each_change}
use Rattle.covering_laws.proofs.covered_memory.Parts.{kept_row_node}
use Rattle.covering_laws.proofs.covered_memory.Access.{row_inv, row_is, read_law, write_law}
use Rattle.covering_laws.proofs.covered_memory.Stays.{value_stays}
use Rattle.covering_laws.specs.covered_rows.Nodes.{IsNode, PlaceIn, HeldIn}
use Rattle.covering_laws.proofs.covered_rows.Demanded.{Copies, w, by_value, loads_say, stores_say, copies_say}

module _ (g : Sets) (system : System) (grounds : Grounds g.table g.space system) (memory : List Instance) (from to : ℕ → ℕ) (t : Ctype) (whole : IsWhole g.table t) (more : Copies g.table g.family from to t) where
  lands_copied : (path : List PathStep) (found : Option ℕ) → Lands g.family (pointer_row from (part_at g.table (Some (reached t 0 false)) path)) found
      → Lands g.family (pointer_row to (part_at g.table (Some (reached t 0 false)) path)) found
  lands_copied path found h =
      let i = row_inv from (part_at g.table (Some (reached t 0 false)) path) h.at h.row_is in
      record {
        at = to i.0.node;
        location = h.location;
        row_is = row_is to (part_at g.table (Some (reached t 0 false)) path) i.0 i.1 i.5 i.2 i.3;
        found_is = h.found_is;
        has = more i.0.node (kept_row_node g.table grounds.made t path i.0 i.1 i.5 whole.few whole.complete i.2 i.3) h.location (subst (λ (k : ℕ). Has g.family k h.location) (sym i.4) h.has);
      }

  cell_copied : (path : List PathStep) (c : Cell) → CellIn g memory (pointer_row from (part_at g.table (Some (reached t 0 false)) path)) c
      → CellIn g memory (pointer_row to (part_at g.table (Some (reached t 0 false)) path)) c
  cell_copied path (Pointer i q past) h = record {
    inst = h.inst;
    inst_is = h.inst_is;
    in_tree = h.in_tree;
    lands = lands_copied path (spot g.table g.space h.inst.key q) h.lands;
  }
  cell_copied path (Function key) h = lands_copied path (spot g.table g.space key []) h
  cell_copied path Unset h = tt
  cell_copied path (Number n) h = tt
  cell_copied path Null h = tt

  -- A value passes from rows to rows that have all that these have.
  pub value_copied : (v : Value) → ValueIn g memory from t v → ValueIn g memory to t v
  value_copied v h =
      each_change (λ p c. CellIn g memory (pointer_row from (part_at g.table (Some (reached t 0 false)) p)) c) (λ p c. CellIn g memory (pointer_row to (part_at g.table (Some (reached t 0 false)) p)) c) v.cells
      cell_copied h

-- a value of type void has no place for a pointer, so it is in any rows
module _ (g : Sets) (memory : List Instance) (from to : ℕ → ℕ) where
  void_row : (row : ℕ → ℕ) (path : List PathStep) → pointer_row row (part_at g.table (Some (reached VoidType 0 false)) path) ≡ None
  void_row row [] = refl
  void_row row (Index i ∷ rest) = ap (pointer_row row) (no_part g.table rest)
  void_row row (Member k ∷ rest) = ap (pointer_row row) (no_part g.table rest)

  pub void_copied : (v : Value) → ValueIn g memory from VoidType v → ValueIn g memory to VoidType v
  void_copied v h =
      each_change (λ p c. CellIn g memory (pointer_row from (part_at g.table (Some (reached VoidType 0 false)) p)) c) (λ p c. CellIn g memory (pointer_row to (part_at g.table (Some (reached VoidType 0 false)) p)) c) v.cells
      (λ p c e. subst (λ (o : Option ℕ). CellIn g memory o c) (void_row from p ∙ sym (void_row to p)) e) h

-- A value of a type that a value may have passes from rows to rows.
pub value_passed : (g : Sets) (system : System) (grounds : Grounds g.table g.space system) (memory : List Instance) (from to : ℕ → ℕ) (t : Ctype) → IsHeld g.table t → Copies g.table g.family from to t
    → (v : Value) → ValueIn g memory from t v → ValueIn g memory to t v
value_passed g system grounds memory from to t (inl void) more v h = subst (λ (s : Ctype). ValueIn g memory from s v → ValueIn g memory to s v) (sym void) (void_copied g memory from to v) h
value_passed g system grounds memory from to t (inr whole) more v h = value_copied g system grounds memory from to t whole more v h

pub typed_at : (u : CoreTrees) (n : ℕ) (kind : NodeKind) (t : Ctype) (children : List ℕ) → IsNode u n kind t children → type_at u n ≡ t
typed_at u n kind t children node = ap (type_in u.types) node.there ∙ node.type_is

-- a closed family of a program's system
module _ (p : Program) (space : List Location) (system : System) (is : SystemOf p (view_of space) system) (F : Family) (closed : IsClosed system F) (grounds : Grounds p.types space system) where
  abbrev pub sets : Sets
  sets = record { table = p.types; space = space; family = F }

  abbrev pub w' : Setting
  w' = w p (view_of space) system is F closed

  abbrev nodes : Ctype → List Ctype
  nodes t = nodes_of p.types t

  pub held : (n : ℕ) (t : Ctype) (memory : List Instance) (v : Value) → type_at (trees_in p) n ≡ t → ValueIn sets memory (kept_row (row_in w' n) (nodes t)) t v → HeldIn sets w' memory n v
  held n t memory v e h = subst (λ (s : Ctype). ValueIn sets memory (kept_row (row_in w' n) (nodes s)) s v) (sym e) h

  pub of_held : (n : ℕ) (t : Ctype) (memory : List Instance) (v : Value) → type_at (trees_in p) n ≡ t → HeldIn sets w' memory n v → ValueIn sets memory (kept_row (row_in w' n) (nodes t)) t v
  of_held n t memory v e h = subst (λ (s : Ctype). ValueIn sets memory (kept_row (row_in w' n) (nodes s)) s v) e h

  module _ (n : ℕ) (t : Ctype) (whole : IsWhole p.types t) where
    -- Fetch: what is read at a covered place is covered at the node
    pub fetch_in : (q : ℕ) → IsNode (trees_in p) n Fetch t (q ∷ []) → (memory : List Instance) (place : Cell) (v : Value) → MemoryIn sets memory → PlaceIn sets w' memory q place
        → read p.types memory place t ≡ Ok v → HeldIn sets w' memory n v
    fetch_in q node memory place v all at e =
        held n t memory v (typed_at (trees_in p) n Fetch t (q ∷ []) node)
        (read_law sets system grounds memory (row_in w' q) place t (kept_row (row_in w' n) (nodes t)) v all at whole.few
        (loads_say p (view_of space) system is F closed t (row_in w' n) (row_in w' q) (type_number t) (by_value p (view_of space) system is F closed n Fetch t (q ∷ []) node)) e)

    -- Assign: what is written leaves the memory covered, and is covered at the node
    pub assign_in : (q v : ℕ) → IsNode (trees_in p) n Assign t (q ∷ v ∷ []) → type_at (trees_in p) v ≡ t → (memory after : List Instance) (place : Cell) (value : Value) → MemoryIn sets memory
        → PlaceIn sets w' memory q place → HeldIn sets w' memory v value → write p.types memory place t value ≡ Ok after → Leaves sets memory after × HeldIn sets w' after n value
    assign_in q v node ty memory after place value all at h e =
        let each = by_value p (view_of space) system is F closed n Assign t (q ∷ v ∷ []) node in
        let first = stores (nodes t) (row_in w' q) (row_in w' v) (type_number t) in
        let second = copies (nodes t) (row_in w' n) (row_in w' v) in
        let own = of_held v t memory value ty h in
        let left = write_law sets system grounds memory (row_in w' q) place t (kept_row (row_in w' v) (nodes t)) value after all at whole.few
        (stores_say p (view_of space) system is F closed t (row_in w' q) (row_in w' v) (type_number t) (λ a c. each a (Contains-append_left first second a c))) own e in (
          left,
          held n t after value (typed_at (trees_in p) n Assign t (q ∷ v ∷ []) node)
              (value_copied sets system grounds after (kept_row (row_in w' v) (nodes t)) (kept_row (row_in w' n) (nodes t)) t whole
              (copies_say p (view_of space) system is F closed t (row_in w' n) (row_in w' v) (λ a c. each a (Contains-append_right first second a c))) value
              (value_stays sets memory after left.extends (kept_row (row_in w' v) (nodes t)) t value own)),
        )

  module _ (n : ℕ) (t : Ctype) (may_hold : IsHeld p.types t) where
    -- Choose: either value is covered at the node
    pub choose_first : (c a b : ℕ) → IsNode (trees_in p) n Choose t (c ∷ a ∷ b ∷ []) → type_at (trees_in p) a ≡ t → (memory : List Instance) (v : Value) → HeldIn sets w' memory a v → HeldIn sets w' memory n v
    choose_first c a b node ty memory v h =
        held n t memory v (typed_at (trees_in p) n Choose t (c ∷ a ∷ b ∷ []) node)
        (value_passed sets system grounds memory (kept_row (row_in w' a) (nodes t)) (kept_row (row_in w' n) (nodes t)) t may_hold
        (copies_say p (view_of space) system is F closed t (row_in w' n) (row_in w' a)
        (λ x m. by_value p (view_of space) system is F closed n Choose t (c ∷ a ∷ b ∷ []) node x (Contains-append_left (copies (nodes t) (row_in w' n) (row_in w' a)) (copies (nodes t) (row_in w' n) (row_in w' b)) x m))) v
        (of_held a t memory v ty h))

    pub choose_second : (c a b : ℕ) → IsNode (trees_in p) n Choose t (c ∷ a ∷ b ∷ []) → type_at (trees_in p) b ≡ t → (memory : List Instance) (v : Value) → HeldIn sets w' memory b v → HeldIn sets w' memory n v
    choose_second c a b node ty memory v h =
        held n t memory v (typed_at (trees_in p) n Choose t (c ∷ a ∷ b ∷ []) node)
        (value_passed sets system grounds memory (kept_row (row_in w' b) (nodes t)) (kept_row (row_in w' n) (nodes t)) t may_hold
        (copies_say p (view_of space) system is F closed t (row_in w' n) (row_in w' b)
        (λ x m. by_value p (view_of space) system is F closed n Choose t (c ∷ a ∷ b ∷ []) node x (Contains-append_right (copies (nodes t) (row_in w' n) (row_in w' a)) (copies (nodes t) (row_in w' n) (row_in w' b)) x m))) v
        (of_held b t memory v ty h))

    -- Sequence: the second value is covered at the node
    pub sequence_in : (a b : ℕ) → IsNode (trees_in p) n Sequence t (a ∷ b ∷ []) → type_at (trees_in p) b ≡ t → (memory : List Instance) (v : Value) → HeldIn sets w' memory b v → HeldIn sets w' memory n v
    sequence_in a b node ty memory v h =
        held n t memory v (typed_at (trees_in p) n Sequence t (a ∷ b ∷ []) node)
        (value_passed sets system grounds memory (kept_row (row_in w' b) (nodes t)) (kept_row (row_in w' n) (nodes t)) t may_hold
        (copies_say p (view_of space) system is F closed t (row_in w' n) (row_in w' b) (by_value p (view_of space) system is F closed n Sequence t (a ∷ b ∷ []) node)) v
        (of_held b t memory v ty h))

  -- Update of a pointer: the value that was read is covered at the node, and so is that pointer moved
  pub update_in : (n q v : ℕ) (op : Op) (post : Bool) (to : Ctype) → IsNode (trees_in p) n (Update op post) (PointerTo to) (q ∷ v ∷ []) → (memory : List Instance) (place : Cell) (old : Value) → MemoryIn sets memory
      → PlaceIn sets w' memory q place → read p.types memory place (PointerTo to) ≡ Ok old → HeldIn sets w' memory n old
  update_in n q v op post to node memory place old all at e =
      held n (PointerTo to) memory old (typed_at (trees_in p) n (Update op post) (PointerTo to) (q ∷ v ∷ []) node)
      (read_law sets system grounds memory (row_in w' q) place (PointerTo to) (kept_row (row_in w' n) (nodes (PointerTo to))) old all at (omega arith)
      (loads_say p (view_of space) system is F closed (PointerTo to) (row_in w' n) (row_in w' q) (type_number (PointerTo to)) (by_value p (view_of space) system is F closed n (Update op post) (PointerTo to) (q ∷ v ∷ []) node)) e)
