-- A list is moved on to its next argument.
use Rattle.std.proofs.Common.{◌≡◌, ◌∙◌, inl, inr, ℕ, ◌+◌, nat_le, Bool, true, false, cond, List, [], ◌∷◌, Option, Some, None, Result, Ok, Err, slice_get, refl, sym, ap, subst}
use Rattle.std.proofs.lemmas.Bool.{false≢true, leb-false}
use Rattle.c_types.specs.declared.key.ObjectKey.{ObjectKey}
use Rattle.c_types.specs.declared.key.ObjectKey.TheVariants.{Varargs as VarargsKey}
use Rattle.c_types.specs.declared.term.PathStep.TheVariants.{Index, Member}
use Rattle.c_types.specs.declared.term.TypeId.{TypeId}
use Rattle.c_types.specs.Trees.{Ctype, PointerTo}
use Rattle.c_types.specs.Table.{type_of}
use Rattle.type_rules.specs.Kinds.{IsPointer}
use Rattle.core_tree.specs.declared.node.Node.{Node}
use Rattle.core_tree.specs.declared.node.NodeKind.{NodeKind}
use Rattle.core_tree.specs.declared.node.NodeKind.TheVariants.{NextArg}
use Rattle.core_tree.specs.Rows.{RowOf, NextArgRow}
use Rattle.core_tree.specs.Typed.{CoreTrees, PlaceNode, sort_at, type_at}
use Rattle.ref_cells.specs.declared.cells.Reason.{Reason}
use Rattle.ref_cells.specs.declared.cells.Reason.TheVariants.{DeadUse, OutOfRange, Mismatch}
use Rattle.ref_cells.specs.declared.cells.Cell.{Cell}
use Rattle.ref_cells.specs.declared.cells.Cell.TheVariants.{Unset, Number, Null, Pointer, Function}
use Rattle.ref_cells.specs.declared.cells.Value.{Value}
use Rattle.ref_cells.specs.declared.instance.Instance.{Instance}
use Rattle.ref_cells.specs.Cells.{under}
use Rattle.ref_mem.specs.Reads.{read, one_cell}
use Rattle.ref_mem.specs.Writes.{write}
use Rattle.ref_elements.specs.Runs.{◌>>=◌, live_at}
use Rattle.ref_elements.specs.Outcomes.{Effected, stores_and_gives}
use Rattle.ref_state.specs.declared.frames.Frame.{Frame}
use Rattle.ref_state.specs.Values.{cell_of, cell_in, first_cell}
use Rattle.ref_values.specs.Memory.{stores_at}
use Rattle.ref_frames.specs.Running.{Running}
use Rattle.ref_calls.specs.declared.lists.Taken.{Taken}
use Rattle.ref_calls.specs.Lists.{points, held_value, argument_node, is_argument, argument_value, argument_at, list_from, taken_by, taken, put_back, taken_over, taken_at}
use Rattle.covering_laws.specs.covered_memory.Covered.{MemoryIn}
use Rattle.covering_laws.specs.covered_state.World.{World, trees_of, sets_of}
use Rattle.covering_laws.specs.covered_state.Items.{Each, NodeIn}
use Rattle.covered_runs.specs.covered_steps.covered_values.Values.{Stands, IsComputed, IsCellOf}
use Rattle.covered_runs.proofs.covered_steps.covered_values.Operands.{place_held, went, ok_one, err_ok}
use Rattle.covered_runs.proofs.covered_steps.covered_values.Nexts.{nexts_covered}
use Rattle.covered_runs.specs.covered_steps.covered_statements.Rows.{running_in}

live_there : (o : Option Instance) (inst : Instance) → live_at o ≡ Ok inst → o ≡ Some inst
live_there None inst h = absurd (err_ok h)
live_there (Some x) inst h = by x.live h
  where
    by : (b : Bool) → (let r : Result Instance Reason = cond b (Ok x) (Err DeadUse) in r) ≡ Ok inst → Some x ≡ Some inst
    by true g = ap (λ (y : Instance). Some y) (ok_one g)
    by false g = absurd (err_ok g)

-- only what is passed past parameters has arguments
further_key : (w : Running) (frames : List Frame) (i k : ℕ) (t : Ctype) (key : ObjectKey) → is_argument w.trees t (argument_node w frames i k key) ≡ true → (e : ℕ) × (key ≡ VarargsKey e)
further_key w frames i k t (VarargsKey e) h = (e, refl)
further_key w frames i k t key h = absurd (false≢true h)

module _ (w : Running) (memory : List Instance) (frames : List Frame) (place : Cell) (s t : Ctype) (list : Value) (list_is : read w.trees.types memory place s ≡ Ok list) where
  -- what an instance's argument gives
  argument_so : (i k : ℕ) (inst : Instance) (v : Value) → argument_at w frames i k t inst ≡ Ok v
      → (nat_le inst.bytes k ≡ false) × ((e : ℕ) × (inst.key ≡ VarargsKey e)) × (held_value t (first_cell (under (Index k) inst.cells)) ≡ Ok v)
  argument_so i k inst v h = by (nat_le inst.bytes k) refl h
    where
      typed : (b : Bool) → is_argument w.trees t (argument_node w frames i k inst.key) ≡ b → argument_value t (under (Index k) inst.cells) b ≡ Ok v
          → ((e : ℕ) × (inst.key ≡ VarargsKey e)) × (held_value t (first_cell (under (Index k) inst.cells)) ≡ Ok v)
      typed true is g = (further_key w frames i k t inst.key is, g)
      typed false is g = absurd (err_ok g)

      by : (b : Bool) → nat_le inst.bytes k ≡ b → (let r : Result Value Reason = cond b (Err OutOfRange) (argument_value t (under (Index k) inst.cells) (is_argument w.trees t (argument_node w frames i k inst.key))) in r) ≡ Ok v
          → (nat_le inst.bytes k ≡ false) × ((e : ℕ) × (inst.key ≡ VarargsKey e)) × (held_value t (first_cell (under (Index k) inst.cells)) ≡ Ok v)
      by true is g = absurd (err_ok g)
      by false is g = (let r = typed (is_argument w.trees t (argument_node w frames i k inst.key)) refl g in (is, r.0, r.1))

  -- what a list gives
  pub record IsFound (next : Taken) : Type 0 where
    pub i : ℕ
    pub k : ℕ
    pub cell_is : cell_of list ≡ Pointer i (Index k ∷ []) false
    pub inst : Instance
    pub there : slice_get memory i ≡ Some inst
    pub within : nat_le inst.bytes k ≡ false
    pub further : (e : ℕ) × (inst.key ≡ VarargsKey e)
    pub value : Value
    pub value_is : held_value t (first_cell (under (Index k) inst.cells)) ≡ Ok value
    pub next_is : next ≡ record { place = place; list = list_from i (k + 1); value = value }

  found_so : (c : Cell) (next : Taken) → cell_of list ≡ c → taken_by w memory frames place t c ≡ Ok next → IsFound next
  found_so (Pointer i (Index k ∷ []) false) next is h =
      let a = went (live_at (slice_get memory i)) (λ inst. argument_at w frames i k t inst >>= λ value. Ok (record { place = place; list = list_from i (k + 1); value = value })) next h in
      let b = went (argument_at w frames i k t a.0) (λ value. Ok (record { place = place; list = list_from i (k + 1); value = value })) next a.2 in
      let r = argument_so i k a.0 b.0 b.1 in
      record {
        i = i;
        k = k;
        cell_is = is;
        inst = a.0;
        there = live_there (slice_get memory i) a.0 a.1;
        within = r.0;
        further = r.1;
        value = b.0;
        value_is = r.2;
        next_is = sym (ok_one b.2);
      }
  found_so (Pointer i (Index k ∷ []) true) next is h = absurd (err_ok h)
  found_so (Pointer i [] past) next is h = absurd (err_ok h)
  found_so (Pointer i (Member m ∷ path) past) next is h = absurd (err_ok h)
  found_so (Pointer i (Index k ∷ step ∷ path) past) next is h = absurd (err_ok h)
  found_so Null next is h = absurd (err_ok h)
  found_so Unset next is h = absurd (err_ok h)
  found_so (Number n) next is h = absurd (err_ok h)
  found_so (Function key) next is h = absurd (err_ok h)

-- a cell as a value of a type
points_pointer : (t : Ctype) → points t ≡ true → IsPointer t
points_pointer (PointerTo to) h = tt
points_pointer t h = absurd (false≢true h)

cell_held : (t : Ctype) (c : Cell) (v : Value) → held_value t c ≡ Ok v → IsCellOf t c v
cell_held t (Pointer i path past) v h = by (points t) refl h
  where
    by : (b : Bool) → points t ≡ b → (let r : Result Value Reason = cond b (Ok (one_cell (Pointer i path past))) (Err Mismatch) in r) ≡ Ok v → IsCellOf t (Pointer i path past) v
    by true is g = record { value_is = sym (ok_one g); points = inl (points_pointer t is) }
    by false is g = absurd (err_ok g)
cell_held t (Function key) v h = by (points t) refl h
  where
    by : (b : Bool) → points t ≡ b → (let r : Result Value Reason = cond b (Ok (one_cell (Function key))) (Err Mismatch) in r) ≡ Ok v → IsCellOf t (Function key) v
    by true is g = record { value_is = sym (ok_one g); points = inl (points_pointer t is) }
    by false is g = absurd (err_ok g)
cell_held t Unset v h = absurd (err_ok h)
cell_held t (Number n) v h = record { value_is = sym (ok_one h); points = inr tt }
cell_held t Null v h = record { value_is = sym (ok_one h); points = inr tt }

-- a list stands at a place
list_place : (u : CoreTrees) (t : Ctype) (children : List ℕ) → NextArgRow u t children → (p : ℕ) × (children ≡ p ∷ []) × (sort_at u p ≡ PlaceNode)
list_place u t (p ∷ []) row = (p, refl, row.0.0)
list_place u t [] row = absurd row
list_place u t (p ∷ q ∷ rest) row = absurd row

-- what the whole step computes is covered
pub next_computed : (world : World) (characters : TypeId) (stands : Stands world) (memory : List Instance) (frames : List Frame) (n : ℕ) (node : Node) (values : List (ℕ × Value)) (e : Effected) → MemoryIn (sets_of world) memory
    → slice_get (trees_of world).nodes n ≡ Some node → node.kind ≡ NextArg → Each (λ v. NodeIn world memory v.0 v.1) values
    → taken_at (running_in world characters) memory frames (slice_get (trees_of world).nodes n) values ≡ Ok e → IsComputed world memory n e
next_computed world characters stands memory frames n node values e all there kind each h =
    let w : Running = running_in world characters in
    let t : Ctype = type_of world.program.types node.ty.0 in
    let row = list_place (trees_of world) t node.children (subst (λ (k : NodeKind). RowOf (trees_of world) k t node.children) kind (stands.rows n node there)) in
    let p : ℕ = row.0 in
    let place : Cell = cell_in values p in
    let s : Ctype = type_at (trees_of world) p in
    let over : taken_over w memory frames t (p ∷ []) values ≡ Ok e =
    sym (ap (λ (o : Option Node). taken_at w memory frames o values) there ∙ ap (λ (cs : List ℕ). taken_over w memory frames t cs values) row.1) ∙ h in
    let a = went (taken w memory frames place s t) (put_back world.program.types memory s) e over in
    let b = went (read world.program.types memory place s) (λ list. taken_by w memory frames place t (cell_of list)) a.0 a.1 in
    let f = found_so w memory frames place s t b.0 b.1 (cell_of b.0) a.0 refl b.2 in
    let put : put_back world.program.types memory s (record { place = place; list = list_from f.i (f.k + 1); value = f.value }) ≡ Ok e = sym (ap (put_back world.program.types memory s) f.next_is) ∙ a.2 in
    let c = went (write world.program.types memory place s (list_from f.i (f.k + 1))) (λ after. stores_and_gives after f.value (stores_at place (list_from f.i (f.k + 1)).cells)) e put in
    nexts_covered world memory c.0 n p node place f.value e stands all there kind row.1 (place_held world memory values each p row.2)
    (record {
      list = b.0;
      list_is = b.1;
      i = f.i;
      k = f.k;
      points = f.cell_is;
      inst = f.inst;
      inst_is = f.there;
      e = f.further.0;
      key = f.further.1;
      within = leb-false f.inst.bytes f.k f.within;
      value_is = cell_held t (first_cell (under (Index f.k) f.inst.cells)) f.value f.value_is;
      after_is = c.1;
    })
    c.2
