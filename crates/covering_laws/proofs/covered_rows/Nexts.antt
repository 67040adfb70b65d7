-- VarArgs and NextArg: lists of what variadic functions are passed past their parameters.
use Rattle.std.proofs.Common.{arith, ◌≡◌, ◌∙◌, ℕ, ◌+◌, ◌<◌, ◌≤◌, true, false, List, [], ◌∷◌, Option, Some, None, Ok, slice_get, unwrap_or, refl, sym, ap, subst}
use Rattle.c_types.specs.declared.key.ObjectKey.{ObjectKey}
use Rattle.c_types.specs.declared.key.ObjectKey.TheVariants.{Varargs as VarargsKey, Outside as OutsideKey, Entity as EntityKey, Text as TextKey, Call as CallKey, Library as LibraryKey, Star as StarKey, Function as FunctionKey}
use Rattle.c_types.specs.declared.term.PathStep.TheVariants.{Index}
use Rattle.c_types.specs.Trees.{Ctype, VaListType, PointerTo}
use Rattle.core_tree.specs.declared.node.NodeKind.TheVariants.{VarArgs, NextArg}
use Rattle.core_tree.specs.declared.node.Program.{Program}
use Rattle.core_tree.specs.Typed.{trees_in, type_at}
use Rattle.sol_model.specs.declared.system.System.{System}
use Rattle.sol_model.specs.Families.{Family, Has, IsContained}
use Rattle.sol_model.specs.Places.{sub_of}
use Rattle.sol_model.specs.Solutions.{IsClosed}
use Rattle.obj_made.specs.declared.object.Content.{Content}
use Rattle.obj_space.specs.declared.location.Location.{Location}
use Rattle.obj_space.specs.View.{first_from, view_of}
use Rattle.row_numbers.specs.Kept.{nodes_of, kept_at, kept_row}
use Rattle.row_numbers.specs.Numbers.{type_number}
use Rattle.row_numbers.specs.Setting.{Setting, list_row}
use Rattle.ref_cells.specs.declared.cells.Cell.{Cell}
use Rattle.ref_cells.specs.declared.cells.Cell.TheVariants.{Pointer}
use Rattle.ref_cells.specs.declared.instance.Instance.{Instance}
use Rattle.ref_cells.specs.Cells.{CellList, under}
use Rattle.ref_cells.specs.Wholes.{typed_whole, whole_of}
use Rattle.ref_mem.specs.Reads.{one_cell, read}
use Rattle.ref_state.specs.Values.{first_cell}
use Rattle.normal_form.specs.declared.normal.Assignment.TheVariants.{Address, Load}
use Rattle.normal_form.specs.Assignments.{row_in, loads}
use Rattle.normal_form.specs.SystemOf.{SystemOf}
use Rattle.covering_laws.specs.covered_memory.Cells.{EachCell}
use Rattle.covering_laws.specs.covered_memory.Spots.{spot, IsFurther, room_by, room, IsInTree}
use Rattle.covering_laws.specs.covered_memory.Covered.{Sets, Lands, CellIn, further_row, cell_row, InstanceIn, MemoryIn}
use Rattle.covering_laws.specs.covered_memory.Demands.{Grounds, ContentTells}
use Rattle.covering_laws.proofs.covered_memory.Cells.{each_change, each_under}
use Rattle.covering_laws.proofs.covered_memory.Stays.{further_spot}
use Rattle.covering_laws.proofs.covered_memory.Anchors.{collapsed_from}
use Rattle.covering_laws.proofs.covered_memory.Access.{read_law, zero_kept}
use Rattle.covering_laws.proofs.covered_memory.Fields.{copied_law, spot_index}
use Rattle.covering_laws.specs.covered_rows.Nodes.{IsNode, PlaceIn, HeldIn}
use Rattle.covering_laws.proofs.covered_rows.Lists.{first_has, behind_has}
use Rattle.covering_laws.proofs.covered_rows.Demanded.{by_value, address_says, load_says, loads_say}
use Rattle.covering_laws.proofs.covered_rows.Values.{sets, w', held}
use Rattle.covering_laws.proofs.covered_rows.Places.{cell_held}

some_one : {X : Type 0} → {x y : X} → ◌≡◌ {A = Option X} (Some x) (Some y) → x ≡ y
some_one h = cc

-- what is covered in an object of further arguments is in its one row
own_row : (key : ObjectKey) → IsFurther key → (first : ℕ) (row : Option ℕ) → further_row key first row ≡ Some first
own_row (VarargsKey e) f first row = refl
own_row (EntityKey n) f first row = absurd f
own_row (TextKey n) f first row = absurd f
own_row (CallKey n) f first row = absurd f
own_row (LibraryKey n) f first row = absurd f
own_row (StarKey n) f first row = absurd f
own_row OutsideKey f first row = absurd f
own_row (FunctionKey n) f first row = absurd f

-- the first cell of what is listed under a step
first_listed : (P : Cell → Type 0) → P (first_cell []) → (cells : CellList) → EachCell (λ p c. P c) cells → P (first_cell cells)
first_listed P none [] h = none
first_listed P none (e ∷ rest) h = h.0

module _ (p : Program) (space : List Location) (system : System) (is : SystemOf p (view_of space) system) (F : Family) (closed : IsClosed system F) (grounds : Grounds p.types space system) where
  abbrev g : Sets
  g = sets p space system is F closed grounds

  abbrev w : Setting
  w = w' p space system is F closed grounds

  untyped_whole : (memory : List Instance) (inst : Instance) → InstanceIn g memory inst → IsFurther inst.key → whole_of p.types inst ≡ None
  untyped_whole memory inst inside f = ap (typed_whole p.types inst) (inside.further f).0

  key_further : (e : ℕ) (key : ObjectKey) → key ≡ VarargsKey e → IsFurther key
  key_further e key is = subst IsFurther (sym is) tt

  -- a list as a value
  list_held : (n : ℕ) (memory : List Instance) (c : Cell) → type_at (trees_in p) n ≡ VaListType → CellIn g memory (Some (row_in w n)) c → HeldIn g w memory n (one_cell c)
  list_held n memory c ty h =
      held p space system is F closed grounds n VaListType memory (one_cell c) ty
      (subst (λ (k : ℕ). CellIn g memory (Some k) c) (let e : row_in w n ≡ row_in w n + 0 = omega arith in e) h, tt)

  -- VarArgs: the first place of the function's object
  pub varargs_in : (n e : ℕ) (t : Ctype) (children : List ℕ) → IsNode (trees_in p) n (VarArgs e) t children → type_at (trees_in p) n ≡ VaListType → (memory : List Instance) (i : ℕ) (inst : Instance) → slice_get memory i ≡ Some inst
      → InstanceIn g memory inst → inst.key ≡ VarargsKey e → HeldIn g w memory n (one_cell (Pointer i (Index 0 ∷ []) false))
  varargs_in n e t children node ty memory i inst at inside key =
      let f = key_further e inst.key key in
      let first : first_from 0 space (VarargsKey e) ≡ Some inside.first = ap (first_from 0 space) (sym key) ∙ inside.first_is in
      let has = address_says p (view_of space) system is F closed (row_in w n) (unwrap_or (first_from 0 space (VarargsKey e)) 0)
      (by_value p (view_of space) system is F closed n (VarArgs e) t children node (Address (row_in w n) (unwrap_or (first_from 0 space (VarargsKey e)) 0))
      (first_has (Address (row_in w n) (unwrap_or (first_from 0 space (VarargsKey e)) 0)) [])) in
      list_held n memory (Pointer i (Index 0 ∷ []) false) ty
      (record {
        inst = inst;
        inst_is = at;
        in_tree = subst (λ (o : Option Ctype). IsInTree p.types o (room inst) (Index 0 ∷ [])) (sym (untyped_whole memory inst inside f)) (0, refl, omega arith);
        lands = record {
          at = row_in w n;
          location = inside.first;
          row_is = refl;
          found_is = further_spot g memory inst inside (inside.further f).1 (Index 0 ∷ []);
          has = subst (λ (o : Option ℕ). Has F (row_in w n) (unwrap_or o 0)) first has;
        };
      })

  -- the list behind an argument is where the list in front of it is
  pub next_list : (memory : List Instance) (e i k : ℕ) (inst : Instance) → slice_get memory i ≡ Some inst → InstanceIn g memory inst → inst.key ≡ VarargsKey e → k < inst.bytes → (row : Option ℕ)
      → CellIn g memory row (Pointer i (Index k ∷ []) false) → CellIn g memory row (Pointer i (Index (k + 1) ∷ []) false)
  next_list memory e i k inst at inside key lt row h = record {
    inst = inst;
    inst_is = at;
    in_tree = subst (λ (o : Option Ctype). IsInTree p.types o (room inst) (Index (k + 1) ∷ [])) (sym (untyped_whole memory inst inside (key_further e inst.key key))) (k + 1, refl, within);
    lands = subst (Lands F row) (ap (λ (x : Instance). spot p.types space x.key (Index k ∷ [])) (some_one (sym h.inst_is ∙ at)) ∙ spot_index p.types space inst.key [] k (k + 1)) h.lands;
  }
    where
      counts : (key : ObjectKey) → key ≡ VarargsKey e → room_by key inst.bytes ≡ inst.bytes
      counts key q = ap (λ (x : ObjectKey). room_by x inst.bytes) q

      within : k + 1 ≤ room inst
      within = (let q : room_by inst.key inst.bytes ≡ inst.bytes = counts inst.key key in omega arith)

  module _ (n q : ℕ) (t : Ctype) (node : IsNode (trees_in p) n NextArg t (q ∷ [])) (memory : List Instance) (all : MemoryIn g memory) where
    -- the list at the place is in the row of the lists
    list_there : (place c : Cell) → PlaceIn g w memory q place → read p.types memory place VaListType ≡ Ok (one_cell c) → CellIn g memory (Some (list_row (trees_in p) (view_of space) n)) c
    list_there place c at e =
        (read_law g system grounds memory (row_in w q) place VaListType (λ i. list_row (trees_in p) (view_of space) n) (one_cell c) all at (omega arith)
        (λ i kept l m has sub. load_says p (view_of space) system is F closed (list_row (trees_in p) (view_of space) n) (row_in w q) 7 0
        (by_value p (view_of space) system is F closed n NextArg t (q ∷ []) node (Load (list_row (trees_in p) (view_of space) n) (row_in w q) 7 0)
        (first_has (Load (list_row (trees_in p) (view_of space) n) (row_in w q) 7 0) (loads (nodes_of p.types t) (row_in w n) (list_row (trees_in p) (view_of space) n) (type_number t)))) l m has
        (ap (λ (j : ℕ). sub_of system l 7 j) (sym (zero_kept g system grounds VaListType tt i kept)) ∙ sub)) e).0

    -- NextArg of a pointer: what the list's object has is in the node's row
    pub next_held : (place : Cell) (e i k : ℕ) (to : Ctype) (inst : Instance) → t ≡ PointerTo to → type_at (trees_in p) n ≡ PointerTo to → PlaceIn g w memory q place
        → read p.types memory place VaListType ≡ Ok (one_cell (Pointer i (Index k ∷ []) false)) → slice_get memory i ≡ Some inst → inst.key ≡ VarargsKey e
        → HeldIn g w memory n (one_cell (first_cell (under (Index k) inst.cells)))
    next_held place e i k to inst is_pointer ty at read_is inst_is key =
        cell_held p space system is F closed grounds n to memory (first_cell (under (Index k) inst.cells)) ty
        (copied_law g system grounds memory inside.first (row_in w n) (first_cell (under (Index k) inst.cells)) contained
        (first_listed (λ c. CellIn g memory (Some inside.first) c) tt (under (Index k) inst.cells) (each_under (λ path c. CellIn g memory (Some inside.first) c) (Index k) inst.cells own)))
      where
        inside : InstanceIn g memory inst
        inside = all i inst inst_is

        further : IsFurther inst.key
        further = key_further e inst.key key

        own : EachCell (λ path c. CellIn g memory (Some inside.first) c) inst.cells
        own =
            each_change (λ path c. CellIn g memory (cell_row p.types inst inside.location.content inside.first path) c) (λ path c. CellIn g memory (Some inside.first) c) inst.cells
            (λ path c h. subst (λ (o : Option ℕ). CellIn g memory o c) (own_row inst.key further inside.first _) h) inside.cells

        listed : Has F (list_row (trees_in p) (view_of space) n) inside.first
        listed =
            let h = list_there place (Pointer i (Index k ∷ []) false) at read_is in
            let spot_is : Some h.lands.location ≡ Some inside.first =
            sym h.lands.found_is ∙ (ap (λ (x : Instance). spot p.types space x.key (Index k ∷ [])) (some_one (sym h.inst_is ∙ inst_is)) ∙ further_spot g memory inst inside (inside.further further).1 (Index k ∷ [])) in
            subst (λ (l : ℕ). Has F (list_row (trees_in p) (view_of space) n) l) (some_one spot_is) (subst (λ (r : ℕ). Has F r h.lands.location) (sym (some_one h.lands.row_is)) h.lands.has)

        sub : sub_of system inside.first (type_number t) 0 ≡ Some inside.first
        sub =
            collapsed_from p.types space system grounds inside.first inside.location (type_number t) 0 inside.location_is
            (subst (λ (c : Content). ContentTells c inside.location) (inside.further further).1 (grounds.contents inside.first inside.location inside.location_is))

        kept_first : kept_at (slice_get (nodes_of p.types t) 0) ≡ true
        kept_first = subst (λ (s : Ctype). kept_at (slice_get (nodes_of p.types s) 0) ≡ true) (sym is_pointer) refl

        contained : IsContained F inside.first (row_in w n)
        contained =
            subst (λ (r : ℕ). IsContained F inside.first r) (let z : row_in w n + 0 ≡ row_in w n = omega arith in z)
            (loads_say p (view_of space) system is F closed t (row_in w n) (list_row (trees_in p) (view_of space) n) (type_number t)
            (λ a c. by_value p (view_of space) system is F closed n NextArg t (q ∷ []) node a
            (behind_has a (Load (list_row (trees_in p) (view_of space) n) (row_in w q) 7 0) (loads (nodes_of p.types t) (row_in w n) (list_row (trees_in p) (view_of space) n) (type_number t)) c))
            0 kept_first inside.first inside.first listed sub)
