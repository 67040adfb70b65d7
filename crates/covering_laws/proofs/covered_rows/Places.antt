-- The rows of places, and of pointers that are made of them.
use Rattle.std.proofs.Common.{arith, ◌≡◌, ◌∙◌, inl, inr, ℕ, ◌+◌, false, Bool, cond, List, [], ◌∷◌, ◌++◌, Option, Some, None, slice_get, unwrap_or, Contains, refl, sym, ap, subst}
use Rattle.std.specs.Option.{option_map}
use Rattle.std.proofs.lemmas.List.{get_or_past}
use Rattle.std.proofs.lemmas.Option.{slice_get_cases}
use Rattle.c_types.specs.declared.key.ObjectKey.{ObjectKey}
use Rattle.c_types.specs.declared.key.ObjectKey.TheVariants.{Text as TextKey}
use Rattle.c_types.specs.declared.term.PathStep.{PathStep}
use Rattle.c_types.specs.declared.term.PathStep.TheVariants.{Index, Member as MemberStep}
use Rattle.c_types.specs.declared.term.Term.{Term}
use Rattle.c_types.specs.declared.term.Term.TheVariants.{Pointer as PointerTerm}
use Rattle.c_types.specs.Trees.{Ctype, VoidType, PointerTo, ArrayOf, grow}
use Rattle.c_types.specs.Table.{Table, types_of, type_of}
use Rattle.c_types.specs.Made.{AreNamed}
use Rattle.c_types.proofs.Grow.{grown_length}
use Rattle.type_rules.proofs.term_types.Grown.{types_grown}
use Rattle.core_tree.specs.declared.node.NodeKind.{NodeKind}
use Rattle.core_tree.specs.declared.node.NodeKind.TheVariants.{Named, Text, Literal, FunctionName, Deref, Member, AddressOf, Decay, PointerAdd, Convert, Upcast}
use Rattle.core_tree.specs.declared.node.Program.{Program}
use Rattle.core_tree.specs.Typed.{trees_in, type_at}
use Rattle.sol_model.specs.declared.system.System.{System}
use Rattle.sol_model.specs.Families.{Family, Has, IsContained}
use Rattle.sol_model.specs.Places.{field_of}
use Rattle.sol_model.specs.Solutions.{IsClosed}
use Rattle.obj_made.specs.declared.object.Content.{Content}
use Rattle.obj_made.specs.declared.object.Content.TheVariants.{Function, Blob, Scalar, Scalars, Typed, Elements}
use Rattle.obj_space.specs.declared.location.Location.{Location}
use Rattle.obj_space.specs.Spots.{Reached, step_from, node_in}
use Rattle.obj_space.specs.View.{first_from, view_of}
use Rattle.row_numbers.specs.Kept.{nodes_of, kept_row}
use Rattle.row_numbers.specs.Numbers.{type_number}
use Rattle.row_numbers.specs.Objects.{entity_key, location_of}
use Rattle.row_numbers.specs.Setting.{Setting}
use Rattle.ref_cells.specs.declared.cells.Cell.{Cell}
use Rattle.ref_cells.specs.declared.cells.Cell.TheVariants.{Pointer, Function as FunctionCell}
use Rattle.ref_cells.specs.declared.instance.Instance.{Instance}
use Rattle.ref_cells.specs.Wholes.{whole_of}
use Rattle.ref_mem.specs.Reads.{one_cell}
use Rattle.normal_form.specs.declared.normal.Assignment.TheVariants.{Address, Copy, Field}
use Rattle.normal_form.specs.Assignments.{row_in, is_pointer, pointed, value_of_kind}
use Rattle.normal_form.specs.SystemOf.{SystemOf}
use Rattle.covering_laws.specs.covered_memory.Spots.{spot_at, spot_from, spot, room, IsInTree}
use Rattle.covering_laws.specs.covered_memory.Covered.{Sets, CellIn, object_row, InstanceIn}
use Rattle.covering_laws.specs.covered_memory.Demands.{Grounds, IsFew}
use Rattle.covering_laws.proofs.covered_memory.Firsts.{is_first}
use Rattle.covering_laws.proofs.covered_memory.Fields.{PointsTo, member_law, element_law, copied_law}
use Rattle.covering_laws.specs.covered_rows.Nodes.{IsNode, PlaceIn, HeldIn}
use Rattle.covering_laws.proofs.covered_rows.Lists.{first_has}
use Rattle.covering_laws.proofs.covered_rows.Demanded.{by_place, by_value, copy_says, address_says, field_says}
use Rattle.covering_laws.proofs.covered_rows.Values.{sets, w', held, of_held}

some_one : {X : Type 0} → {x y : X} → ◌≡◌ {A = Option X} (Some x) (Some y) → x ≡ y
some_one h = cc

none_some : {X : Type 0} → {x : X} → ◌≡◌ {A = Option X} None (Some x) → ⊥
none_some h = cc

-- the first node of an object has its first location
pub object_first : (content : Content) (l : ℕ) → object_row content l 0 ≡ l
object_first Function l = (let e : l + 0 ≡ l = omega arith in e)
object_first Blob l = refl
object_first (Scalar number) l = (let e : l + 0 ≡ l = omega arith in e)
object_first (Scalars number) l = (let e : l + 0 ≡ l = omega arith in e)
object_first (Typed id) l = (let e : l + 0 ≡ l = omega arith in e)
object_first (Elements id) l = (let e : l + 0 ≡ l = omega arith in e)

start_node : (table : Table) (content : Content) → node_in table content [] ≡ Some 0
start_node table Function = refl
start_node table Blob = refl
start_node table (Scalar number) = refl
start_node table (Scalars number) = refl
start_node table (Typed id) = refl
start_node table (Elements id) = refl

-- an object itself is at its first location
pub start_spot : (table : Table) (space : List Location) (key : ObjectKey) (l : ℕ) → first_from 0 space key ≡ Some l → spot table space key [] ≡ Some l
start_spot table space key l first =
    let here = (is_first space key l first).here in
    ap (λ (o : Option ℕ). spot_from table space o []) first
    ∙ (ap (λ (o : Option Location). spot_at table l o []) here.1
    ∙ (ap (option_map (λ (n : ℕ). l + n)) (start_node table here.0.content) ∙ ap (λ (n : ℕ). Some n) (let e : l + 0 ≡ l = omega arith in e)))

-- what a pointer type of a table points to is a type of the table
pub pointed_known : (table : Table) → AreNamed table → (id : ℕ) (s : Ctype) → type_of table id ≡ PointerTo s → (to : ℕ) × (type_of table to ≡ s)
pointed_known table named id s e = elim (slice_get_cases table.terms id).1 [
  | inl found ↦ by found.0 (sym (types_grown table id found.0 named found.2) ∙ e)
  | inr past ↦
      let long = grown_length [] table.terms in
      let far = past.0 in
      let void : type_of table id ≡ VoidType = get_or_past (types_of table) id VoidType (omega arith) in
      absurd (no_pointer (sym void ∙ e))
]
  where
    no_pointer : VoidType ≡ PointerTo s → ⊥
    no_pointer h = cc

    by : (t : Term) → grow (types_of table) t ≡ PointerTo s → (to : ℕ) × (type_of table to ≡ s)
    by (PointerTerm to) h = (to.0, ap pointed h)
    by t h = absurd (let bad : grow (types_of table) t ≡ PointerTo s = h in cc)

module _ (p : Program) (space : List Location) (system : System) (is : SystemOf p (view_of space) system) (F : Family) (closed : IsClosed system F) (grounds : Grounds p.types space system) where
  abbrev g : Sets
  g = sets p space system is F closed grounds

  abbrev w : Setting
  w = w' p space system is F closed grounds

  first_row : (first : ℕ) (t : Ctype) → kept_row first (nodes_of p.types t) 0 ≡ first
  first_row first t = (let e : first + 0 ≡ first = omega arith in e)

  -- a pointer as a value, and as a cell
  pub held_cell : (n : ℕ) (to : Ctype) (memory : List Instance) (c : Cell) → type_at (trees_in p) n ≡ PointerTo to → HeldIn g w memory n (one_cell c) → CellIn g memory (Some (row_in w n)) c
  held_cell n to memory c ty h =
      subst (λ (k : ℕ). CellIn g memory (Some k) c) (first_row (row_in w n) (PointerTo to)) (of_held p space system is F closed grounds n (PointerTo to) memory (one_cell c) ty h).0

  pub cell_held : (n : ℕ) (to : Ctype) (memory : List Instance) (c : Cell) → type_at (trees_in p) n ≡ PointerTo to → CellIn g memory (Some (row_in w n)) c → HeldIn g w memory n (one_cell c)
  cell_held n to memory c ty h =
      held p space system is F closed grounds n (PointerTo to) memory (one_cell c) ty
      (subst (λ (k : ℕ). CellIn g memory (Some k) c) (sym (first_row (row_in w n) (PointerTo to))) h, tt)

  -- the object of a name is in the row of its place
  object_in : (n : ℕ) (key : ObjectKey) → Has F (row_in w n) (unwrap_or (first_from 0 space key) 0) → (memory : List Instance) (i : ℕ) (inst : Instance) (whole : Ctype) → slice_get memory i ≡ Some inst
      → InstanceIn g memory inst → inst.key ≡ key → whole_of p.types inst ≡ Some whole → PlaceIn g w memory n (Pointer i [] false)
  object_in n key has memory i inst whole at inside same typed =
      let there : first_from 0 space key ≡ Some inside.first = ap (first_from 0 space) (sym same) ∙ inside.first_is in
      record {
        inst = inst;
        inst_is = at;
        in_tree = subst (λ (t : Option Ctype). IsInTree p.types t (room inst) []) (sym typed) refl;
        lands = record {
          at = row_in w n;
          location = inside.first;
          row_is = refl;
          found_is = start_spot p.types space inst.key inside.first inside.first_is;
          has = subst (λ (o : Option ℕ). Has F (row_in w n) (unwrap_or o 0)) there has;
        };
      }

  -- Named and Literal
  pub named_in : (n e : ℕ) (t : Ctype) (children : List ℕ) → IsNode (trees_in p) n (Named e) t children → (memory : List Instance) (i : ℕ) (inst : Instance) (whole : Ctype) → slice_get memory i ≡ Some inst
      → InstanceIn g memory inst → inst.key ≡ entity_key e (slice_get p.entities.items e) → whole_of p.types inst ≡ Some whole → PlaceIn g w memory n (Pointer i [] false)
  named_in n e t children node =
      object_in n (entity_key e (slice_get p.entities.items e))
      (address_says p (view_of space) system is F closed (row_in w n) (location_of (trees_in p) (view_of space) e)
      (by_place p (view_of space) system is F closed n (Named e) t children node (Address (row_in w n) (location_of (trees_in p) (view_of space) e)) (first_has (Address (row_in w n) (location_of (trees_in p) (view_of space) e)) [])))

  pub literal_in : (n e : ℕ) (t : Ctype) (children : List ℕ) → IsNode (trees_in p) n (Literal e) t children → (memory : List Instance) (i : ℕ) (inst : Instance) (whole : Ctype) → slice_get memory i ≡ Some inst
      → InstanceIn g memory inst → inst.key ≡ entity_key e (slice_get p.entities.items e) → whole_of p.types inst ≡ Some whole → PlaceIn g w memory n (Pointer i [] false)
  literal_in n e t children node =
      object_in n (entity_key e (slice_get p.entities.items e))
      (address_says p (view_of space) system is F closed (row_in w n) (location_of (trees_in p) (view_of space) e)
      (by_place p (view_of space) system is F closed n (Literal e) t children node (Address (row_in w n) (location_of (trees_in p) (view_of space) e)) (first_has (Address (row_in w n) (location_of (trees_in p) (view_of space) e)) [])))

  -- Text
  pub text_in : (n : ℕ) (bytes : List ℕ) (t : Ctype) (children : List ℕ) → IsNode (trees_in p) n (Text bytes) t children → (memory : List Instance) (i : ℕ) (inst : Instance) (whole : Ctype) → slice_get memory i ≡ Some inst
      → InstanceIn g memory inst → inst.key ≡ TextKey n → whole_of p.types inst ≡ Some whole → PlaceIn g w memory n (Pointer i [] false)
  text_in n bytes t children node =
      object_in n (TextKey n)
      (address_says p (view_of space) system is F closed (row_in w n) (unwrap_or (first_from 0 space (TextKey n)) 0)
      (by_place p (view_of space) system is F closed n (Text bytes) t children node (Address (row_in w n) (unwrap_or (first_from 0 space (TextKey n)) 0)) (first_has (Address (row_in w n) (unwrap_or (first_from 0 space (TextKey n)) 0)) [])))

  -- FunctionName
  pub function_in : (n e l : ℕ) (t : Ctype) (children : List ℕ) → IsNode (trees_in p) n (FunctionName e) t children → first_from 0 space (entity_key e (slice_get p.entities.items e)) ≡ Some l
      → (memory : List Instance) → PlaceIn g w memory n (FunctionCell (entity_key e (slice_get p.entities.items e)))
  function_in n e l t children node first memory =
      let at = location_of (trees_in p) (view_of space) e in
      record {
        at = row_in w n;
        location = l;
        row_is = refl;
        found_is = start_spot p.types space (entity_key e (slice_get p.entities.items e)) l first;
        has = subst (λ (o : Option ℕ). Has F (row_in w n) (unwrap_or o 0)) first
            (address_says p (view_of space) system is F closed (row_in w n) at
            (by_place p (view_of space) system is F closed n (FunctionName e) t children node (Address (row_in w n) at) (first_has (Address (row_in w n) at) [])));
      }

  -- Deref
  pub deref_in : (n v : ℕ) (t to : Ctype) → IsNode (trees_in p) n Deref t (v ∷ []) → type_at (trees_in p) v ≡ PointerTo to → (memory : List Instance) (c : Cell) → HeldIn g w memory v (one_cell c) → PlaceIn g w memory n c
  deref_in n v t to node ty memory c h =
      copied_law g system grounds memory (row_in w v) (row_in w n) c
      (copy_says p (view_of space) system is F closed (row_in w n) (row_in w v)
      (by_place p (view_of space) system is F closed n Deref t (v ∷ []) node (Copy (row_in w n) (row_in w v)) (first_has (Copy (row_in w n) (row_in w v)) [])))
      (held_cell v to memory c ty h)

  -- what has what its operand has
  passes : (n v : ℕ) (kind : NodeKind) (t : Ctype) (children : List ℕ) → IsNode (trees_in p) n kind t children
      → Contains (value_of_kind w n kind t children) (Copy (row_in w n) (row_in w v)) → IsContained F (row_in w v) (row_in w n)
  passes n v kind t children node h =
      copy_says p (view_of space) system is F closed (row_in w n) (row_in w v) (by_value p (view_of space) system is F closed n kind t children node (Copy (row_in w n) (row_in w v)) h)

  -- AddressOf, and Decay of a function
  pub address_in : (n q : ℕ) (t to : Ctype) → IsNode (trees_in p) n AddressOf t (q ∷ []) → type_at (trees_in p) n ≡ PointerTo to → (memory : List Instance) (c : Cell) → PlaceIn g w memory q c → HeldIn g w memory n (one_cell c)
  address_in n q t to node ty memory c h =
      cell_held n to memory c ty (copied_law g system grounds memory (row_in w q) (row_in w n) c (passes n q AddressOf t (q ∷ []) node (first_has (Copy (row_in w n) (row_in w q)) [])) h)

  pub decay_function_in : (n q : ℕ) (t to : Ctype) → IsNode (trees_in p) n Decay t (q ∷ []) → type_at (trees_in p) n ≡ PointerTo to → (memory : List Instance) (c : Cell) → PlaceIn g w memory q c → HeldIn g w memory n (one_cell c)
  decay_function_in n q t to node ty memory c h =
      cell_held n to memory c ty (copied_law g system grounds memory (row_in w q) (row_in w n) c (passes n q Decay t (q ∷ []) node (first_has (Copy (row_in w n) (row_in w q)) [])) h)

  -- Decay of an array: its first element
  pub decay_array_in : (n q : ℕ) (t to of : Ctype) (k : Option ℕ) → IsNode (trees_in p) n Decay t (q ∷ []) → type_at (trees_in p) n ≡ PointerTo to → (memory : List Instance) (i : ℕ) (path : List PathStep) (past : Bool)
      → PointsTo g system grounds memory (row_in w q) i path (ArrayOf of k) → HeldIn g w memory n (one_cell (Pointer i (path ++ Index 0 ∷ []) past))
  decay_array_in n q t to of k node ty memory i path past h =
      cell_held n to memory (Pointer i (path ++ Index 0 ∷ []) past) ty
      (element_law g system grounds memory (row_in w q) i path (ArrayOf of k) h 0 (row_in w n) of k refl (passes n q Decay t (q ∷ []) node (first_has (Copy (row_in w n) (row_in w q)) [])) past)

  -- PointerAdd: the pointer itself
  pub add_in : (n v i : ℕ) (minus : Bool) (t to from : Ctype) → IsNode (trees_in p) n (PointerAdd minus) t (v ∷ i ∷ []) → type_at (trees_in p) n ≡ PointerTo to → type_at (trees_in p) v ≡ PointerTo from
      → (memory : List Instance) (c : Cell) → HeldIn g w memory v (one_cell c) → HeldIn g w memory n (one_cell c)
  add_in n v i minus t to from node ty tv memory c h =
      cell_held n to memory c ty
      (copied_law g system grounds memory (row_in w v) (row_in w n) c (passes n v (PointerAdd minus) t (v ∷ i ∷ []) node (first_has (Copy (row_in w n) (row_in w v)) [])) (held_cell v from memory c tv h))

  -- Convert of a pointer to a pointer
  pub convert_in : (n v : ℕ) (to from : Ctype) → IsNode (trees_in p) n Convert (PointerTo to) (v ∷ []) → type_at (trees_in p) n ≡ PointerTo to → type_at (trees_in p) v ≡ PointerTo from
      → (memory : List Instance) (c : Cell) → HeldIn g w memory v (one_cell c) → HeldIn g w memory n (one_cell c)
  convert_in n v to from node ty tv memory c h =
      cell_held n to memory c ty
      (copied_law g system grounds memory (row_in w v) (row_in w n) c
      (passes n v Convert (PointerTo to) (v ∷ []) node
      (subst (λ (s : Ctype). Contains (cond (is_pointer s) (Copy (row_in w n) (row_in w v) ∷ []) []) (Copy (row_in w n) (row_in w v))) (sym tv) (first_has (Copy (row_in w n) (row_in w v)) [])))
      (held_cell v from memory c tv h))

  -- Member: the place is of that structure or union
  pub member_in : (n q k id : ℕ) (t s : Ctype) → IsNode (trees_in p) n (Member k) t (q ∷ []) → type_at (trees_in p) q ≡ s → type_of p.types id ≡ s → IsFew p.types s
      → (memory : List Instance) (i : ℕ) (path : List PathStep) (past : Bool) (h : PointsTo g system grounds memory (row_in w q) i path s) (part : Reached) → step_from p.types (Some h.part) (MemberStep k) ≡ Some part
      → PlaceIn g w memory n (Pointer i (path ++ MemberStep k ∷ []) past)
  member_in n q k id t s node ty known few memory i path past h part e =
      member_law g system grounds memory (row_in w q) i path s h id k (row_in w n) part known few e
      (subst (λ (u : Ctype). (l m : ℕ) → Has F (row_in w q) l → field_of system l (type_number u) k ≡ Some m → Has F (row_in w n) m) ty
      (field_says p (view_of space) system is F closed (row_in w n) (row_in w q) (type_number (type_at (trees_in p) q)) k
      (by_place p (view_of space) system is F closed n (Member k) t (q ∷ []) node (Field (row_in w n) (row_in w q) (type_number (type_at (trees_in p) q)) k)
      (first_has (Field (row_in w n) (row_in w q) (type_number (type_at (trees_in p) q)) k) [])))) past

  -- Upcast: the first member of the structure pointed to
  pub upcast_in : (n v id : ℕ) (t to s : Ctype) → IsNode (trees_in p) n Upcast t (v ∷ []) → type_at (trees_in p) n ≡ PointerTo to → type_at (trees_in p) v ≡ PointerTo s → type_of p.types id ≡ PointerTo s → IsFew p.types s
      → (memory : List Instance) (i : ℕ) (path : List PathStep) (past : Bool) (h : PointsTo g system grounds memory (row_in w v) i path s) (part : Reached) → step_from p.types (Some h.part) (MemberStep 0) ≡ Some part
      → HeldIn g w memory n (one_cell (Pointer i (path ++ MemberStep 0 ∷ []) past))
  upcast_in n v id t to s node ty tv known few memory i path past h part e =
      let known_s = pointed_known p.types grounds.named id s known in
      cell_held n to memory (Pointer i (path ++ MemberStep 0 ∷ []) past) ty
      (member_law g system grounds memory (row_in w v) i path s h known_s.0 0 (row_in w n) part known_s.1 few e
      (subst (λ (u : Ctype). (l m : ℕ) → Has F (row_in w v) l → field_of system l (type_number (pointed u)) 0 ≡ Some m → Has F (row_in w n) m) tv
      (field_says p (view_of space) system is F closed (row_in w n) (row_in w v) (type_number (pointed (type_at (trees_in p) v))) 0
      (by_value p (view_of space) system is F closed n Upcast t (v ∷ []) node (Field (row_in w n) (row_in w v) (type_number (pointed (type_at (trees_in p) v))) 0)
      (first_has (Field (row_in w n) (row_in w v) (type_number (pointed (type_at (trees_in p) v))) 0) [])))) past)
