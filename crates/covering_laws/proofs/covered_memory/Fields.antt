-- A place's parts are covered: a member at the row of its field, an element at the row of the whole.
use Rattle.std.proofs.Common.{arith, ◌≡◌, ◌∙◌, ℕ, ◌+◌, ◌^◌, ◌<◌, ◌≤◌, Bool, true, false, cond, List, [], ◌∷◌, ◌++◌, length, Option, Some, None, IsSome, slice_get, unwrap_or, refl, sym, ap, subst}
use Rattle.std.specs.Prelude.{option_and_then, is_some}
use Rattle.std.proofs.lemmas.Bool.{lt-ltb}
use Rattle.std.proofs.lemmas.Option.{slice_get_within}
use Rattle.std.specs.Option.{option_map}
use Rattle.c_types.specs.declared.key.ObjectKey.{ObjectKey}
use Rattle.c_types.specs.declared.term.PathStep.{PathStep}
use Rattle.c_types.specs.declared.term.PathStep.TheVariants.{Index, Member}
use Rattle.c_types.specs.Trees.{Ctype, VoidType, BoolType, IntegerType, FloatingType, VaListType, PointerTo, ArrayOf, FunctionFrom, StructureOf, UnionOf}
use Rattle.c_types.specs.Parts.{position, field_in, within_32}
use Rattle.c_types.specs.Paths.{part_type}
use Rattle.c_types.specs.Table.{Table, type_of, extent_in, extents_in}
use Rattle.sol_model.specs.declared.system.System.{System}
use Rattle.sol_model.specs.Families.{Has, IsContained}
use Rattle.sol_model.specs.Places.{node_from, member_position, field_of}
use Rattle.obj_made.specs.declared.object.Content.{Content}
use Rattle.obj_made.specs.declared.object.Content.TheVariants.{Function as FunctionContent, Blob, Scalar, Scalars, Typed, Elements}
use Rattle.obj_space.specs.declared.location.Location.{Location}
use Rattle.obj_space.specs.Parts.{nodes_of as tree_nodes}
use Rattle.obj_space.specs.Spots.{Reached, reached, member_reached, step_by, step_from, part_at, node_in, no_step, one_index}
use Rattle.obj_space.specs.View.{first_from}
use Rattle.obj_space.proofs.Followed.{step_member}
use Rattle.obj_space.proofs.Reach.{path_nodes}
use Rattle.row_numbers.specs.Kept.{member_node}
use Rattle.row_numbers.specs.Numbers.{type_number}
use Rattle.ref_cells.specs.declared.cells.Cell.{Cell}
use Rattle.ref_cells.specs.declared.cells.Cell.TheVariants.{Unset, Number, Null, Pointer, Function as FunctionCell}
use Rattle.ref_cells.specs.declared.instance.Instance.{Instance}
use Rattle.ref_cells.specs.Wholes.{whole_of}
use Rattle.covering_laws.specs.covered_memory.Spots.{room, spot_at, spot_from, spot, IsInTree}
use Rattle.covering_laws.specs.covered_memory.Covered.{Sets, Lands, CellIn, object_row, HasShape, InstanceIn, MemoryIn}
use Rattle.covering_laws.specs.covered_memory.Demands.{Grounds, IsFew}
use Rattle.covering_laws.proofs.covered_memory.Puts.{part_along}
use Rattle.covering_laws.proofs.covered_memory.Parts.{IsMemberAt, structure_at, union_at, stripped, first_node, path_complete, step_complete}
use Rattle.covering_laws.proofs.covered_memory.Anchors.{from_whole, at_part, spot_is}
use Rattle.covering_laws.proofs.covered_memory.Proper.{structure_position, union_position}
use Rattle.covering_laws.proofs.covered_memory.Access.{shape_complete, found_lands}

some_one : {X : Type 0} → {x y : X} → ◌≡◌ {A = Option X} (Some x) (Some y) → x ≡ y
some_one h = cc

none_some : {X : Type 0} → {x : X} → ◌≡◌ {A = Option X} None (Some x) → ⊥
none_some h = cc

module _ (g : Sets) (system : System) (grounds : Grounds g.table g.space system) where
  -- the node of a member, by itself, and what the system knows of it
  pub record Place (t : Ctype) (k : ℕ) (own : Reached) : Type 0 where
    pub known : member_position system (type_number t) k ≡ Some own.node
    pub node : member_node g.table t k ≡ own.node

  small_place : (n : ℕ) → n < 2 ^ 32 → (o : Option ℕ) → o ≡ Some n → unwrap_or (within_32 o) 0 ≡ n
  small_place n lt o e = ap (λ (p : Option ℕ). unwrap_or (within_32 p) 0) e ∙ ap (λ (b : Bool). unwrap_or (cond b (Some n) None) 0) (lt-ltb n (2 ^ 32) lt)

  structure_place : (id tag k : ℕ) (own : Reached) → type_of g.table id ≡ StructureOf tag → IsFew g.table (StructureOf tag) → IsSome (extent_in g.table (StructureOf tag))
      → step_by g.table (StructureOf tag) 0 false (Member k) ≡ Some own → Place (StructureOf tag) k own
  structure_place id tag k own t few complete e = by (part_type g.table (StructureOf tag) (Member k)) refl (sym (step_member g.table (StructureOf tag) 0 false k) ∙ e)
    where
      some : (s : Ctype) (m : IsMemberAt g.table (StructureOf tag) tag k (λ ms. position (extents_in g.table ms) k) s) → reached s (0 + position (extents_in g.table m.members) k) false ≡ own → Place (StructureOf tag) k own
      some s m same =
          let pos = position (extents_in g.table m.members) k in
          let node : pos ≡ own.node = (let z : pos ≡ 0 + pos = omega arith in z) ∙ ap (λ (x : Reached). x.node) same in
          let whole = step_complete g.table grounds.made (StructureOf tag) 0 false (Member k) own complete e in
          let there = path_nodes g.table grounds.made (StructureOf tag) (Member k ∷ []) own complete e (sym (ap (λ (x : Reached). x.inside) same)) 0 (stripped own.ty) (first_node g.table grounds.made own.ty whole) in
          let less : own.node + 0 < length (tree_nodes (extent_in g.table (StructureOf tag))) = slice_get_within (tree_nodes (extent_in g.table (StructureOf tag))) (own.node + 0) (stripped own.ty) there in
          let room : own.node < 2 ^ 32 = omega arith in
          record {
            known = structure_position g.table grounds.made grounds.named system grounds.types id tag k m.members m.member t m.members_are m.there
                ∙ ap (λ (n : ℕ). Some n) (small_place own.node room (field_in g.table (StructureOf tag) k) (m.placed ∙ ap (λ (n : ℕ). Some n) node));
            node = small_place own.node room (field_in g.table (StructureOf tag) k) (m.placed ∙ ap (λ (n : ℕ). Some n) node);
          }

      by : (w : Option Ctype) → part_type g.table (StructureOf tag) (Member k) ≡ w → member_reached (StructureOf tag) w (field_in g.table (StructureOf tag) k) 0 false ≡ Some own → Place (StructureOf tag) k own
      by None is f = absurd (none_some f)
      by (Some s) is f =
          let m = structure_at g.table tag k s is in
          some s m (some_one (sym (ap (λ (p : Option ℕ). member_reached (StructureOf tag) (Some s) p 0 false) m.placed) ∙ f))

  union_place : (id tag k : ℕ) (own : Reached) → type_of g.table id ≡ UnionOf tag → step_by g.table (UnionOf tag) 0 false (Member k) ≡ Some own → Place (UnionOf tag) k own
  union_place id tag k own t e = by (part_type g.table (UnionOf tag) (Member k)) refl (sym (step_member g.table (UnionOf tag) 0 false k) ∙ e)
    where
      some : (s : Ctype) (m : IsMemberAt g.table (UnionOf tag) tag k (λ ms. 0) s) → reached s (0 + 0) true ≡ own → Place (UnionOf tag) k own
      some s m same =
          let node : 0 ≡ own.node = ap (λ (x : Reached). x.node) same in
          record {
            known = union_position g.table grounds.made grounds.named system grounds.types id tag k m.members m.member t m.members_are m.there
                ∙ ap (λ (n : ℕ). Some n) (small_place 0 (omega arith) (field_in g.table (UnionOf tag) k) m.placed ∙ node);
            node = small_place 0 (omega arith) (field_in g.table (UnionOf tag) k) m.placed ∙ node;
          }

      by : (w : Option Ctype) → part_type g.table (UnionOf tag) (Member k) ≡ w → member_reached (UnionOf tag) w (field_in g.table (UnionOf tag) k) 0 false ≡ Some own → Place (UnionOf tag) k own
      by None is f = absurd (none_some f)
      by (Some s) is f =
          let m = union_at g.table tag k s is in
          some s m (some_one (sym (ap (λ (p : Option ℕ). member_reached (UnionOf tag) (Some s) p 0 false) m.placed) ∙ f))

  -- a type of the table's of which a member is
  pub place_of : (id k : ℕ) (t : Ctype) (own : Reached) → type_of g.table id ≡ t → IsFew g.table t → IsSome (extent_in g.table t) → step_by g.table t 0 false (Member k) ≡ Some own → Place t k own
  place_of id k (StructureOf tag) own is few complete e = structure_place id tag k own is few complete e
  place_of id k (UnionOf tag) own is few complete e = union_place id tag k own is e
  place_of id k VoidType own is few complete e = absurd (none_some e)
  place_of id k BoolType own is few complete e = absurd (none_some e)
  place_of id k (IntegerType size rank signed) own is few complete e = absurd (none_some e)
  place_of id k FloatingType own is few complete e = absurd (none_some e)
  place_of id k VaListType own is few complete e = absurd (none_some e)
  place_of id k (PointerTo to) own is few complete e = absurd (none_some e)
  place_of id k (ArrayOf of None) own is few complete e = absurd (none_some e)
  place_of id k (ArrayOf of (Some n)) own is few complete e = absurd (none_some e)
  place_of id k (FunctionFrom a b c) own is few complete e = absurd (none_some e)

  -- a pointer to a part of an instance that has a type
  pub record PointsTo (memory : List Instance) (through i : ℕ) (path : List PathStep) (t : Ctype) : Type 0 where
    pub inst : Instance
    pub inst_is : slice_get memory i ≡ Some inst
    pub inside : InstanceIn g memory inst
    pub whole : Ctype
    pub whole_is : whole_of g.table inst ≡ Some whole
    pub part : Reached
    pub part_is : part_at g.table (Some (reached whole 0 false)) path ≡ Some part
    pub ty : part.ty ≡ t
    pub has : Has g.family through (object_row inside.location.content inside.first part.node)

  module _ (memory : List Instance) (through i : ℕ) (path : List PathStep) (t : Ctype) (p : PointsTo memory through i path t) where
    shape_is : HasShape g.table p.inside.location.content (Some p.whole)
    shape_is = subst (HasShape g.table p.inside.location.content) p.whole_is p.inside.shape

    part_complete : IsSome (extent_in g.table p.part.ty)
    part_complete = path_complete g.table grounds.made p.whole 0 false path p.part (shape_complete g system grounds p.inside.location.content p.whole shape_is) p.part_is

    abbrev own_row : ℕ → ℕ
    own_row n = object_row p.inside.location.content p.inside.first n

    -- the part one step further is there, and its location is that of its node
    further : (step : PathStep) (q : Reached) → step_from g.table (Some p.part) step ≡ Some q → (to : ℕ) → Has g.family to (own_row q.node) → (past : Bool) → CellIn g memory (Some to) (Pointer i (path ++ step ∷ []) past)
    further step q e to has past =
        let along : part_at g.table (Some (reached p.whole 0 false)) (path ++ step ∷ []) ≡ Some q =
        part_along g.table (Some (reached p.whole 0 false)) path (step ∷ []) ∙ (ap (λ (o : Option Reached). part_at g.table o (step ∷ [])) p.part_is ∙ e) in
        let there = spot_is g.table g.space system grounds p.inst.key p.inside.first p.inside.location p.inside.first_is p.inside.location_is (Some p.whole) shape_is (path ++ step ∷ []) q along in
        record {
          inst = p.inst;
          inst_is = p.inst_is;
          in_tree = subst (λ (w : Option Ctype). IsInTree g.table w (room p.inst) (path ++ step ∷ [])) (sym p.whole_is) (ap (λ (o : Option Reached). is_some o) along);
          lands = record { at = to; location = own_row q.node; row_is = refl; found_is = there; has = has };
        }

    -- A covered place's member is covered at the row of the field.
    pub member_law : (id k : ℕ) (to : ℕ) (q : Reached) → type_of g.table id ≡ t → IsFew g.table t → step_from g.table (Some p.part) (Member k) ≡ Some q
        → ((l m : ℕ) → Has g.family through l → field_of system l (type_number t) k ≡ Some m → Has g.family to m) → (past : Bool) → CellIn g memory (Some to) (Pointer i (path ++ Member k ∷ []) past)
    member_law id k to q is few e field past =
        let f = from_whole g.table p.part (Member k ∷ []) q e in
        let own = f.0 in
        let b = f.1 in
        let is_part : type_of g.table id ≡ p.part.ty = is ∙ sym p.ty in
        let place = place_of id k p.part.ty own is_part (subst (IsFew g.table) (sym p.ty) few) part_complete b.own_is in
        let leads = at_part g.table g.space system grounds p.inst.key p.inside.first p.inside.location p.inside.first_is p.inside.location_is (Some p.whole) shape_is path p.part p.part_is own.node q.node b.leads in
        let found : field_of system (own_row p.part.node) (type_number t) k ≡ Some (own_row q.node) =
        ap (λ (n : ℕ). field_of system (own_row p.part.node) n k) (sym (ap type_number p.ty))
        ∙ (ap (option_and_then (λ (d : ℕ). node_from (slice_get system.locations (own_row p.part.node)) (own_row p.part.node) (type_number p.part.ty) d)) place.known ∙ leads) in
        further (Member k) q e to (field (own_row p.part.node) (own_row q.node) p.has found) past

    -- An element of a covered array is covered wherever the array is.
    pub element_law : (j : ℕ) (to : ℕ) (of : Ctype) (n : Option ℕ) → t ≡ ArrayOf of n → IsContained g.family through to → (past : Bool) → CellIn g memory (Some to) (Pointer i (path ++ Index j ∷ []) past)
    element_law j to of n is more past =
        further (Index j) (reached of p.part.node p.part.inside) (ap (λ (s : Ctype). step_by g.table s p.part.node p.part.inside (Index j)) (p.ty ∙ is)) to
        (more (own_row p.part.node) p.has) past

  copied_lands : (from to : ℕ) (found : Option ℕ) → IsContained g.family from to → Lands g.family (Some from) found → Lands g.family (Some to) found
  copied_lands from to found more h = record {
    at = to;
    location = h.location;
    row_is = refl;
    found_is = h.found_is;
    has = more h.location (subst (λ (k : ℕ). Has g.family k h.location) (sym (some_one h.row_is)) h.has);
  }

  -- a covered pointer whose place has a type there
  pub points_to : (memory : List Instance) (through i : ℕ) (path : List PathStep) (past : Bool) (inst : Instance) (whole : Ctype) (part : Reached) → MemoryIn g memory
      → CellIn g memory (Some through) (Pointer i path past) → slice_get memory i ≡ Some inst → whole_of g.table inst ≡ Some whole → part_at g.table (Some (reached whole 0 false)) path ≡ Some part
      → PointsTo memory through i path part.ty
  points_to memory through i path past inst whole part all h at whole_is part_is =
      let inside = all i inst at in
      record {
        inst = inst;
        inst_is = at;
        inside = inside;
        whole = whole;
        whole_is = whole_is;
        part = part;
        part_is = part_is;
        ty = refl;
        has = found_lands g system grounds memory through i path inst at h inside whole whole_is part part_is;
      }

  -- A cell in a row is in each row that has all that the row has.
  pub copied_law : (memory : List Instance) (from to : ℕ) (c : Cell) → IsContained g.family from to → CellIn g memory (Some from) c → CellIn g memory (Some to) c
  copied_law memory from to (Pointer i path past) more h = record {
    inst = h.inst;
    inst_is = h.inst_is;
    in_tree = h.in_tree;
    lands = copied_lands from to (spot g.table g.space h.inst.key path) more h.lands;
  }
  copied_law memory from to (FunctionCell key) more h = copied_lands from to (spot g.table g.space key []) more h
  copied_law memory from to Unset more h = tt
  copied_law memory from to (Number n) more h = tt
  copied_law memory from to Null more h = tt

-- the location at a path doesn't depend on its last index
module _ (table : Table) where
  step_index : (o : Option Reached) (a b : ℕ) → step_from table o (Index a) ≡ step_from table o (Index b)
  step_index None a b = refl
  step_index (Some r) a b = by r.ty
    where
      by : (t : Ctype) → step_by table t r.node r.inside (Index a) ≡ step_by table t r.node r.inside (Index b)
      by VoidType = refl
      by BoolType = refl
      by (IntegerType size rank signed) = refl
      by FloatingType = refl
      by VaListType = refl
      by (PointerTo to) = refl
      by (ArrayOf of n) = refl
      by (FunctionFrom p q s) = refl
      by (StructureOf tag) = refl
      by (UnionOf tag) = refl

  pub part_index : (o : Option Reached) (front : List PathStep) (a b : ℕ) → part_at table o (front ++ Index a ∷ []) ≡ part_at table o (front ++ Index b ∷ [])
  part_index o [] a b = step_index o a b
  part_index o (step ∷ front) a b = part_index (step_from table o step) front a b

  no_end : (front : List PathStep) (a : ℕ) → no_step (front ++ Index a ∷ []) ≡ None
  no_end [] a = refl
  no_end (step ∷ front) a = refl

  one_end : (front : List PathStep) (a b : ℕ) → one_index (front ++ Index a ∷ []) ≡ one_index (front ++ Index b ∷ [])
  one_end [] a b = refl
  one_end (Index i ∷ front) a b = no_end front a ∙ sym (no_end front b)
  one_end (Member k ∷ front) a b = refl

  node_index : (content : Content) (front : List PathStep) (a b : ℕ) → node_in table content (front ++ Index a ∷ []) ≡ node_in table content (front ++ Index b ∷ [])
  node_index FunctionContent front a b = no_end front a ∙ sym (no_end front b)
  node_index Blob front a b = refl
  node_index (Scalar number) front a b = no_end front a ∙ sym (no_end front b)
  node_index (Scalars number) front a b = one_end front a b
  node_index (Typed id) front a b = ap (option_map (λ (r : Reached). r.node)) (part_index (Some (reached (type_of table id.0) 0 false)) front a b)
  node_index (Elements id) front a b = ap (option_map (λ (r : Reached). r.node)) (part_index (Some (reached (ArrayOf (type_of table id.0) None) 0 false)) front a b)

  pub spot_index : (space : List Location) (key : ObjectKey) (front : List PathStep) (a b : ℕ) → spot table space key (front ++ Index a ∷ []) ≡ spot table space key (front ++ Index b ∷ [])
  spot_index space key front a b = by (first_from 0 space key)
    where
      at : (l : ℕ) (o : Option Location) → spot_at table l o (front ++ Index a ∷ []) ≡ spot_at table l o (front ++ Index b ∷ [])
      at l None = refl
      at l (Some x) = ap (option_map (λ (n : ℕ). l + n)) (node_index x.content front a b)

      by : (o : Option ℕ) → spot_from table space o (front ++ Index a ∷ []) ≡ spot_from table space o (front ++ Index b ∷ [])
      by None = refl
      by (Some l) = at l (slice_get space l)

module _ (g : Sets) where
  index_is : (a i : ℕ) → ◌≡◌ {A = List PathStep} (Index a ∷ []) (Index i ∷ []) → a ≡ i
  index_is a i e = (let same : Index a ≡ Index i = cc in cc)

  index_only : (front : List PathStep) (a b i : ℕ) → front ++ Index a ∷ [] ≡ Index i ∷ [] → (front ++ Index b ∷ [] ≡ Index b ∷ []) × (a ≡ i)
  index_only [] a b i e = (refl, index_is a i e)
  index_only (x ∷ []) a b i e = absurd (let bad : ◌≡◌ {A = List PathStep} (x ∷ Index a ∷ []) (Index i ∷ []) = e in cc)
  index_only (x ∷ y ∷ front) a b i e = absurd (let bad : ◌≡◌ {A = List PathStep} (x ∷ y ∷ (front ++ Index a ∷ [])) (Index i ∷ []) = e in cc)

  -- the new index isn't greater where there is no type
  in_tree_index : (whole : Option Ctype) (most : ℕ) (front : List PathStep) (a b : ℕ) → (whole ≡ None → b ≤ a) → IsInTree g.table whole most (front ++ Index a ∷ []) → IsInTree g.table whole most (front ++ Index b ∷ [])
  in_tree_index None most front a b less h =
      let le = less refl in
      let same = index_only front a b h.0 h.1 in
      (b, same.0, (let m = h.2 in let q = same.1 in omega arith))
  in_tree_index (Some t) most front a b less h = sym (ap is_some (part_index g.table (Some (reached t 0 false)) front a b)) ∙ h

  -- A pointer that is moved in its array stays in the same rows.
  pub moved_law : (memory : List Instance) (row : Option ℕ) (i : ℕ) (front : List PathStep) (a b : ℕ) (past gone : Bool)
      → ((inst : Instance) → slice_get memory i ≡ Some inst → whole_of g.table inst ≡ None → b ≤ a)
      → CellIn g memory row (Pointer i (front ++ Index a ∷ []) past) → CellIn g memory row (Pointer i (front ++ Index b ∷ []) gone)
  moved_law memory row i front a b past gone less h = record {
    inst = h.inst;
    inst_is = h.inst_is;
    in_tree = in_tree_index (whole_of g.table h.inst) (room h.inst) front a b (less h.inst h.inst_is) h.in_tree;
    lands = subst (Lands g.family row) (spot_index g.table g.space h.inst.key front a b) h.lands;
  }
