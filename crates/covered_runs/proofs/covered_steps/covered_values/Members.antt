-- Members of places and of values, and pointers to the first elements and members.
use Rattle.std.proofs.Common.{arith, ◌≡◌, ◌∙◌, inl, inr, ℕ, ◌+◌, ◌<◌, Bool, true, false, cond, not, eqb, ◌&&◌, List, [], ◌∷◌, Option, Some, None, Ok, Err, IsSome, slice_get, refl, sym, ap, subst}
use Rattle.std.proofs.lemmas.Bool.{false≢true}
use Rattle.c_types.specs.declared.term.MemberTerm.{MemberTerm}
use Rattle.c_types.specs.declared.term.PathStep.TheVariants.{Index, Member as MemberStep}
use Rattle.c_types.specs.Trees.{Ctype, VoidType, BoolType, IntegerType, FloatingType, VaListType, PointerTo, ArrayOf, FunctionFrom, StructureOf, UnionOf}
use Rattle.c_types.specs.Made.{IsMade}
use Rattle.c_types.specs.Parts.{position, field_in}
use Rattle.c_types.specs.Paths.{part_type}
use Rattle.c_types.specs.Table.{Table, type_of, extent_in, extents_in, members_in}
use Rattle.type_rules.specs.Kinds.{LacksLength}
use Rattle.type_rules.specs.Members.{IsMemberOf, in_list}
use Rattle.type_rules.specs.Conversions.{IsFirstOf, decayed}
use Rattle.core_tree.specs.declared.node.Node.{Node}
use Rattle.core_tree.specs.declared.node.NodeKind.TheVariants.{Member, Decay, Upcast, MemberOfValue}
use Rattle.core_tree.specs.declared.node.Program.{Program}
use Rattle.core_tree.specs.Rows.{IsArray}
use Rattle.core_tree.specs.Typed.{CoreTrees, type_in, type_at}
use Rattle.obj_space.specs.Spots.{Reached, reached, member_reached}
use Rattle.obj_space.proofs.Followed.{step_member}
use Rattle.row_numbers.specs.Setting.{Setting}
use Rattle.ref_cells.specs.declared.cells.Reason.TheVariants.{Mismatch}
use Rattle.ref_cells.specs.declared.cells.Cell.{Cell}
use Rattle.ref_cells.specs.declared.cells.Cell.TheVariants.{Unset, Number, Null, Pointer, Function}
use Rattle.ref_cells.specs.declared.cells.Value.{Value}
use Rattle.ref_cells.specs.declared.instance.Instance.{Instance}
use Rattle.ref_cells.specs.Cells.{CellList, under}
use Rattle.ref_cells.specs.Values.{active}
use Rattle.ref_mem.specs.Reads.{one_cell}
use Rattle.ref_elements.specs.Outcomes.{Effect, Effected, gives}
use Rattle.ref_elements.proofs.SameTypes.{type_true}
use Rattle.ref_state.specs.Values.{cell_of}
use Rattle.ref_places.specs.Places.{is_type, member_row, is_array, decay_row, upcast_row}
use Rattle.ref_values.specs.Memory.{is_union, is_empty, value_within, member_of_value_row}
use Rattle.normal_form.specs.Assignments.{row_in}
use Rattle.covering_laws.specs.covered_types.Whole.{IsFew, IsWhole}
use Rattle.covering_laws.specs.covered_memory.Covered.{Sets, CellIn, ValueIn, MemoryIn}
use Rattle.covering_laws.proofs.covered_memory.Fields.{PointsTo}
use Rattle.covering_laws.proofs.covered_memory.Parts.{structure_at, union_at}
use Rattle.covering_laws.proofs.covered_memory.Walks.{part_steps}
use Rattle.covering_laws.specs.covered_rows.Nodes.{IsNode, node_row, PlaceIn, HeldIn}
use Rattle.covering_laws.proofs.covered_rows.Values.{typed_at}
use Rattle.covering_laws.proofs.covered_rows.Places.{pointed_known, decay_function_in, decay_array_in, member_in, upcast_in}
use Rattle.covering_laws.proofs.covered_rows.Members.{structure_value_in, union_value_in}
use Rattle.covering_laws.specs.covered_state.World.{World, trees_of, sets_of, setting_in}
use Rattle.covered_runs.specs.covered_steps.covered_values.Values.{Stands}
use Rattle.covered_runs.proofs.covered_steps.covered_values.Types.{none_some, some_one, member_part}
use Rattle.covered_runs.proofs.covered_steps.covered_values.Operands.{ok_one, err_ok, first_held}
use Rattle.covered_runs.proofs.covered_steps.covered_values.Places.{stepped_inv}

array_inv : (t : Ctype) → is_array (Some t) ≡ true → (of : Ctype) × (k : Option ℕ) × (t ≡ ArrayOf of k)
array_inv (ArrayOf of k) e = (of, k, refl)
array_inv VoidType e = absurd (false≢true e)
array_inv BoolType e = absurd (false≢true e)
array_inv (IntegerType size rank signed) e = absurd (false≢true e)
array_inv FloatingType e = absurd (false≢true e)
array_inv VaListType e = absurd (false≢true e)
array_inv (PointerTo to) e = absurd (false≢true e)
array_inv (FunctionFrom r ps f) e = absurd (false≢true e)
array_inv (StructureOf tag) e = absurd (false≢true e)
array_inv (UnionOf tag) e = absurd (false≢true e)

pub record IsUp (table : Table) (a t : Ctype) : Type 0 where
  pub tag : ℕ
  pub first : Ctype
  pub from : a ≡ PointerTo (StructureOf tag)
  pub to : t ≡ PointerTo first
  pub member : IsMemberOf table (StructureOf tag) 0 first

pub first_inv : (table : Table) (a t : Ctype) → IsFirstOf table a t → IsUp table a t
first_inv table (PointerTo (StructureOf tag)) (PointerTo first) h = record { tag = tag; first = first; from = refl; to = refl; member = h }
first_inv table a t h = absurd h

-- what is no array has no array's length to lack
pub no_array : (t : Ctype) → (IsArray t → ⊥) → LacksLength t → ⊥
no_array (ArrayOf of n) other lacks = other tt
no_array t other lacks = lacks

module _ (table : Table) (made : IsMade table) where
  incomplete : (t : Ctype) → LacksLength t → IsSome (extent_in table t) → ⊥
  incomplete (ArrayOf of None) lacks h = false≢true h
  incomplete t lacks h = lacks

  -- a first member is no flexible array
  first_by : (tag : ℕ) (o : Option (List MemberTerm)) (m : MemberTerm) → members_in table tag ≡ o → in_list o 0 ≡ Some m → LacksLength (type_of table m.ty.0) → ⊥
  first_by tag None m is at lacks = none_some at
  first_by tag (Some ms) m is at lacks = elim (made.members tag ms is 0 m at).1.object [
    | inl complete ↦ incomplete (type_of table m.ty.0) lacks complete
    | inr last ↦ (let after : 0 < 0 = last.after in omega arith)
  ]

  pub first_long : (tag : ℕ) (t : Ctype) → IsMemberOf table (StructureOf tag) 0 t → LacksLength t → ⊥
  first_long tag t h lacks = first_by tag (members_in table tag) h.member refl h.stands (subst LacksLength (sym h.type) lacks)

module _ (world : World) where
  abbrev p : Program
  p = world.program

  abbrev u : CoreTrees
  u = trees_of world

  abbrev g : Sets
  g = sets_of world

  abbrev w : Setting
  w = setting_in world

  pub pointer_held : (memory : List Instance) (c : ℕ) (to : Ctype) (v : Value) → type_at u c ≡ PointerTo to → HeldIn g w memory c v → HeldIn g w memory c (one_cell (cell_of v))
  pointer_held memory c to v ty h =
      subst (λ (s : Ctype). ValueIn g memory (node_row w c) s (one_cell (cell_of v))) (sym ty)
      (first_held g memory (node_row w c) to v (subst (λ (s : Ctype). ValueIn g memory (node_row w c) s v) ty h))

  module _ (stands : Stands world) where
    -- the type of a node is one of the table's, with few nodes
    pub node_known : (q : ℕ) (x : Node) (s : Ctype) → slice_get u.nodes q ≡ Some x → type_at u q ≡ s → type_of p.types x.ty.0 ≡ s
    node_known q x s there ty = sym (ap (type_in p.types) there) ∙ ty

    pub node_few : (q : ℕ) (x : Node) (s : Ctype) → slice_get u.nodes q ≡ Some x → type_at u q ≡ s → IsFew p.types s
    node_few q x s there ty = subst (IsFew p.types) (node_known q x s there ty) (stands.few x.ty.0)

    module _ (memory : List Instance) (all : MemoryIn g memory) where
      pub member_node : (n q k : ℕ) (t s : Ctype) → IsNode u n (Member k) t (q ∷ []) → (x : Node) → slice_get u.nodes q ≡ Some x → type_at u q ≡ s → IsMemberOf p.types s k t → (LacksLength t → ⊥)
          → (place c : Cell) → PlaceIn g w memory q place → member_row p.types memory place s k ≡ Ok c → PlaceIn g w memory n c
      unfolding member_row
      member_node n q k t s node x there ty member full place c h e =
          let inv = stepped_inv world stands memory all (is_type s) refl (row_in w q) place (MemberStep k) c h e in
          let same : inv.part.ty ≡ s = type_true inv.part.ty s inv.part.passes in
          let points : PointsTo g world.system stands.grounds memory (row_in w q) inv.i inv.path s = subst (PointsTo g world.system stands.grounds memory (row_in w q) inv.i inv.path) same inv.part.points in
          let steps = part_steps p.types points.part.ty points.part.node points.part.inside (MemberStep k) t
          (ap (λ (z : Ctype). part_type p.types z (MemberStep k)) points.ty ∙ member_part p.types s k t member full) in
          subst (PlaceIn g w memory n) inv.cell_is
          (member_in p world.space world.system world.is_system world.family stands.closed stands.grounds n q k x.ty.0 t s node ty (node_known q x s there ty) (node_few q x s there ty)
          memory inv.i inv.path inv.past points steps.part steps.part_is)

      -- Decay
      pub decay_node : (n q : ℕ) (t : Ctype) → IsNode u n Decay t (q ∷ []) → decayed (type_at u q) ≡ Some t → (place c : Cell) → PlaceIn g w memory q place
          → decay_row p.types memory place (type_at u q) ≡ Ok c → HeldIn g w memory n (one_cell c)
      unfolding decay_row
      decay_node n q t node row place c h e = by (type_at u q) row e
        where
          own : type_at u n ≡ t
          own = typed_at u n Decay t (q ∷ []) node

          by : (s : Ctype) → decayed s ≡ Some t → decay_row p.types memory place s ≡ Ok c → HeldIn g w memory n (one_cell c)
          by (FunctionFrom r ps f) d x =
              subst (λ (z : Cell). HeldIn g w memory n (one_cell z)) (ok_one x)
              (decay_function_in p world.space world.system world.is_system world.family stands.closed stands.grounds n q t (FunctionFrom r ps f) node (own ∙ sym (some_one d)) memory place h)
          by (ArrayOf of k) d x =
              let inv = stepped_inv world stands memory all is_array refl (row_in w q) place (Index 0) c h x in
              let array = array_inv inv.part.ty inv.part.passes in
              subst (λ (z : Cell). HeldIn g w memory n (one_cell z)) inv.cell_is
              (decay_array_in p world.space world.system world.is_system world.family stands.closed stands.grounds n q t of array.0 array.1 node (own ∙ sym (some_one d)) memory inv.i inv.path inv.past
              (subst (PointsTo g world.system stands.grounds memory (row_in w q) inv.i inv.path) array.2 inv.part.points))
          by VoidType d x = absurd (none_some d)
          by BoolType d x = absurd (none_some d)
          by (IntegerType size rank signed) d x = absurd (none_some d)
          by FloatingType d x = absurd (none_some d)
          by VaListType d x = absurd (none_some d)
          by (PointerTo to) d x = absurd (none_some d)
          by (StructureOf tag) d x = absurd (none_some d)
          by (UnionOf tag) d x = absurd (none_some d)

      -- Upcast
      pub upcast_node : (n v : ℕ) (t : Ctype) → IsNode u n Upcast t (v ∷ []) → (x : Node) → slice_get u.nodes v ≡ Some x → (up : IsUp p.types (type_at u v) t) → (from c : Cell) → HeldIn g w memory v (one_cell from)
          → CellIn g memory (Some (row_in w v)) from → upcast_row p.types memory from (PointerTo (StructureOf up.tag)) ≡ Ok c → HeldIn g w memory n (one_cell c)
      unfolding member_row
      upcast_node n v t node x there up from c h at e = by from at e
        where
          s : Ctype
          s = StructureOf up.tag

          tv : type_at u v ≡ PointerTo (StructureOf up.tag)
          tv = up.from

          known : type_of p.types x.ty.0 ≡ PointerTo (StructureOf up.tag)
          known = node_known v x (PointerTo (StructureOf up.tag)) there tv

          few : IsFew p.types (StructureOf up.tag)
          few = let k = pointed_known p.types stands.grounds.named x.ty.0 (StructureOf up.tag) known in subst (IsFew p.types) k.1 (stands.few k.0)

          rest : (place : Cell) → CellIn g memory (Some (row_in w v)) place → member_row p.types memory place (StructureOf up.tag) 0 ≡ Ok c → HeldIn g w memory n (one_cell c)
          rest place at e =
              let inv = stepped_inv world stands memory all (is_type (StructureOf up.tag)) refl (row_in w v) place (MemberStep 0) c at e in
              let same : inv.part.ty ≡ StructureOf up.tag = type_true inv.part.ty (StructureOf up.tag) inv.part.passes in
              let points : PointsTo g world.system stands.grounds memory (row_in w v) inv.i inv.path (StructureOf up.tag) = subst (PointsTo g world.system stands.grounds memory (row_in w v) inv.i inv.path) same inv.part.points in
              let steps = part_steps p.types points.part.ty points.part.node points.part.inside (MemberStep 0) up.first
              (ap (λ (z : Ctype). part_type p.types z (MemberStep 0)) points.ty ∙ member_part p.types (StructureOf up.tag) 0 up.first up.member (first_long p.types stands.grounds.made up.tag up.first up.member)) in
              subst (λ (z : Cell). HeldIn g w memory n (one_cell z)) inv.cell_is
              (upcast_in p world.space world.system world.is_system world.family stands.closed stands.grounds n v x.ty.0 t up.first (StructureOf up.tag) node
              (typed_at u n Upcast t (v ∷ []) node ∙ up.to) tv known few memory inv.i inv.path inv.past points steps.part steps.part_is)

          by : (from : Cell) → CellIn g memory (Some (row_in w v)) from → upcast_row p.types memory from (PointerTo (StructureOf up.tag)) ≡ Ok c → HeldIn g w memory n (one_cell c)
          by Null at e = subst (λ (z : Cell). HeldIn g w memory n (one_cell z)) (ok_one e) (tt, tt)
          by Unset at e = rest Unset at e
          by (Number k) at e = rest (Number k) at e
          by (Pointer i path past) at e = rest (Pointer i path past) at e
          by (Function key) at e = rest (Function key) at e

      -- what is taken out of a value
      within_held : (n : ℕ) (xs : CellList) → HeldIn g w memory n (record { cells = xs }) → HeldIn g w memory n (value_within xs)
      within_held n [] h = h
      within_held n (([], Unset) ∷ []) h = tt
      within_held n (([], Unset) ∷ (e ∷ rest)) h = h
      within_held n (([], Number k) ∷ rest) h = h
      within_held n (([], Null) ∷ rest) h = h
      within_held n (([], Pointer i path past) ∷ rest) h = h
      within_held n (([], Function key) ∷ rest) h = h
      within_held n (((step ∷ path), c) ∷ rest) h = h

      module _ (n k v : ℕ) (t : Ctype) (node : IsNode u n (MemberOfValue k) t (v ∷ [])) (x : Node) (there : slice_get u.nodes v ≡ Some x) (other : IsArray t → ⊥) (value : Value) (h : HeldIn g w memory v value) where
        taken_by : (s : Ctype) → type_at u v ≡ s → IsMemberOf p.types s k t → HeldIn g w memory n (record { cells = under (MemberStep k) value.cells })
        taken_by s ty member = by s ty member (member_part p.types s k t member (no_array t other))
          where
            whole_t : (z : Ctype) → IsMemberOf p.types z k t → IsWhole p.types t
            whole_t z m = record { complete = (stands.whole.members z k t m (no_array t other)).part; few = subst (IsFew p.types) m.type (stands.few m.member.ty.0) }

            whole_s : (z : Ctype) → type_at u v ≡ z → IsMemberOf p.types z k t → IsWhole p.types z
            whole_s z is m = record { complete = (stands.whole.members z k t m (no_array t other)).whole_one; few = node_few v x z there is }

            by : (z : Ctype) → type_at u v ≡ z → IsMemberOf p.types z k t → part_type p.types z (MemberStep k) ≡ Some t → HeldIn g w memory n (record { cells = under (MemberStep k) value.cells })
            by (StructureOf tag) is m part =
                let at = structure_at p.types tag k t part in
                let own : Reached = reached t (0 + position (extents_in p.types at.members) k) false in
                structure_value_in p world.space world.system world.is_system world.family stands.closed stands.grounds n k v x.ty.0 tag t node is (node_known v x (StructureOf tag) there is)
                (whole_t (StructureOf tag) m) (whole_s (StructureOf tag) is m) own
                (step_member p.types (StructureOf tag) 0 false k
                ∙ (ap (λ (z : Option Ctype). member_reached (StructureOf tag) z (field_in p.types (StructureOf tag) k) 0 false) part
                ∙ ap (λ (o : Option ℕ). member_reached (StructureOf tag) (Some t) o 0 false) at.placed)) refl refl memory value h
            by (UnionOf tag) is m part =
                let at = union_at p.types tag k t part in
                let own : Reached = reached t (0 + 0) true in
                union_value_in p world.space world.system world.is_system world.family stands.closed stands.grounds n k v tag t node is (whole_t (UnionOf tag) m) (whole_s (UnionOf tag) is m) own
                (step_member p.types (UnionOf tag) 0 false k
                ∙ (ap (λ (z : Option Ctype). member_reached (UnionOf tag) z (field_in p.types (UnionOf tag) k) 0 false) part
                ∙ ap (λ (o : Option ℕ). member_reached (UnionOf tag) (Some t) o 0 false) at.placed)) refl refl refl memory value h
            by VoidType is m part = absurd (none_some m.stands)
            by BoolType is m part = absurd (none_some m.stands)
            by (IntegerType size rank signed) is m part = absurd (none_some m.stands)
            by FloatingType is m part = absurd (none_some m.stands)
            by VaListType is m part = absurd (none_some m.stands)
            by (PointerTo to) is m part = absurd (none_some m.stands)
            by (ArrayOf of z) is m part = absurd (none_some m.stands)
            by (FunctionFrom r ps f) is m part = absurd (none_some m.stands)

        -- MemberOfValue
        pub taken_node : IsMemberOf p.types (type_at u v) k t → HeldIn g w memory n (value_within (under (MemberStep k) value.cells))
        taken_node member = within_held n (under (MemberStep k) value.cells) (taken_by (type_at u v) refl member)

      pub taken_inv : (s : Ctype) (k : ℕ) (cells : CellList) (e : Effected) → member_of_value_row memory s k cells ≡ Ok e → gives memory (value_within (under (MemberStep k) cells)) ≡ Ok e
      unfolding member_of_value_row
      taken_inv s k cells e is = by (is_union s && (not (is_empty cells) && not (eqb (active cells) k))) is
        where
          by : (b : Bool) → (let r : Effect = cond b (Err Mismatch) (gives memory (value_within (under (MemberStep k) cells))) in r) ≡ Ok e → gives memory (value_within (under (MemberStep k) cells)) ≡ Ok e
          by true f = absurd (err_ok f)
          by false f = f
