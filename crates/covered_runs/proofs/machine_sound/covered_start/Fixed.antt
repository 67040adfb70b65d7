-- The fixed values of the initialisers of static objects are covered at their nodes.
use Rattle.std.proofs.Common.{◌≡◌, ◌∙◌, inr, ℕ, zero, suc, ◌+◌, Bool, true, false, List, [], ◌∷◌, Option, Some, None, Result, Ok, Err, IfOk, slice_get, refl, sym, ap, subst}
use Rattle.std.specs.Option.{option_and_then}
use Rattle.c_types.specs.declared.term.PathStep.{PathStep}
use Rattle.c_types.specs.declared.term.PathStep.TheVariants.{Index, Member as MemberStep}
use Rattle.c_types.specs.declared.term.TypeId.{TypeId}
use Rattle.c_types.specs.declared.term.Term.{Term}
use Rattle.c_types.specs.declared.term.Term.TheVariants.{Pointer as PointerTerm}
use Rattle.c_types.specs.Trees.{Ctype, VoidType, BoolType, IntegerType, FloatingType, VaListType, PointerTo, ArrayOf, FunctionFrom, StructureOf, UnionOf}
use Rattle.c_types.specs.Table.{Table, type_of}
use Rattle.type_rules.specs.Conversions.{Converts}
use Rattle.type_rules.proofs.term_types.Grown.{types_grown}
use Rattle.core_tree.specs.declared.node.Node.{Node}
use Rattle.core_tree.specs.declared.node.NodeKind.{NodeKind}
use Rattle.core_tree.specs.declared.node.NodeKind.TheVariants.{Named, Text, Literal, FunctionName, Deref, Member, Number, NullValue, AddressOf, Decay, PointerAdd, Convert, Upcast, Choose, Arith}
use Rattle.core_tree.specs.Rows.{RowOf, ConvertRow}
use Rattle.core_tree.specs.Typed.{Sort, sort_of, type_in, type_at}
use Rattle.obj_space.specs.Spots.{Reached, reached, part_at}
use Rattle.obj_space.proofs.Followed.{no_part}
use Rattle.ref_cells.specs.declared.cells.Reason.{Reason}
use Rattle.ref_cells.specs.declared.cells.Cell.{Cell}
use Rattle.ref_cells.specs.declared.cells.Cell.TheVariants.{Unset, Number as NumberCell, Null, Pointer, Function}
use Rattle.ref_cells.specs.declared.cells.Value.{Value}
use Rattle.ref_cells.specs.declared.instance.Instance.{Instance}
use Rattle.ref_elements.specs.Outcomes.{Effected}
use Rattle.ref_state.specs.Values.{cell_of, cell_in}
use Rattle.ref_values.specs.Values.{is_true, computed}
use Rattle.ref_start.specs.declared.fixed.Way.{Way}
use Rattle.ref_start.specs.declared.fixed.Way.TheVariants.{Computed, Alone, Kept, Chosen, Never}
use Rattle.ref_start.specs.Fixed.{Keeps, convert_way, way_of, Fixing, with_value, all_fixed, value_of, value_over, kept_by, branch_if, branch_by, chosen_by, fixed_by, fixed_in, fixed_to, fixed}
use Rattle.ref_start.proofs.MemoryKept.{computed_leaves}
use Rattle.covering_laws.specs.covered_types.Whole.{IsHeld, HasValue}
use Rattle.covering_laws.specs.covered_memory.Covered.{CellIn, pointer_row, MemoryIn}
use Rattle.covering_laws.specs.covered_rows.Nodes.{node_row}
use Rattle.covering_laws.proofs.covered_memory.Cells.{each_change}
use Rattle.covering_laws.proofs.covered_memory.Stays.{cell_from_none}
use Rattle.covering_laws.proofs.covered_rows.Places.{convert_in}
use Rattle.covering_laws.specs.covered_state.World.{World, trees_of, sets_of, setting_in}
use Rattle.covering_laws.specs.covered_state.Items.{Each, SortIn, NodeIn}
use Rattle.covered_runs.specs.covered_steps.covered_values.Values.{Stands, MayType}
use Rattle.covered_runs.proofs.covered_steps.covered_values.Operands.{value_node}
use Rattle.covered_runs.proofs.covered_steps.covered_values.Passed.{choices_covered}
use Rattle.covered_runs.proofs.covered_steps.covered_values.Computed.{values_covered}
use Rattle.covered_runs.specs.machine_sound.covered_start.Objects.{TakeAny}
use Rattle.covered_runs.specs.machine_sound.covered_start.Fixed.{FixedCovered}

some_one : {X : Type 0} → {x y : X} → ◌≡◌ {A = Option X} (Some x) (Some y) → x ≡ y
some_one h = cc

none_some : {X : Type 0} → {x : X} → ◌≡◌ {A = Option X} None (Some x) → ⊥
none_some h = cc

-- which kinds keep their operand's value, and which choose
kept_term : (term : Option Term) → convert_way term ≡ Kept → (to : TypeId) × (term ≡ Some (PointerTerm to))
kept_term (Some (PointerTerm to)) h = (to, refl)
kept_term term h = absurd (let bad : Computed ≡ Kept = h in cc)

kept_kind : (kind : NodeKind) (term : Option Term) → way_of kind term ≡ Kept → (kind ≡ Convert) × (convert_way term ≡ Kept)
kept_kind Convert term h = (refl, h)
kept_kind (Named e) term h = absurd (let bad : Computed ≡ Kept = h in cc)
kept_kind (Text bytes) term h = absurd (let bad : Computed ≡ Kept = h in cc)
kept_kind (Literal e) term h = absurd (let bad : Alone ≡ Kept = h in cc)
kept_kind (FunctionName e) term h = absurd (let bad : Computed ≡ Kept = h in cc)
kept_kind Deref term h = absurd (let bad : Computed ≡ Kept = h in cc)
kept_kind (Member k) term h = absurd (let bad : Computed ≡ Kept = h in cc)
kept_kind (Number n) term h = absurd (let bad : Computed ≡ Kept = h in cc)
kept_kind NullValue term h = absurd (let bad : Computed ≡ Kept = h in cc)
kept_kind AddressOf term h = absurd (let bad : Computed ≡ Kept = h in cc)
kept_kind Decay term h = absurd (let bad : Computed ≡ Kept = h in cc)
kept_kind (PointerAdd minus) term h = absurd (let bad : Computed ≡ Kept = h in cc)
kept_kind Upcast term h = absurd (let bad : Computed ≡ Kept = h in cc)
kept_kind Choose term h = absurd (let bad : Chosen ≡ Kept = h in cc)
kept_kind (Arith op) term h = absurd (let bad : Computed ≡ Kept = h in cc)
kept_kind kind term h = absurd (let bad : Never ≡ Kept = h in cc)

convert_chosen : (term : Option Term) → convert_way term ≡ Chosen → ⊥
convert_chosen (Some (PointerTerm to)) h = (let bad : Kept ≡ Chosen = h in cc)
convert_chosen term h = (let bad : Computed ≡ Chosen = h in cc)

chosen_kind : (kind : NodeKind) (term : Option Term) → way_of kind term ≡ Chosen → kind ≡ Choose
chosen_kind Choose term h = refl
chosen_kind Convert term h = absurd (convert_chosen term h)
chosen_kind (Named e) term h = absurd (let bad : Computed ≡ Chosen = h in cc)
chosen_kind (Text bytes) term h = absurd (let bad : Computed ≡ Chosen = h in cc)
chosen_kind (Literal e) term h = absurd (let bad : Alone ≡ Chosen = h in cc)
chosen_kind (FunctionName e) term h = absurd (let bad : Computed ≡ Chosen = h in cc)
chosen_kind Deref term h = absurd (let bad : Computed ≡ Chosen = h in cc)
chosen_kind (Member k) term h = absurd (let bad : Computed ≡ Chosen = h in cc)
chosen_kind (Number n) term h = absurd (let bad : Computed ≡ Chosen = h in cc)
chosen_kind NullValue term h = absurd (let bad : Computed ≡ Chosen = h in cc)
chosen_kind AddressOf term h = absurd (let bad : Computed ≡ Chosen = h in cc)
chosen_kind Decay term h = absurd (let bad : Computed ≡ Chosen = h in cc)
chosen_kind (PointerAdd minus) term h = absurd (let bad : Computed ≡ Chosen = h in cc)
chosen_kind Upcast term h = absurd (let bad : Computed ≡ Chosen = h in cc)
chosen_kind (Arith op) term h = absurd (let bad : Computed ≡ Chosen = h in cc)
chosen_kind kind term h = absurd (let bad : Never ≡ Chosen = h in cc)

-- only a pointer is converted to a pointer
converts_pointer : (a b : Ctype) → Converts a (PointerTo b) → (from : Ctype) × (a ≡ PointerTo from)
converts_pointer (PointerTo from) b h = (from, refl)
converts_pointer VoidType b h = absurd h
converts_pointer BoolType b h = absurd h
converts_pointer (IntegerType size rank signed) b h = absurd h
converts_pointer FloatingType b h = absurd h
converts_pointer VaListType b h = absurd h
converts_pointer (ArrayOf of n) b h = absurd h
converts_pointer (FunctionFrom result parameters form) b h = absurd h
converts_pointer (StructureOf tag) b h = absurd h
converts_pointer (UnionOf tag) b h = absurd h

-- a pointer has no parts
no_parts : (table : Table) (to : Ctype) (step : PathStep) (rest : List PathStep) → part_at table (Some (reached (PointerTo to) 0 false)) (step ∷ rest) ≡ None
no_parts table to (Index i) rest = no_part table rest
no_parts table to (MemberStep k) rest = no_part table rest

module _ (world : World) (stands : Stands world) (memory : List Instance) (all : MemoryIn (sets_of world) memory) (take : TakeAny (sets_of world) memory) where
  may_type : (cell : Cell) (ty : TypeId) → MayType world memory cell ty
  may_type (Pointer i path past) ty = λ inst id at none points h. take i inst id at none h
  may_type Unset ty = tt
  may_type (NumberCell n) ty = tt
  may_type Null ty = tt
  may_type (Function key) ty = tt

  abbrev pub Fixes : Fixing → Type 0
  Fixes fix = (n : ℕ) (v : Value) → fix n ≡ Some v → NodeIn world memory n v

  -- the values of operands
  with_one : (c : ℕ) (o : Option Value) (list : Option (List (ℕ × Value))) (values : List (ℕ × Value)) → with_value c o list ≡ Some values
      → ((v : Value) → o ≡ Some v → NodeIn world memory c v)
      → ((vs : List (ℕ × Value)) → list ≡ Some vs → Each (λ v. NodeIn world memory v.0 v.1) vs)
      → Each (λ v. NodeIn world memory v.0 v.1) values
  with_one c (Some v) (Some vs) values e one more = subst (λ (l : List (ℕ × Value)). Each (λ v. NodeIn world memory v.0 v.1) l) (some_one e) (one v refl, more vs refl)
  with_one c (Some v) None values e one more = absurd (none_some e)
  with_one c None (Some vs) values e one more = absurd (none_some e)
  with_one c None None values e one more = absurd (none_some e)

  all_of : (fix : Fixing) → Fixes fix → (children : List ℕ) (values : List (ℕ × Value)) → all_fixed fix children ≡ Some values → Each (λ v. NodeIn world memory v.0 v.1) values
  all_of fix h [] values e = subst (λ (l : List (ℕ × Value)). Each (λ v. NodeIn world memory v.0 v.1) l) (some_one e) tt
  all_of fix h (c ∷ rest) values e = with_one c (fix c) (all_fixed fix rest) values e (h c) (all_of fix h rest)

  module _ (n : ℕ) (node : Node) (there : slice_get (trees_of world).nodes n ≡ Some node) where
    -- a node that is computed over covered values
    over : (values : List (ℕ × Value)) → Each (λ v. NodeIn world memory v.0 v.1) values → Keeps (way_of node.kind (slice_get (trees_of world).types.terms node.ty.0)) → (v : Value) → value_over (trees_of world) memory n node values ≡ Some v
        → NodeIn world memory n v
    over values each keeps v e = by (computed (trees_of world) memory [] n node values 0) refl e
      where
        by : (r : Result Effected Reason) → computed (trees_of world) memory [] n node values 0 ≡ r → value_of r ≡ Some v → NodeIn world memory n v
        by (Err reason) is f = absurd (none_some f)
        by (Ok x) is f =
            let c = values_covered world memory [] n node values 0 x stands all there each (λ w kind children. may_type (cell_in values w) node.ty) is in
            let same : x.memory ≡ memory = subst (λ (r : Result Effected Reason). IfOk r (λ y. y.memory ≡ memory)) is (computed_leaves (trees_of world) memory n node values 0 keeps) in
            subst (λ (w : Value). NodeIn world memory n w) (some_one f) (subst (λ (m : List Instance). NodeIn world m n x.outcome.value) same c.value)

    computed_by_operands : (fix : Fixing) → Fixes fix → Keeps (way_of node.kind (slice_get (trees_of world).types.terms node.ty.0)) → (v : Value) (o : Option (List (ℕ × Value))) → all_fixed fix node.children ≡ o
        → option_and_then (value_over (trees_of world) memory n node) o ≡ Some v → NodeIn world memory n v
    computed_by_operands fix h keeps v None is e = absurd (none_some e)
    computed_by_operands fix h keeps v (Some values) is e = over values (all_of fix h node.children values is) keeps v e

    -- a pointer that is converted to a pointer
    module _ (kind : node.kind ≡ Convert) (x : ℕ) (children : node.children ≡ x ∷ []) (to : TypeId) (term : slice_get (trees_of world).types.terms node.ty.0 ≡ Some (PointerTerm to)) where
      pointer : type_of world.program.types node.ty.0 ≡ PointerTo (type_of world.program.types to.0)
      pointer = types_grown world.program.types node.ty.0 (PointerTerm to) stands.grounds.named term

      own : type_at (trees_of world) n ≡ PointerTo (type_of world.program.types to.0)
      own = ap (type_in world.program.types) there ∙ pointer

      row : ConvertRow (trees_of world) (PointerTo (type_of world.program.types to.0)) (x ∷ [])
      row =
          subst (λ (t : Ctype). ConvertRow (trees_of world) t (x ∷ [])) pointer
          (subst (λ (k : NodeKind). RowOf (trees_of world) k (type_of world.program.types node.ty.0) (x ∷ [])) kind
          (subst (λ (cs : List ℕ). RowOf (trees_of world) node.kind (type_of world.program.types node.ty.0) cs) children (stands.rows n node there)))

      from : (f : Ctype) × (type_at (trees_of world) x ≡ PointerTo f)
      from = converts_pointer (type_at (trees_of world) x) (type_of world.program.types to.0) row.2

      cell_passes : (path : List PathStep) (c : Cell) → CellIn (sets_of world) memory (pointer_row (node_row (setting_in world) x) (part_at world.program.types (Some (reached (type_at (trees_of world) x) 0 false)) path)) c
          → CellIn (sets_of world) memory (pointer_row (node_row (setting_in world) n) (part_at world.program.types (Some (reached (type_at (trees_of world) n) 0 false)) path)) c
      cell_passes [] c h =
          (convert_in world.program world.space world.system world.is_system world.family stands.closed stands.grounds n x (type_of world.program.types to.0) from.0
          (record { node = node; there = there; kind_is = kind; type_is = pointer; children_are = children }) own from.1 memory c (h, tt)).0
      cell_passes (step ∷ rest) c h =
          cell_from_none (sets_of world) memory (pointer_row (node_row (setting_in world) n) (part_at world.program.types (Some (reached (type_at (trees_of world) n) 0 false)) (step ∷ rest))) c
          (subst (λ (o : Option Reached). CellIn (sets_of world) memory (pointer_row (node_row (setting_in world) x) o) c)
          (ap (λ (t : Ctype). part_at world.program.types (Some (reached t 0 false)) (step ∷ rest)) from.1 ∙ no_parts world.program.types from.0 step rest) h)

      is_held : IsHeld world.program.types (type_at (trees_of world) n)
      is_held =
          subst (IsHeld world.program.types) (sym (ap (type_in world.program.types) there))
          (subst (λ (k : NodeKind). HasValue (trees_of world) k (type_of world.program.types node.ty.0) node.children) kind
          (stands.whole.values n node there (ap sort_of kind)))

      keeps_value : (v : Value) → NodeIn world memory x v → NodeIn world memory n v
      keeps_value v h =
          let held = (subst (λ (s : Sort). SortIn world memory s x v) row.0 h).0 in
          value_node world memory n node there Convert kind refl v
          (each_change (λ path c. CellIn (sets_of world) memory (pointer_row (node_row (setting_in world) x) (part_at world.program.types (Some (reached (type_at (trees_of world) x) 0 false)) path)) c)
          (λ path c. CellIn (sets_of world) memory (pointer_row (node_row (setting_in world) n) (part_at world.program.types (Some (reached (type_at (trees_of world) n) 0 false)) path)) c)
          v.cells cell_passes held) (inr is_held)

    kept_one : (fix : Fixing) → Fixes fix → node.kind ≡ Convert → (to : TypeId) → slice_get (trees_of world).types.terms node.ty.0 ≡ Some (PointerTerm to) → (v : Value) (children : List ℕ) → node.children ≡ children → kept_by fix children ≡ Some v → NodeIn world memory n v
    kept_one fix h kind to term v (x ∷ []) is e = keeps_value kind x is to term v (h x v e)
    kept_one fix h kind to term v [] is e = absurd (none_some e)
    kept_one fix h kind to term v (x ∷ y ∷ rest) is e = absurd (none_some e)

    -- one of two
    branch_one : (fix : Fixing) → Fixes fix → node.kind ≡ Choose → (c a b : ℕ) → node.children ≡ c ∷ a ∷ b ∷ [] → (v : Value) (r : Result Bool Reason) → branch_if fix a b r ≡ Some v → NodeIn world memory n v
    branch_one fix h kind c a b is v (Ok true) e = (choices_covered world memory n node c a b v stands there kind is).0 (h a v e)
    branch_one fix h kind c a b is v (Ok false) e = (choices_covered world memory n node c a b v stands there kind is).1 (h b v e)
    branch_one fix h kind c a b is v (Err reason) e = absurd (none_some e)

    branch_two : (fix : Fixing) → Fixes fix → node.kind ≡ Choose → (c a b : ℕ) → node.children ≡ c ∷ a ∷ b ∷ [] → (v : Value) (o : Option Value) → branch_by fix a b o ≡ Some v → NodeIn world memory n v
    branch_two fix h kind c a b is v None e = absurd (none_some e)
    branch_two fix h kind c a b is v (Some condition) e = branch_one fix h kind c a b is v (is_true (cell_of condition)) e

    chosen_one : (fix : Fixing) → Fixes fix → node.kind ≡ Choose → (v : Value) (children : List ℕ) → node.children ≡ children → chosen_by fix children ≡ Some v → NodeIn world memory n v
    chosen_one fix h kind v (c ∷ a ∷ b ∷ []) is e = branch_two fix h kind c a b is v (fix c) e
    chosen_one fix h kind v [] is e = absurd (none_some e)
    chosen_one fix h kind v (c ∷ []) is e = absurd (none_some e)
    chosen_one fix h kind v (c ∷ a ∷ []) is e = absurd (none_some e)
    chosen_one fix h kind v (c ∷ a ∷ b ∷ d ∷ rest) is e = absurd (none_some e)

    by_way : (fix : Fixing) → Fixes fix → (v : Value) (w : Way) → way_of node.kind (slice_get (trees_of world).types.terms node.ty.0) ≡ w → fixed_by (trees_of world) memory fix n node w ≡ Some v → NodeIn world memory n v
    by_way fix h v Computed is e = computed_by_operands fix h (subst Keeps (sym is) tt) v (all_fixed fix node.children) refl e
    by_way fix h v Alone is e = over [] tt (subst Keeps (sym is) tt) v e
    by_way fix h v Kept is e =
        let k = kept_kind node.kind (slice_get (trees_of world).types.terms node.ty.0) is in
        let t = kept_term (slice_get (trees_of world).types.terms node.ty.0) k.1 in
        kept_one fix h k.0 t.0 t.1 v node.children refl e
    by_way fix h v Chosen is e = chosen_one fix h (chosen_kind node.kind (slice_get (trees_of world).types.terms node.ty.0) is) v node.children refl e
    by_way fix h v Never is e = absurd (none_some e)

  by_node : (fix : Fixing) → Fixes fix → (n : ℕ) (v : Value) (o : Option Node) → slice_get (trees_of world).nodes n ≡ o → fixed_in (trees_of world) memory fix n o ≡ Some v → NodeIn world memory n v
  by_node fix h n v None there e = absurd (none_some e)
  by_node fix h n v (Some node) there e = by_way n node there fix h v (way_of node.kind (slice_get (trees_of world).types.terms node.ty.0)) refl e

  fixes : (fuel : ℕ) → Fixes (fixed_to (trees_of world) memory fuel)
  fixes zero n v e = absurd (none_some e)
  fixes (suc fuel) n v e = by_node (fixed_to (trees_of world) memory fuel) (fixes fuel) n v (slice_get (trees_of world).nodes n) refl e

pub fixed_covered : FixedCovered
unfolding fixed
fixed_covered world memory n v stands all take e = fixes world stands memory all take (n + 1) n v e
