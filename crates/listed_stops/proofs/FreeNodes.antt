-- The rows of expressions stop with Mismatch only for a cause.
use Rattle.std.proofs.Common.{◌≡◌, ◌⊎◌, inl, inr, ℕ, ◌&&◌, Bool, true, false, cond, List, [], ◌∷◌, Some, None, Err, slice_get, refl, sym, subst}
use Rattle.std.specs.Prelude.{⊤}
use Rattle.std.proofs.lemmas.Bool.{false≢true}
use Rattle.c_types.specs.declared.key.ObjectKey.TheVariants.{Text as TextKey, Entity as EntityKey, Varargs as VarargsKey}
use Rattle.c_types.specs.declared.term.TypeId.{TypeId}
use Rattle.c_types.specs.Trees.{Ctype, PointerTo}
use Rattle.c_types.specs.Table.{Table, type_of}
use Rattle.type_rules.specs.Kinds.{IsPointer}
use Rattle.type_rules.specs.Sizes.{PointsToObject}
use Rattle.core_tree.specs.declared.node.Node.{Node}
use Rattle.core_tree.specs.declared.node.NodeKind.{NodeKind}
use Rattle.core_tree.specs.declared.node.NodeKind.TheVariants.{Named, Text, Literal, FunctionName, Deref, Member, Number as NumberNode, NullValue, VarArgs, Fetch, AddressOf, Decay, PointerAdd, Convert, Upcast, Assign, Update, Choose, Sequence, CallNode, MemberOfValue, Arith, NextArg}
use Rattle.core_tree.specs.declared.node.NodeKind.TheVariants.{Expression, Block, If, While, DoWhile, For, Switch, Case, Default, Label, Goto, Break, Continue, Return, Initialise, Skip}
use Rattle.core_tree.specs.Rows.{RowOf}
use Rattle.core_tree.specs.Typed.{CoreTrees, type_at}
use Rattle.row_numbers.specs.Objects.{entity_key}
use Rattle.ref_cells.specs.declared.cells.Reason.TheVariants.{Unset as UnsetUse}
use Rattle.ref_cells.specs.declared.cells.Value.{Value}
use Rattle.ref_state.specs.declared.frames.Frame.{Frame}
use Rattle.ref_state.specs.declared.state.State.{State}
use Rattle.ref_state.specs.Values.{value_in, cell_in}
use Rattle.ref_places.specs.Places.{instance_of, whole_place, first_place, named_row, varargs_row}
use Rattle.ref_values.specs.Memory.{pointer_moved, is_union, member_of_value_row}
use Rattle.ref_values.specs.Values.{one_row, two_row, lacks, uses_all, one_of, gives_cell, cell_given, cell_computed, value_computed, computed_by, computed}
use Rattle.ref_blocks.specs.declared.ways.Sought.TheVariants.{LoopAlone, LoopOrSwitch}
use Rattle.ref_blocks.specs.Ways.{above, nearest, is_sought}
use Rattle.ref_blocks.specs.Jumps.{label_target, meeting}
use Rattle.ref_frames.specs.Running.{Running}
use Rattle.listed_stops.specs.Mismatches.{Cause}
use Rattle.listed_stops.proofs.Free.{Free, lift_free, caused, either_free, two_free, one_free, whole_free, first_free, deref_free, pointer_moved_free, convert_free, member_of_value_free, cell_given_free, number_given_free}

-- no label of that name stands in the body around a node, or no statement is around both
abbrev pub LacksLabel : List Node → ℕ → List ℕ → Type 0
LacksLabel nodes n name =
    (label_target nodes n name ≡ None)
    ⊎ ((t : ℕ) × (label_target nodes n name ≡ Some t) × (meeting nodes (above nodes n) (above nodes t) ≡ None))

-- a member of a union is taken, or a jump has no target
abbrev pub Known : CoreTrees → ℕ → NodeKind → List ℕ → Type 0
Known u n (MemberOfValue k) (v ∷ []) = is_union (type_at u v) ≡ true
Known u n Break children = nearest u.nodes (is_sought LoopOrSwitch) (above u.nodes n) ≡ None
Known u n Continue children = nearest u.nodes (is_sought LoopAlone) (above u.nodes n) ≡ None
Known u n (Goto name) children = LacksLabel u.nodes n name
Known u n kind children = ⊥

-- one of these, or a cause
abbrev pub Here : Running → State → Frame → ℕ → NodeKind → List ℕ → List (ℕ × Value) → Type 0
Here w state f n kind children values = Known w.trees n kind children ⊎ Cause w state f n kind children values

-- kinds whose operands are there when they are computed
abbrev pub IsComputed : NodeKind → List ℕ → Type 0
IsComputed CallNode (c ∷ rest) = ⊥
IsComputed NextArg (c ∷ rest) = ⊥
IsComputed Choose (c ∷ rest) = ⊥
IsComputed Expression children = ⊥
IsComputed (Block entities) children = ⊥
IsComputed If children = ⊥
IsComputed While children = ⊥
IsComputed DoWhile children = ⊥
IsComputed (For entities condition after) children = ⊥
IsComputed Switch children = ⊥
IsComputed (Case k) children = ⊥
IsComputed Default children = ⊥
IsComputed (Label name) children = ⊥
IsComputed (Goto name) children = ⊥
IsComputed Break children = ⊥
IsComputed Continue children = ⊥
IsComputed Return children = ⊥
IsComputed (Initialise e paths) children = ⊥
IsComputed Skip children = ⊥
IsComputed kind children = ⊤

points_pointer : (table : Table) (t : Ctype) → PointsToObject table t → IsPointer t
points_pointer table (PointerTo to) h = tt
points_pointer table t h = absurd h

module _ (w : Running) (state : State) (f : Frame) (n : ℕ) (values : List (ℕ × Value)) where
  -- places, and what is made without a look at memory
  cell_free : (kind : NodeKind) (children : List ℕ) (t : Ctype) → RowOf w.trees kind t children → gives_cell kind ≡ true
      → Free (Here w state f n kind children values) (cell_computed w.trees state.memory f.instances n kind children values)
  unfolding named_row varargs_row
  cell_free (Named e) children t row g =
      lift_free (instance_of state.memory f.instances (entity_key e (slice_get w.trees.entities e)) ≡ None) (Here w state f n (Named e) children values) (whole_place (instance_of state.memory f.instances (entity_key e (slice_get w.trees.entities e)))) (λ h. inr h)
      (whole_free (instance_of state.memory f.instances (entity_key e (slice_get w.trees.entities e))))
  cell_free (Text bytes) children t row g =
      lift_free (instance_of state.memory f.instances (TextKey n) ≡ None) (Here w state f n (Text bytes) children values) (whole_place (instance_of state.memory f.instances (TextKey n))) (λ h. inr h)
      (whole_free (instance_of state.memory f.instances (TextKey n)))
  cell_free (Literal e) children t row g =
      lift_free (instance_of state.memory f.instances (EntityKey e) ≡ None) (Here w state f n (Literal e) children values) (whole_place (instance_of state.memory f.instances (EntityKey e))) (λ h. inr h)
      (whole_free (instance_of state.memory f.instances (EntityKey e)))
  cell_free (VarArgs e) children t row g =
      lift_free (instance_of state.memory f.instances (VarargsKey e) ≡ None) (Here w state f n (VarArgs e) children values) (first_place (instance_of state.memory f.instances (VarargsKey e))) (λ h. inr h)
      (first_free (instance_of state.memory f.instances (VarargsKey e)))
  cell_free (FunctionName e) children t row g = tt
  cell_free (NumberNode k) children t row g = tt
  cell_free NullValue children t row g = tt
  cell_free Deref (v ∷ []) t row g = deref_free (Here w state f n Deref (v ∷ []) values) (type_at w.trees v) t (cell_in values v) row.0.1 (λ bad. inr (v, (0, refl), bad))
  cell_free Deref [] t row g = absurd row
  cell_free Deref (v ∷ x ∷ rest) t row g = absurd row
  cell_free (Member k) (p ∷ []) t row g = caused (Here w state f n (Member k) (p ∷ []) values) (cell_computed w.trees state.memory f.instances n (Member k) (p ∷ []) values) (inr tt)
  cell_free (Member k) [] t row g = absurd row
  cell_free (Member k) (p ∷ x ∷ rest) t row g = absurd row
  cell_free kind children t row g = absurd (false≢true g)

  -- values over one or two operands
  value_free : (ty : TypeId) (word : ℕ) (kind : NodeKind) (children : List ℕ) → RowOf w.trees kind (type_of w.trees.types ty.0) children → IsComputed kind children → gives_cell kind ≡ false
      → Free (Here w state f n kind children values) (value_computed w.trees state.memory ty kind children (one_of children) values word)
  value_free ty word Fetch (p ∷ []) row c g = caused (Here w state f n Fetch (p ∷ []) values) (value_computed w.trees state.memory ty Fetch (p ∷ []) (Some p) values word) (inr tt)
  value_free ty word AddressOf (p ∷ []) row c g = tt
  value_free ty word Decay (p ∷ []) row c g = caused (Here w state f n Decay (p ∷ []) values) (value_computed w.trees state.memory ty Decay (p ∷ []) (Some p) values word) (inr tt)
  value_free ty word Upcast (p ∷ []) row c g = caused (Here w state f n Upcast (p ∷ []) values) (value_computed w.trees state.memory ty Upcast (p ∷ []) (Some p) values word) (inr tt)
  value_free ty word Convert (v ∷ []) row c g =
      convert_free (Here w state f n Convert (v ∷ []) values) w.trees.types state.memory (type_at w.trees v) (cell_in values v) ty word row.2 (λ bad. inr (v, (0, refl), bad))
  value_free ty word (MemberOfValue k) (v ∷ []) row c g =
      lift_free (is_union (type_at w.trees v) ≡ true) (Here w state f n (MemberOfValue k) (v ∷ []) values) (member_of_value_row state.memory (type_at w.trees v) k (value_in values v).cells) (λ h. inl h)
      (member_of_value_free state.memory (type_at w.trees v) k (value_in values v).cells)
  value_free ty word (Arith op) (a ∷ []) row c g =
      number_given_free (Here w state f n (Arith op) (a ∷ []) values) state.memory (one_row op (type_at w.trees a) (cell_in values a))
      (one_free (Here w state f n (Arith op) (a ∷ []) values) op (type_at w.trees a) (type_of w.trees.types ty.0) (cell_in values a) row.1 (λ bad. inr (a, (0, refl), bad)))
  value_free ty word (Arith op) (a ∷ b ∷ []) row c g =
      number_given_free (Here w state f n (Arith op) (a ∷ b ∷ []) values) state.memory (two_row op (type_at w.trees a) (cell_in values a) (cell_in values b))
      (two_free (Here w state f n (Arith op) (a ∷ b ∷ []) values) op (type_at w.trees a) (type_at w.trees b) (type_of w.trees.types ty.0) (cell_in values a) (cell_in values b) row.2 (λ bad. inr (a, (0, refl), bad)))
  value_free ty word (PointerAdd minus) (v ∷ i ∷ []) row c g =
      cell_given_free (Here w state f n (PointerAdd minus) (v ∷ i ∷ []) values) state.memory (pointer_moved w.trees.types state.memory (cell_in values v) minus (cell_in values i))
      (pointer_moved_free (Here w state f n (PointerAdd minus) (v ∷ i ∷ []) values) w.trees.types state.memory (type_at w.trees v) (type_at w.trees i) (cell_in values v) minus (cell_in values i)
      (subst IsPointer (sym row.0.1) (points_pointer w.trees.types (type_of w.trees.types ty.0) row.1)) row.2.1 (λ bad. inr (v, (0, refl), bad)) (λ bad. inr (i, (1, refl), bad)))
  value_free ty word Assign (p ∷ v ∷ []) row c g = caused (Here w state f n Assign (p ∷ v ∷ []) values) (value_computed w.trees state.memory ty Assign (p ∷ v ∷ []) None values word) (inr tt)
  value_free ty word (Update op post) (p ∷ v ∷ []) row c g =
      caused (Here w state f n (Update op post) (p ∷ v ∷ []) values) (value_computed w.trees state.memory ty (Update op post) (p ∷ v ∷ []) None values word) (inr tt)
  value_free ty word Sequence (a ∷ b ∷ []) row c g = tt
  value_free ty word Fetch children row c g = absurd row
  value_free ty word AddressOf children row c g = absurd row
  value_free ty word Decay children row c g = absurd row
  value_free ty word Upcast children row c g = absurd row
  value_free ty word Convert children row c g = absurd row
  value_free ty word (MemberOfValue k) children row c g = absurd row
  value_free ty word (Arith op) children row c g = absurd row
  value_free ty word (PointerAdd minus) children row c g = absurd row
  value_free ty word Assign children row c g = absurd row
  value_free ty word (Update op post) children row c g = absurd row
  value_free ty word Sequence children row c g = absurd row
  value_free ty word Choose [] row c g = absurd row
  value_free ty word Choose (x ∷ rest) row c g = absurd c
  value_free ty word CallNode [] row c g = absurd row
  value_free ty word CallNode (x ∷ rest) row c g = absurd c
  value_free ty word NextArg [] row c g = absurd row
  value_free ty word NextArg (x ∷ rest) row c g = absurd c
  value_free ty word (Named e) children row c g = absurd (false≢true (sym g))
  value_free ty word (Text bytes) children row c g = absurd (false≢true (sym g))
  value_free ty word (Literal e) children row c g = absurd (false≢true (sym g))
  value_free ty word (FunctionName e) children row c g = absurd (false≢true (sym g))
  value_free ty word Deref children row c g = absurd (false≢true (sym g))
  value_free ty word (Member k) children row c g = absurd (false≢true (sym g))
  value_free ty word (NumberNode k) children row c g = absurd (false≢true (sym g))
  value_free ty word NullValue children row c g = absurd (false≢true (sym g))
  value_free ty word (VarArgs e) children row c g = absurd (false≢true (sym g))
  value_free ty word kind children row c g = absurd c

  computed_by_free : (ty : TypeId) (word : ℕ) (kind : NodeKind) (children : List ℕ) → RowOf w.trees kind (type_of w.trees.types ty.0) children → IsComputed kind children
      → Free (Here w state f n kind children values) (computed_by w.trees state.memory f.instances n ty kind children values word)
  computed_by_free ty word kind children row c = by (gives_cell kind) refl
    where
      by : (b : Bool) → gives_cell kind ≡ b
          → Free (Here w state f n kind children values)
          (cond b (cell_given state.memory (cell_computed w.trees state.memory f.instances n kind children values)) (value_computed w.trees state.memory ty kind children (one_of children) values word))
      by true g =
          cell_given_free (Here w state f n kind children values) state.memory (cell_computed w.trees state.memory f.instances n kind children values) (cell_free kind children (type_of w.trees.types ty.0) row g)
      by false g = value_free ty word kind children row c g

  pub computed_free : (node : Node) (word : ℕ) → RowOf w.trees node.kind (type_of w.trees.types node.ty.0) node.children → IsComputed node.kind node.children
      → Free (Here w state f n node.kind node.children values) (computed w.trees state.memory f.instances n node values word)
  unfolding computed
  computed_free node word row c =
      either_free (Here w state f n node.kind node.children values) (uses_all (type_of w.trees.types node.ty.0) node.kind && lacks w.trees values node.children) (Err UnsetUse)
      (computed_by w.trees state.memory f.instances n node.ty node.kind node.children values word) tt (computed_by_free node.ty word node.kind node.children row c)
