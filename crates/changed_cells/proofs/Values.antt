-- What the values of nodes leave of memory: only assignments, increments and decrements write, each at its place.
use Rattle.std.proofs.Common.{◌≡◌, ◌∙◌, ℕ, ◌==◌, ◌&&◌, ◌||◌, not, Bool, true, false, cond, List, [], ◌∷◌, Option, Some, None, Result, Ok, Err, IfOk, is_some, slice_get, refl, sym, ap, subst}
use Rattle.std.proofs.lemmas.Bool.{or_parts, false≢true}
use Rattle.c_types.specs.declared.term.PathStep.{PathStep}
use Rattle.c_types.specs.declared.term.PathStep.TheVariants.{Member}
use Rattle.c_types.specs.declared.term.TypeId.{TypeId}
use Rattle.c_types.specs.Trees.{Ctype, VoidType, BoolType, IntegerType, PointerTo}
use Rattle.c_types.specs.Table.{type_of}
use Rattle.core_tree.specs.declared.node.Node.{Node}
use Rattle.core_tree.specs.declared.node.Op.{Op}
use Rattle.core_tree.specs.declared.node.NodeKind.{NodeKind}
use Rattle.core_tree.specs.declared.node.NodeKind.TheVariants.{Fetch, AddressOf, Decay, PointerAdd, Convert, Upcast, Assign, Update, Sequence, MemberOfValue, Arith}
use Rattle.core_tree.specs.Rows.{place_bits}
use Rattle.core_tree.specs.Typed.{CoreTrees, type_at}
use Rattle.mod_ref.specs.declared.access.Access.TheVariants.{Write}
use Rattle.mod_ref.specs.Direct.{place_of, accessed}
use Rattle.ref_cells.specs.declared.cells.Reason.{Reason}
use Rattle.ref_cells.specs.declared.cells.Reason.TheVariants.{Unset as UnsetUse, Mismatch}
use Rattle.ref_cells.specs.declared.cells.Cell.{Cell}
use Rattle.ref_cells.specs.declared.cells.Cell.TheVariants.{Unset, Number, Null, Pointer, Function}
use Rattle.ref_cells.specs.declared.cells.Value.{Value}
use Rattle.ref_cells.specs.declared.instance.Instance.{Instance}
use Rattle.ref_cells.specs.Cells.{CellList, under}
use Rattle.ref_cells.specs.Values.{active}
use Rattle.ref_cells.specs.Wholes.{is_allocated}
use Rattle.ref_mem.specs.Reads.{read, one_cell}
use Rattle.ref_mem.specs.Writes.{write, changed}
use Rattle.ref_elements.specs.Outcomes.{Effect, gives}
use Rattle.ref_elements.specs.Runs.{◌>>=◌}
use Rattle.ref_lib.proofs.memory_laws.Steps.{after_any, either}
use Rattle.ref_places.specs.Places.{decay_row, upcast_row}
use Rattle.ref_state.specs.Values.{value_in, cell_in, cell_of}
use Rattle.ref_values.specs.Memory.{assign_row, pointee, complete_only, type_given, typed_by, pointer_converted, number_converted, scalar_converted, converted_to, convert_row, pointer_moved, cell_updated, update_written, update_row, is_union, is_empty, value_within, member_of_value_row}
use Rattle.ref_values.specs.Values.{cell_given, one_row, two_row, lacks, uses_all, one_of, two_of, gives_cell, cell_computed, one_computed, two_computed, pair_computed, value_computed, computed_by, computed}
use Rattle.covered_runs.specs.touched_runs.Accesses.{IsOfPlace}
use Rattle.changed_cells.proofs.Kept.{Keeps, keeps_all, changed_keeps, typed_stays, write_keeps}

some_one : {X : Type 0} → {x y : X} → ◌≡◌ {A = Option X} (Some x) (Some y) → x ≡ y
some_one h = cc

none_some : {X : Type 0} → {x : X} → ◌≡◌ {A = Option X} None (Some x) → ⊥
none_some h = cc

-- a step of which it is known that it went so
pub with_it : {A B : Type 0} (r : Result A Reason) (f : A → Result B Reason) (Q : B → Type 0) → ((x : A) → ◌≡◌ {A = Result A Reason} r (Ok x) → IfOk (f x) Q) → IfOk (r >>= f) Q
with_it (Ok x) f Q g = g x refl
with_it (Err e) f Q g = tt

-- nodes of one and of two children
two_inv : (children : List ℕ) (two : ℕ × ℕ) → two_of children ≡ Some two → children ≡ two.0 ∷ two.1 ∷ []
two_inv (a ∷ b ∷ []) two e = ap (λ (t : ℕ × ℕ). t.0 ∷ t.1 ∷ []) (some_one e)
two_inv [] two e = absurd (none_some e)
two_inv (a ∷ []) two e = absurd (none_some e)
two_inv (a ∷ b ∷ c ∷ rest) two e = absurd (none_some e)

module _ (u : CoreTrees) (memory : List Instance) (W : ℕ → List PathStep → Type 0) where
  -- an effect that writes no more than that
  abbrev pub Leaves : Effect → Type 0
  Leaves given = IfOk given (λ e. Keeps u.types W memory e.memory)

  all : Keeps u.types W memory memory
  all = keeps_all u.types W memory

  -- ---- conversions: an object without a type gets one
  given_keeps : (i : ℕ) (id : Option TypeId) (o : Option Instance) → slice_get memory i ≡ o → Keeps u.types W memory (type_given memory i id o)
  given_keeps i None o is = all
  given_keeps i (Some id) None is = all
  given_keeps i (Some id) (Some inst) is = by (is_some inst.ty || not (is_allocated inst.key)) refl
    where
      none : (o : Option TypeId) → is_some o ≡ false → o ≡ None
      none None e = refl
      none (Some x) e = absurd (false≢true (sym e))

      by : (b : Bool) → (is_some inst.ty || not (is_allocated inst.key)) ≡ b → Keeps u.types W memory (cond b memory (changed memory i (Some inst) (λ x. record x { ty = Some id })))
      by true b_is = all
      by false b_is =
          let untyped : inst.ty ≡ None = none inst.ty (or_parts (is_some inst.ty) (not (is_allocated inst.key)) b_is).0 in
          subst (λ (o : Option Instance). Keeps u.types W memory (changed memory i o (λ x. record x { ty = Some id }))) is
          (changed_keeps u.types W memory i (λ x. record x { ty = Some id })
          (λ a at. typed_stays u.types (W i) a id (ap (λ (x : Instance). x.ty) (some_one (sym at ∙ is)) ∙ untyped)))

  typed_keeps : (cell : Cell) (ty : TypeId) → Keeps u.types W memory (typed_by u.types memory cell ty)
  typed_keeps (Pointer i path past) ty = given_keeps i (complete_only u.types (pointee (slice_get u.types.terms ty.0))) (slice_get memory i) refl
  typed_keeps Unset ty = all
  typed_keeps Null ty = all
  typed_keeps (Number n) ty = all
  typed_keeps (Function key) ty = all

  pointer_leaves : (cell : Cell) (ty : TypeId) (t : Ctype) (word : ℕ) → Leaves (pointer_converted u.types memory cell ty t word)
  pointer_leaves cell ty BoolType word = all
  pointer_leaves cell ty (IntegerType size rank signed) word = all
  pointer_leaves cell ty t word = typed_keeps cell ty

  number_leaves : (t : Ctype) (cell : Cell) → Leaves (number_converted memory t cell)
  number_leaves t (Number n) = all
  number_leaves t cell = tt

  scalar_leaves : (a : Ctype) (cell : Cell) (ty : TypeId) (word : ℕ) → Leaves (scalar_converted u.types memory a cell ty word)
  scalar_leaves (PointerTo to) cell ty word = pointer_leaves cell ty (type_of u.types ty.0) word
  scalar_leaves a cell ty word = number_leaves (type_of u.types ty.0) cell

  converted_leaves : (a : Ctype) (cell : Cell) (ty : TypeId) (word : ℕ) (t : Ctype) → Leaves (converted_to u.types memory a cell ty word t)
  converted_leaves a cell ty word VoidType = all
  converted_leaves a cell ty word t = scalar_leaves a cell ty word

  convert_leaves : (a : Ctype) (cell : Cell) (ty : TypeId) (word : ℕ) → Leaves (convert_row u.types memory a cell ty word)
  unfolding convert_row
  convert_leaves a cell ty word = converted_leaves a cell ty word (type_of u.types ty.0)

  member_leaves : (s : Ctype) (k : ℕ) (cells : CellList) → Leaves (member_of_value_row memory s k cells)
  unfolding member_of_value_row
  member_leaves s k cells = either (is_union s && (not (is_empty cells) && not (active cells == k))) (Err Mismatch) (gives memory (value_within (under (Member k) cells))) _ tt all

  -- ---- writes
  assign_leaves : (place : Cell) (t : Ctype) (v : Value) → ((i : ℕ) (p : List PathStep) → IsOfPlace u.types memory place t i p → W i p) → Leaves (assign_row u.types memory place t v)
  assign_leaves place t v writes = with_it (write u.types memory place t v) _ _ (λ after is. write_keeps u.types W memory place t v after writes is)

  written_leaves : (place : Cell) (t : Ctype) (post : Bool) (old new : Cell) → ((i : ℕ) (p : List PathStep) → IsOfPlace u.types memory place t i p → W i p) → Leaves (update_written u.types memory place t post old new)
  written_leaves place t post old new writes = with_it (write u.types memory place t (one_cell new)) _ _ (λ after is. write_keeps u.types W memory place t (one_cell new) after writes is)

  update_leaves : (place : Cell) (t : Ctype) (op : Op) (post : Bool) (bits : Option ℕ) (value_type : Ctype) (v : Cell) → ((i : ℕ) (p : List PathStep) → IsOfPlace u.types memory place t i p → W i p)
      → Leaves (update_row u.types memory place t op post bits value_type v)
  unfolding update_row
  update_leaves place t op post bits value_type v writes =
      after_any (read u.types memory place t) _ _
      (λ old. after_any (cell_updated u.types memory t op bits (cell_of old) value_type v) _ _ (λ new. written_leaves place t post (cell_of old) new writes))

  -- ---- kinds
  module _ (own : List ℕ) (n : ℕ) (ty : TypeId) (values : List (ℕ × Value)) (word : ℕ) where
    one_leaves : (kind : NodeKind) (v : ℕ) → Leaves (one_computed u memory ty kind v values word)
    one_leaves Fetch v = after_any (read u.types memory (cell_in values v) (type_of u.types ty.0)) _ _ (λ value. all)
    one_leaves AddressOf v = all
    one_leaves Decay v = after_any (decay_row u.types memory (cell_in values v) (type_at u v)) _ _ (λ cell. all)
    one_leaves Convert v = convert_leaves (type_at u v) (cell_in values v) ty word
    one_leaves Upcast v = after_any (upcast_row u.types memory (cell_in values v) (type_at u v)) _ _ (λ cell. all)
    one_leaves (MemberOfValue k) v = member_leaves (type_at u v) k (value_in values v).cells
    one_leaves (Arith op) v = after_any (one_row op (type_at u v) (cell_in values v)) _ _ (λ number. all)
    one_leaves kind v = tt

    -- the place that a node of a kind writes, with these children, is written
    abbrev Writes : NodeKind → List ℕ → Type 0
    Writes kind children =
        (i : ℕ) (path : List PathStep) (p : ℕ) → place_of Write kind children ≡ Some p → IsOfPlace u.types memory (cell_in values p) (accessed kind (type_of u.types ty.0)) i path → W i path

    two_leaves : (kind : NodeKind) (a b : ℕ) → Writes kind (a ∷ b ∷ []) → Leaves (two_computed u memory ty kind a b values)
    two_leaves (PointerAdd minus) a b writes = after_any (pointer_moved u.types memory (cell_in values a) minus (cell_in values b)) _ _ (λ cell. all)
    two_leaves Assign a b writes = assign_leaves (cell_in values a) (type_of u.types ty.0) (value_in values b) (λ i path of. writes i path a refl of)
    two_leaves (Update op post) a b writes =
        update_leaves (cell_in values a) (type_of u.types ty.0) op post (place_bits u (slice_get u.nodes a)) (type_at u b) (cell_in values b) (λ i path of. writes i path a refl of)
    two_leaves Sequence a b writes = all
    two_leaves (Arith op) a b writes = after_any (two_row op (type_at u a) (cell_in values a) (cell_in values b)) _ _ (λ number. all)
    two_leaves kind a b writes = tt

    pair_leaves : (kind : NodeKind) (children : List ℕ) (o : Option (ℕ × ℕ)) → two_of children ≡ o → Writes kind children → Leaves (pair_computed u memory ty kind o values)
    pair_leaves kind children None is writes = tt
    pair_leaves kind children (Some two) is writes = two_leaves kind two.0 two.1 (subst (Writes kind) (two_inv children two is) writes)

    value_leaves : (kind : NodeKind) (children : List ℕ) (o : Option ℕ) → Writes kind children → Leaves (value_computed u memory ty kind children o values word)
    value_leaves kind children (Some v) writes = one_leaves kind v
    value_leaves kind children None writes = pair_leaves kind children (two_of children) refl writes

    by_leaves : (kind : NodeKind) (children : List ℕ) → Writes kind children → Leaves (computed_by u memory own n ty kind children values word)
    by_leaves kind children writes =
        either (gives_cell kind) (cell_given memory (cell_computed u memory own n kind children values)) (value_computed u memory ty kind children (one_of children) values word) _
        (after_any (cell_computed u memory own n kind children values) _ _ (λ cell. all)) (value_leaves kind children (one_of children) writes)

  -- What a node computes leaves all but what its kind writes.
  pub computed_leaves : (own : List ℕ) (n : ℕ) (node : Node) (values : List (ℕ × Value)) (word : ℕ)
      → ((i : ℕ) (path : List PathStep) (p : ℕ) → place_of Write node.kind node.children ≡ Some p → IsOfPlace u.types memory (cell_in values p) (accessed node.kind (type_of u.types node.ty.0)) i path → W i path)
      → Leaves (computed u memory own n node values word)
  unfolding computed
  computed_leaves own n node values word writes =
      either (uses_all (type_of u.types node.ty.0) node.kind && lacks u values node.children) (Err UnsetUse) (computed_by u memory own n node.ty node.kind node.children values word) _ tt
      (by_leaves own n node.ty values word node.kind node.children writes)
