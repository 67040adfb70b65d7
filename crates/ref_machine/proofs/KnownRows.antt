-- What the top item of a frame does leaves the types of instances those of the table, and their keys.
use Rattle.std.proofs.Common.{◌≡◌, ℕ, ℤ, ◌<◌, ◌&&◌, ◌||◌, Bool, true, false, List, [], ◌∷◌, Option, Some, None, Result, Ok, Err, IfOk, length, slice_get, refl, subst}
use Rattle.std.specs.Prelude.{◌==◌, not, if◌then◌else◌, is_some}
use Rattle.c_types.specs.declared.term.TypeId.{TypeId}
use Rattle.c_types.specs.declared.key.ObjectKey.TheVariants.{Entity as EntityKey}
use Rattle.c_types.specs.declared.term.PathStep.{PathStep}
use Rattle.c_types.specs.declared.term.PathStep.TheVariants.{Member}
use Rattle.c_types.specs.Trees.{Ctype, VoidType, BoolType, IntegerType, PointerTo}
use Rattle.c_types.specs.Table.{type_of}
use Rattle.core_tree.specs.declared.node.Node.{Node}
use Rattle.core_tree.specs.declared.node.Op.{Op}
use Rattle.core_tree.specs.declared.node.NodeKind.{NodeKind}
use Rattle.core_tree.specs.declared.node.NodeKind.TheVariants.{Fetch, AddressOf, Decay, Convert, Upcast, MemberOfValue, Arith, PointerAdd, Assign, Update, Sequence, Initialise}
use Rattle.core_tree.specs.Typed.{CoreTrees, type_at}
use Rattle.core_tree.specs.Rows.{place_bits}
use Rattle.core_tree.specs.Range.{InRange}
use Rattle.ref_cells.specs.Wholes.{is_allocated}
use Rattle.ref_cells.specs.declared.cells.Cell.{Cell}
use Rattle.ref_cells.specs.declared.cells.Cell.TheVariants.{Pointer, Number, Null, Function, Unset}
use Rattle.ref_cells.specs.declared.cells.Reason.{Reason}
use Rattle.ref_cells.specs.declared.cells.Reason.TheVariants.{Mismatch}
use Rattle.ref_cells.specs.Cells.{under}
use Rattle.ref_cells.specs.Values.{active}
use Rattle.ref_cells.specs.declared.cells.Value.{Value}
use Rattle.ref_cells.specs.declared.instance.Instance.{Instance}
use Rattle.ref_cells.specs.Places.{IsKnown}
use Rattle.ref_mem.specs.declared.writes.Initial.{Initial}
use Rattle.ref_mem.specs.Reads.{read, one_cell}
use Rattle.ref_mem.specs.Writes.{write, changed, initialised, cleared}
use Rattle.ref_elements.specs.Outcomes.{Effect, Effected, gives, stores_and_gives}
use Rattle.ref_elements.specs.Runs.{◌>>=◌}
use Rattle.ref_lib.specs.memory_laws.Kept.{Follows}
use Rattle.ref_lib.proofs.memory_laws.Steps.{after_any, and_then, either}
use Rattle.ref_lib.proofs.memory_laws.Copies.{written_follows}
use Rattle.ref_state.specs.declared.frames.Frame.{Frame}
use Rattle.ref_state.specs.Values.{cell_of, cell_in, value_in}
use Rattle.ref_state.specs.Changes.{Blocks, Change, blocks_of}
use Rattle.ref_places.specs.Places.{instance_of, decay_row, upcast_row}
use Rattle.ref_values.specs.Memory.{assign_row, type_given, complete_only, pointee, typed_by, pointer_converted, scalar_converted, converted_to, convert_row, number_converted, pointer_moved, cell_updated, update_written, update_row, member_of_value_row, is_union, is_empty, value_within, stores_at}
use Rattle.ref_values.specs.Values.{computed, one_computed, two_computed, pair_computed, value_computed, cell_given, number_given, cell_computed, gives_cell, one_of, two_of, one_row, two_row, uses_all, lacks, is_true}
use Rattle.ref_blocks.specs.declared.block.Block.TheVariants.{Part}
use Rattle.ref_statements.specs.declared.forms.Form.{Form}
use Rattle.ref_statements.specs.Forms.{form_of, goto_name, branches, part_before}
use Rattle.ref_statements.specs.Rows.{Move, Next, Row, changes, computes}
use Rattle.ref_statements.specs.Statements.{begun_row, finished_row}
use Rattle.ref_statements.specs.Initialisers.{initialised_at, initialise_by, initialise_row, parts, clears}
use Rattle.ref_statements.specs.Nodes.{begun_value, begun_initialiser, begun_by, do_in, do_row, picked, first_value, choose_row, operand_at, part_left, operand_row, taken_by, take_row, finish_row, wait_by, wait_in, wait_row}
use Rattle.ref_calls.specs.declared.lists.Taken.{Taken}
use Rattle.ref_calls.specs.Lists.{put_back}
use Rattle.ref_machine.specs.Standing.{IsAfter}
use Rattle.ref_machine.proofs.Known.{changed_known, followed, left_known, complete_only_known}
use Rattle.ref_machine.proofs.KnownMoves.{Kept, begun_kept, finished_kept}

module _ (u : CoreTrees) (first : List Instance) (range : InRange u) where
  abbrev K : List Instance → Type 0
  K memory = IsAfter (length u.types.terms) first memory

  abbrev KE : Effect → Type 0
  KE effect = IfOk effect (λ (e : Effected). IsAfter (length u.types.terms) first e.memory)

  module _ (memory : List Instance) (h : IsAfter (length u.types.terms) first memory) where
    given_kept : (row : Result Cell Reason) → KE (cell_given memory row)
    given_kept row = after_any row (λ cell. gives memory (one_cell cell)) (λ (e : Effected). K e.memory) (λ cell. h)

    number_kept : (row : Result ℤ Reason) → KE (number_given memory row)
    number_kept row = after_any row (λ n. gives memory (one_cell (Number n))) (λ (e : Effected). K e.memory) (λ n. h)

    written_kept : (place : Cell) (t : Ctype) (value : Value) (after : List Instance → Effect)
        → ((m : List Instance) → K m → KE (after m)) → KE (write u.types memory place t value >>= after)
    written_kept place t value after keeps =
        and_then (write u.types memory place t value) after (λ m. Follows (length u.types.terms) None memory m) (λ (e : Effected). K e.memory)
        (written_follows u.types (length u.types.terms) memory h.known place t value)
        (λ m f. keeps m (followed (length u.types.terms) None first memory m f h))

    type_given_kept : (i : ℕ) (id : Option TypeId) → IsKnown (length u.types.terms) id → K (type_given memory i id (slice_get memory i))
    type_given_kept i id known = at (slice_get memory i) refl id known
      where
        set_kept : (a : Instance) (b : Bool) (to : TypeId) → slice_get memory i ≡ Some a → to.0 < length u.types.terms
            → K (if b then memory else changed memory i (Some a) (λ inst. record inst { ty = Some to }))
        set_kept a true to e less = h
        set_kept a false to e less =
            subst (λ (o : Option Instance). K (changed memory i o (λ inst. record inst { ty = Some to }))) e
            (changed_known (length u.types.terms) first memory i (λ inst. record inst { ty = Some to }) h (λ x q. less) (λ x. refl))

        at : (o : Option Instance) → slice_get memory i ≡ o → (id : Option TypeId) → IsKnown (length u.types.terms) id → K (type_given memory i id o)
        at None e None known = h
        at None e (Some to) known = h
        at (Some a) e None known = h
        at (Some a) e (Some to) known = set_kept a (is_some a.ty || not (is_allocated a.key)) to e known

    typed_kept : (cell : Cell) (ty : TypeId) → K (typed_by u.types memory cell ty)
    typed_kept (Pointer i path past) ty =
        type_given_kept i (complete_only u.types (pointee (slice_get u.types.terms ty.0))) (complete_only_known u.types (pointee (slice_get u.types.terms ty.0)))
    typed_kept (Number n) ty = h
    typed_kept Null ty = h
    typed_kept (Function key) ty = h
    typed_kept Unset ty = h

    pointer_kept : (cell : Cell) (ty : TypeId) (t : Ctype) (word : ℕ) → KE (pointer_converted u.types memory cell ty t word)
    pointer_kept cell ty BoolType word = h
    pointer_kept cell ty (IntegerType size rank signed) word = h
    pointer_kept cell ty t word = typed_kept cell ty

    number_converted_kept : (t : Ctype) (cell : Cell) → KE (number_converted memory t cell)
    number_converted_kept t (Number n) = h
    number_converted_kept t cell = tt

    scalar_kept : (a : Ctype) (cell : Cell) (ty : TypeId) (word : ℕ) → KE (scalar_converted u.types memory a cell ty word)
    scalar_kept (PointerTo to) cell ty word = pointer_kept cell ty (type_of u.types ty.0) word
    scalar_kept a cell ty word = number_converted_kept (type_of u.types ty.0) cell

    converted_kept : (a : Ctype) (cell : Cell) (ty : TypeId) (word : ℕ) (t : Ctype) → KE (converted_to u.types memory a cell ty word t)
    converted_kept a cell ty word VoidType = h
    converted_kept a cell ty word t = scalar_kept a cell ty word

    convert_kept : (a : Ctype) (cell : Cell) (ty : TypeId) (word : ℕ) → KE (convert_row u.types memory a cell ty word)
    unfolding convert_row
    convert_kept a cell ty word = converted_kept a cell ty word (type_of u.types ty.0)

    pub put_back_kept : (t : Ctype) (next : Taken) → KE (put_back u.types memory t next)
    put_back_kept t next =
        written_kept next.place t next.list (λ after. stores_and_gives after next.value (stores_at next.place next.list.cells)) (λ m k. k)

    assign_kept : (place : Cell) (t : Ctype) (value : Value) → KE (assign_row u.types memory place t value)
    assign_kept place t value =
        written_kept place t value (λ after. stores_and_gives after value (stores_at place value.cells)) (λ m k. k)

    update_kept : (place : Cell) (t : Ctype) (op : Op) (post : Bool) (bits : Option ℕ) (value_type : Ctype) (v : Cell) → KE (update_row u.types memory place t op post bits value_type v)
    unfolding update_row
    update_kept place t op post bits value_type v =
        after_any (read u.types memory place t) _ (λ (e : Effected). K e.memory)
        (λ old. after_any (cell_updated u.types memory t op bits (cell_of old) value_type v) (λ new. update_written u.types memory place t post (cell_of old) new) (λ (e : Effected). K e.memory)
        (λ new. written_kept place t (one_cell new) _ (λ m k. k)))

    member_kept : (s : Ctype) (k : ℕ) (cells : _) → KE (member_of_value_row memory s k cells)
    unfolding member_of_value_row
    member_kept s k cells =
        either (is_union s && (not (is_empty cells) && not (active cells == k))) (Err Mismatch) (gives memory (value_within (under (Member k) cells)))
        (λ (e : Effected). K e.memory) tt h

    one_kept : (ty : TypeId) (kind : NodeKind) (v : ℕ) (values : List (ℕ × Value)) (word : ℕ) → KE (one_computed u memory ty kind v values word)
    one_kept ty Fetch v values word = after_any (read u.types memory (cell_in values v) (type_of u.types ty.0)) (λ value. gives memory value) (λ (e : Effected). K e.memory) (λ value. h)
    one_kept ty AddressOf v values word = h
    one_kept ty Decay v values word = given_kept (decay_row u.types memory (cell_in values v) (type_at u v))
    one_kept ty Convert v values word = convert_kept (type_at u v) (cell_in values v) ty word
    one_kept ty Upcast v values word = given_kept (upcast_row u.types memory (cell_in values v) (type_at u v))
    one_kept ty (MemberOfValue k) v values word = member_kept (type_at u v) k (value_in values v).cells
    one_kept ty (Arith op) v values word = number_kept (one_row op (type_at u v) (cell_in values v))
    one_kept ty kind v values word = tt

    two_kept : (ty : TypeId) (kind : NodeKind) (a b : ℕ) (values : List (ℕ × Value)) → KE (two_computed u memory ty kind a b values)
    two_kept ty (PointerAdd minus) a b values = given_kept (pointer_moved u.types memory (cell_in values a) minus (cell_in values b))
    two_kept ty Assign a b values = assign_kept (cell_in values a) (type_of u.types ty.0) (value_in values b)
    two_kept ty (Update op post) a b values =
        update_kept (cell_in values a) (type_of u.types ty.0) op post (place_bits u (slice_get u.nodes a)) (type_at u b) (cell_in values b)
    two_kept ty Sequence a b values = h
    two_kept ty (Arith op) a b values = number_kept (two_row op (type_at u a) (cell_in values a) (cell_in values b))
    two_kept ty kind a b values = tt

    pair_kept : (ty : TypeId) (kind : NodeKind) (o : Option (ℕ × ℕ)) (values : List (ℕ × Value)) → KE (pair_computed u memory ty kind o values)
    pair_kept ty kind None values = tt
    pair_kept ty kind (Some p) values = two_kept ty kind p.0 p.1 values

    value_kept : (ty : TypeId) (kind : NodeKind) (children : List ℕ) (o : Option ℕ) (values : List (ℕ × Value)) (word : ℕ) → KE (value_computed u memory ty kind children o values word)
    value_kept ty kind children None values word = pair_kept ty kind (two_of children) values
    value_kept ty kind children (Some v) values word = one_kept ty kind v values word

    computed_kept : (own : List ℕ) (n : ℕ) (node : Node) (values : List (ℕ × Value)) (word : ℕ) → KE (computed u memory own n node values word)
    unfolding computed
    computed_kept own n node values word =
        either (uses_all (type_of u.types node.ty.0) node.kind && lacks u values node.children) _ _ (λ (e : Effected). K e.memory) tt
        (either (gives_cell node.kind) _ _ (λ (e : Effected). K e.memory)
        (given_kept (cell_computed u memory own n node.kind node.children values))
        (value_kept node.ty node.kind node.children (one_of node.children) values word))

    abbrev KR : Row → Type 0
    KR row = IfOk row (λ (next : Next). IsAfter (length u.types.terms) first next.memory)

    computes_kept : (f : Frame) (n : ℕ) (effect : Effect) → KE effect → KR (computes f n effect)
    computes_kept f n (Ok e) k = k
    computes_kept f n (Err reason) k = tt

    changes_kept : (f : Frame) (move : Move) → Kept u first range move → KR (changes f move)
    changes_kept f (Ok change) k = k
    changes_kept f (Err reason) k = tt

    initialised_kept : (f : Frame) (o : Option ℕ) (paths : List (List PathStep)) (list : List Initial) → KR (initialised_at u memory f o paths list)
    initialised_kept f None paths list = tt
    initialised_kept f (Some i) paths list =
        changed_known (length u.types.terms) first memory i (initialised u.types (clears paths) list) h (λ a k. same_type (clears paths) a k) (same_key (clears paths))
      where
        same_type : (b : Bool) (a : Instance) → IsKnown (length u.types.terms) a.ty → IsKnown (length u.types.terms) (cleared b a).ty
        same_type true a k = k
        same_type false a k = k

        same_key : (b : Bool) (a : Instance) → (cleared b a).key ≡ a.key
        same_key true a = refl
        same_key false a = refl

    initialise_by_kept : (f : Frame) (kind : NodeKind) (children : List ℕ) (values : List (ℕ × Value)) → KR (initialise_by u memory f kind children values)
    initialise_by_kept f (Initialise e paths) children values =
        initialised_kept f (instance_of memory f.instances (EntityKey e)) paths (parts u paths children values)
    initialise_by_kept f kind children values = tt

    initialise_kept : (f : Frame) (node : Node) (values : List (ℕ × Value)) → KR (initialise_row u memory f node values)
    unfolding initialise_row
    initialise_kept f node values =
        either (lacks u values node.children) _ _ (λ (next : Next). K next.memory) tt (initialise_by_kept f node.kind node.children values)

    begun_value_kept : (f : Frame) (n : ℕ) (node : Node) (children : List ℕ) (word : ℕ) → KR (begun_value u memory f n node children word)
    begun_value_kept f n node [] word = computes_kept f n (computed u memory f.instances n node [] word) (computed_kept f.instances n node [] word)
    begun_value_kept f n node (c ∷ rest) word = h

    begun_initialiser_kept : (f : Frame) (n : ℕ) (node : Node) (children : List ℕ) → KR (begun_initialiser u memory f n node children)
    begun_initialiser_kept f n node [] = initialise_kept f node []
    begun_initialiser_kept f n node (c ∷ rest) = h

    statement_kept : (f : Frame) (n : ℕ) (node : Node) (form : Form) → KR (changes f (begun_row u f.items (blocks_of memory f) n form (goto_name node.kind) node.children))
    statement_kept f n node form =
        changes_kept f (begun_row u f.items (blocks_of memory f) n form (goto_name node.kind) node.children)
        (begun_kept u first range f.items (blocks_of memory f) n form (goto_name node.kind) node.children h)

    begun_by_kept : (f : Frame) (n : ℕ) (node : Node) (form : Form) (word : ℕ) → KR (begun_by u memory f n node form word)
    begun_by_kept f n node Form.Value word = begun_value_kept f n node node.children word
    begun_by_kept f n node Form.Sequence word = begun_value_kept f n node node.children word
    begun_by_kept f n node Form.Choose word = begun_value_kept f n node node.children word
    begun_by_kept f n node Form.Initialise word = begun_initialiser_kept f n node node.children
    begun_by_kept f n node form word = statement_kept f n node form

    do_in_kept : (f : Frame) (n : ℕ) (o : Option Node) (word : ℕ) → KR (do_in u memory f n o word)
    do_in_kept f n None word = tt
    do_in_kept f n (Some node) word = begun_by_kept f n node (form_of node.kind) word

    pub do_kept : (f : Frame) (n word : ℕ) → KR (do_row u memory f n word)
    unfolding do_row
    do_kept f n word = do_in_kept f n (slice_get u.nodes n) word

    part_left_known : (o : Option ℕ) (s : Blocks) → K s.memory → K (part_left u o s).memory
    part_left_known None s k = k
    part_left_known (Some part) s k = left_known u first range (Part part) s k

    operand_kept : (f : Frame) (form : Form) (children operands : List ℕ) (i : ℕ) → KR (operand_row u memory f form children operands i)
    operand_kept f form children operands i =
        part_left_known (part_before form children (operand_at operands i)) (blocks_of memory f) h

    choose_kept : (f : Frame) (n a b : ℕ) (values : List (ℕ × Value)) → KR (changes f (choose_row (blocks_of memory f) n a b values))
    choose_kept f n a b values =
        changes_kept f (choose_row (blocks_of memory f) n a b values)
        (after_any (is_true (cell_of (first_value values))) _ (λ (change : Change). K change.blocks.memory) (λ yes. h))

    taken_kept : (f : Frame) (n : ℕ) (form : Form) (children operands : List ℕ) (values : List (ℕ × Value)) (word : ℕ) (o : Option (ℕ × ℕ)) → KR (taken_by u memory f n form children operands values word o)
    taken_kept f n form children operands values word None = operand_kept f form children operands (picked form (length operands) word)
    taken_kept f n form children operands values word (Some two) = choose_kept f n two.0 two.1 values

    take_kept : (f : Frame) (n : ℕ) (form : Form) (children operands : List ℕ) (values : List (ℕ × Value)) (word : ℕ) → KR (take_row u memory f n form children operands values word)
    take_kept f n form children operands values word = taken_kept f n form children operands values word (branches form operands)

    finished_row_kept : (f : Frame) (n : ℕ) (node : Node) (form : Form) (values : List (ℕ × Value)) → KR (changes f (finished_row u f.items (blocks_of memory f) n form node.children values))
    finished_row_kept f n node form values =
        changes_kept f (finished_row u f.items (blocks_of memory f) n form node.children values)
        (finished_kept u first range f.items (blocks_of memory f) n form node.children values h)

    finish_kept : (f : Frame) (n : ℕ) (node : Node) (form : Form) (values : List (ℕ × Value)) (word : ℕ) → KR (finish_row u memory f n node form values word)
    finish_kept f n node Form.Value values word = computes_kept f n (computed u memory f.instances n node values word) (computed_kept f.instances n node values word)
    finish_kept f n node Form.Sequence values word = computes_kept f n (computed u memory f.instances n node values word) (computed_kept f.instances n node values word)
    finish_kept f n node Form.Choose values word = h
    finish_kept f n node Form.Initialise values word = initialise_kept f node values
    finish_kept f n node form values word = finished_row_kept f n node form values

    wait_by_kept : (f : Frame) (n : ℕ) (node : Node) (operands : List ℕ) (values : List (ℕ × Value)) (word : ℕ) → KR (wait_by u memory f n node operands values word)
    wait_by_kept f n node [] values word = finish_kept f n node (form_of node.kind) values word
    wait_by_kept f n node (c ∷ operands) values word = take_kept f n (form_of node.kind) node.children (c ∷ operands) values word

    wait_in_kept : (f : Frame) (n : ℕ) (o : Option Node) (operands : List ℕ) (values : List (ℕ × Value)) (word : ℕ) → KR (wait_in u memory f n o operands values word)
    wait_in_kept f n None operands values word = tt
    wait_in_kept f n (Some node) operands values word = wait_by_kept f n node operands values word

    pub wait_kept : (f : Frame) (n : ℕ) (operands : List ℕ) (values : List (ℕ × Value)) (word : ℕ) → KR (wait_row u memory f n operands values word)
    unfolding wait_row
    wait_kept f n operands values word = wait_in_kept f n (slice_get u.nodes n) operands values word
