-- What the rows of all nodes but calls leave of memory.
use Rattle.std.proofs.Common.{◌≡◌, inl, inr, ℕ, Bool, true, false, List, [], ◌∷◌, length, Option, Some, None, Ok, Err, IfOk, slice_get, refl}
use Rattle.c_types.specs.declared.key.ObjectKey.TheVariants.{Entity as EntityKey}
use Rattle.c_types.specs.declared.term.PathStep.{PathStep}
use Rattle.core_tree.specs.declared.node.Node.{Node}
use Rattle.core_tree.specs.declared.node.NodeKind.{NodeKind}
use Rattle.core_tree.specs.declared.node.NodeKind.TheVariants.{Initialise}
use Rattle.core_tree.specs.Typed.{CoreTrees}
use Rattle.mod_ref.specs.declared.access.Access.TheVariants.{Write}
use Rattle.mod_ref.specs.Direct.{filled_by}
use Rattle.ref_cells.specs.declared.cells.Reason.TheVariants.{Unset as UnsetUse}
use Rattle.ref_cells.specs.declared.cells.Value.{Value}
use Rattle.ref_cells.specs.declared.instance.Instance.{Instance}
use Rattle.ref_mem.specs.declared.writes.Initial.{Initial}
use Rattle.ref_mem.specs.Writes.{initialised}
use Rattle.ref_elements.specs.Outcomes.{Effect, gives}
use Rattle.ref_lib.proofs.memory_laws.Steps.{after_any, either}
use Rattle.ref_places.specs.Places.{instance_of}
use Rattle.ref_state.specs.declared.frames.Frame.{Frame}
use Rattle.ref_state.specs.Changes.{blocks_of}
use Rattle.ref_state.specs.Values.{cell_of}
use Rattle.ref_values.specs.Values.{is_true, lacks, computed}
use Rattle.ref_blocks.specs.declared.block.Block.TheVariants.{Part}
use Rattle.ref_statements.specs.declared.forms.Form.{Form}
use Rattle.ref_statements.specs.Forms.{form_of, goto_name, branches, part_before}
use Rattle.ref_statements.specs.Rows.{Row, Move, goes_on, changes, computes}
use Rattle.ref_statements.specs.Statements.{waits, begun_row, finished_row}
use Rattle.ref_statements.specs.Initialisers.{parts, clears, initialised_at, initialise_by, initialise_row}
use Rattle.ref_statements.specs.Nodes.{begun_value, begun_initialiser, begun_by, do_in, do_row, picked, first_value, choose_row, operand_at, part_left, taken_by, finish_row, wait_in, wait_row}
use Rattle.covered_runs.specs.touched_runs.Accesses.{NodeAccesses}
use Rattle.changed_cells.proofs.Kept.{Same, same_memory, Keeps, same_keeps, changed_keeps, all_stays}
use Rattle.changed_cells.proofs.Values.{Leaves, computed_leaves}
use Rattle.changed_cells.proofs.Statements.{left_same, Moved, begun_moved, finished_moved}

module _ (u : CoreTrees) (memory : List Instance) (W : ℕ → List PathStep → Type 0) (f : Frame) where
  -- a row that writes no more than that
  abbrev pub RowLeaves : Row → Type 0
  RowLeaves row = IfOk row (λ next. Keeps u.types W memory next.memory)

  computes_leaves : (n : ℕ) (effect : Effect) → Leaves u memory W effect → RowLeaves (computes f n effect)
  computes_leaves n (Ok e) h = h
  computes_leaves n (Err reason) h = tt

  changes_leave : (move : Move) → Moved u memory move → RowLeaves (changes f move)
  changes_leave (Ok change) h = same_keeps u.types W memory change.blocks.memory h
  changes_leave (Err reason) h = tt

  own : Same memory (blocks_of memory f).memory
  own = same_memory memory

  waits_leave : (n : ℕ) (children : List ℕ) → RowLeaves (changes f (goes_on (blocks_of memory f) (waits n children ∷ [])))
  waits_leave n children = changes_leave (goes_on (blocks_of memory f) (waits n children ∷ [])) own

  -- ---- an initialiser
  abbrev WritesNode : Node → List (ℕ × Value) → Type 0
  WritesNode node values = (i : ℕ) (path : List PathStep) → NodeAccesses u memory f.instances Write node values i path → W i path

  initialised_key : (b : Bool) (list : List Initial) (a : Instance) → (initialised u.types b list a).key ≡ a.key
  initialised_key true list a = refl
  initialised_key false list a = refl

  initialised_bytes : (b : Bool) (list : List Initial) (a : Instance) → (initialised u.types b list a).bytes ≡ a.bytes
  initialised_bytes true list a = refl
  initialised_bytes false list a = refl

  initialised_ty : (b : Bool) (list : List Initial) (a : Instance) → (initialised u.types b list a).ty ≡ a.ty
  initialised_ty true list a = refl
  initialised_ty false list a = refl

  at_leaves : (o : Option ℕ) (paths : List (List PathStep)) (list : List Initial) → ((i : ℕ) → o ≡ Some i → (path : List PathStep) → W i path) → RowLeaves (initialised_at u memory f o paths list)
  at_leaves None paths list writes = tt
  at_leaves (Some i) paths list writes =
      changed_keeps u.types W memory i (initialised u.types (clears paths) list)
      (λ a is. all_stays u.types (W i) a (initialised u.types (clears paths) list a) (writes i refl) (initialised_key (clears paths) list a) (initialised_bytes (clears paths) list a) (initialised_ty (clears paths) list a))

  initial_by : (kind : NodeKind) (children : List ℕ) (values : List (ℕ × Value))
      → ((i e : ℕ) → filled_by Write kind ≡ Some e → instance_of memory f.instances (EntityKey e) ≡ Some i → (path : List PathStep) → W i path) → RowLeaves (initialise_by u memory f kind children values)
  initial_by (Initialise e paths) children values writes = at_leaves (instance_of memory f.instances (EntityKey e)) paths (parts u paths children values) (λ i is. writes i e refl is)
  initial_by kind children values writes = tt

  initial_leaves : (node : Node) (values : List (ℕ × Value)) → WritesNode node values → RowLeaves (initialise_row u memory f node values)
  unfolding initialise_row
  initial_leaves node values writes =
      either (lacks u values node.children) (Err UnsetUse) (initialise_by u memory f node.kind node.children values) _ tt
      (initial_by node.kind node.children values (λ i e filled is path. writes i path (inr (inl (e, filled, is)))))

  -- ---- a value
  node_leaves : (n : ℕ) (node : Node) (values : List (ℕ × Value)) (word : ℕ) → WritesNode node values → RowLeaves (computes f n (computed u memory f.instances n node values word))
  node_leaves n node values word writes =
      computes_leaves n (computed u memory f.instances n node values word) (computed_leaves u memory W f.instances n node values word (λ i path p is of. writes i path (inl (p, is, of))))

  -- ---- a node is begun
  begun_leaves : (n : ℕ) (node : Node) (children : List ℕ) (word : ℕ) → (children ≡ [] → WritesNode node []) → RowLeaves (begun_value u memory f n node children word)
  begun_leaves n node [] word writes = node_leaves n node [] word (writes refl)
  begun_leaves n node (c ∷ rest) word writes = waits_leave n (c ∷ rest)

  begun_initial : (n : ℕ) (node : Node) (children : List ℕ) → (children ≡ [] → WritesNode node []) → RowLeaves (begun_initialiser u memory f n node children)
  begun_initial n node [] writes = initial_leaves node [] (writes refl)
  begun_initial n node (c ∷ rest) writes = waits_leave n (c ∷ rest)

  begun_form : (n : ℕ) (node : Node) (form : Form) (word : ℕ) → (node.children ≡ [] → WritesNode node []) → RowLeaves (begun_by u memory f n node form word)
  begun_form n node Form.Value word writes = begun_leaves n node node.children word writes
  begun_form n node Form.Sequence word writes = begun_leaves n node node.children word writes
  begun_form n node Form.Choose word writes = begun_leaves n node node.children word writes
  begun_form n node Form.Initialise word writes = begun_initial n node node.children writes
  begun_form n node form word writes =
      changes_leave (begun_row u f.items (blocks_of memory f) n form (goto_name node.kind) node.children) (begun_moved u memory f.items (blocks_of memory f) n form (goto_name node.kind) node.children own)

  do_found : (n : ℕ) (o : Option Node) (word : ℕ) → ((node : Node) → o ≡ Some node → node.children ≡ [] → WritesNode node []) → RowLeaves (do_in u memory f n o word)
  do_found n None word writes = tt
  do_found n (Some node) word writes = begun_form n node (form_of node.kind) word (writes node refl)

  pub do_leaves : (n word : ℕ) → ((node : Node) → slice_get u.nodes n ≡ Some node → node.children ≡ [] → (i : ℕ) (path : List PathStep) → NodeAccesses u memory f.instances Write node [] i path → W i path) → RowLeaves (do_row u memory f n word)
  unfolding do_row
  do_leaves n word writes = do_found n (slice_get u.nodes n) word writes

  -- ---- a node goes on
  left_keeps : (o : Option ℕ) → Same memory (part_left u o (blocks_of memory f)).memory
  left_keeps None = own
  left_keeps (Some part) = left_same u memory (Part part) (blocks_of memory f) own

  taken_leaves : (n : ℕ) (form : Form) (children operands : List ℕ) (values : List (ℕ × Value)) (word : ℕ) (o : Option (ℕ × ℕ)) → RowLeaves (taken_by u memory f n form children operands values word o)
  taken_leaves n form children operands values word None =
      same_keeps u.types W memory (part_left u (part_before form children (operand_at operands (picked form (length operands) word))) (blocks_of memory f)).memory
      (left_keeps (part_before form children (operand_at operands (picked form (length operands) word))))
  taken_leaves n form children operands values word (Some two) =
      changes_leave (choose_row (blocks_of memory f) n two.0 two.1 values) (after_any (is_true (cell_of (first_value values))) _ _ (λ yes. own))

  finish_leaves : (n : ℕ) (node : Node) (form : Form) (values : List (ℕ × Value)) (word : ℕ) → WritesNode node values → RowLeaves (finish_row u memory f n node form values word)
  finish_leaves n node Form.Value values word writes = node_leaves n node values word writes
  finish_leaves n node Form.Sequence values word writes = node_leaves n node values word writes
  finish_leaves n node Form.Choose values word writes = computes_leaves n (gives memory (first_value values)) (same_keeps u.types W memory memory own)
  finish_leaves n node Form.Initialise values word writes = initial_leaves node values writes
  finish_leaves n node form values word writes =
      changes_leave (finished_row u f.items (blocks_of memory f) n form node.children values) (finished_moved u memory f.items (blocks_of memory f) n form node.children values own)

  wait_found : (n : ℕ) (o : Option Node) (operands : List ℕ) (values : List (ℕ × Value)) (word : ℕ) → (operands ≡ [] → (node : Node) → o ≡ Some node → WritesNode node values) → RowLeaves (wait_in u memory f n o operands values word)
  wait_found n None operands values word writes = tt
  wait_found n (Some node) [] values word writes = finish_leaves n node (form_of node.kind) values word (writes refl node refl)
  wait_found n (Some node) (c ∷ operands) values word writes =
      taken_leaves n (form_of node.kind) node.children (c ∷ operands) values word (branches (form_of node.kind) (c ∷ operands))

  pub wait_leaves : (n : ℕ) (operands : List ℕ) (values : List (ℕ × Value)) (word : ℕ)
      → (operands ≡ [] → (node : Node) → slice_get u.nodes n ≡ Some node → (i : ℕ) (path : List PathStep) → NodeAccesses u memory f.instances Write node values i path → W i path) → RowLeaves (wait_row u memory f n operands values word)
  unfolding wait_row
  wait_leaves n operands values word writes = wait_found n (slice_get u.nodes n) operands values word writes
