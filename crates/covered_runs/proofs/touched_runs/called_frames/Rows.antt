-- The rows of all nodes but calls keep the frame's function and what entered it, and leave its items layered.
use Rattle.std.proofs.Common.{◌≡◌, ℕ, Bool, true, false, cond, List, [], ◌∷◌, drop, length, Option, Some, None, Ok, Err, slice_get, refl, subst}
use Rattle.c_types.specs.declared.term.PathStep.{PathStep}
use Rattle.core_tree.specs.declared.node.Node.{Node}
use Rattle.core_tree.specs.declared.node.NodeKind.{NodeKind}
use Rattle.core_tree.specs.declared.node.NodeKind.TheVariants.{Initialise}
use Rattle.core_tree.specs.Typed.{CoreTrees}
use Rattle.ref_cells.specs.declared.cells.Reason.{Reason}
use Rattle.ref_cells.specs.declared.cells.Reason.TheVariants.{Unset as UnsetUse, Mismatch}
use Rattle.ref_cells.specs.declared.cells.Value.{Value}
use Rattle.ref_cells.specs.declared.instance.Instance.{Instance}
use Rattle.c_types.specs.declared.key.ObjectKey.TheVariants.{Entity as EntityKey}
use Rattle.ref_elements.specs.Outcomes.{Effect, gives}
use Rattle.ref_mem.specs.declared.writes.Initial.{Initial}
use Rattle.ref_state.specs.declared.frames.Frame.{Frame}
use Rattle.ref_state.specs.Changes.{Blocks, blocks_of}
use Rattle.ref_places.specs.Places.{instance_of}
use Rattle.ref_values.specs.Values.{lacks, computed}
use Rattle.ref_statements.specs.declared.forms.Form.{Form}
use Rattle.ref_statements.specs.Forms.{form_of, goto_name, branches, part_before}
use Rattle.ref_statements.specs.Rows.{Move, Next, Row, goes_on, changes, takes, computes}
use Rattle.ref_statements.specs.Statements.{waits, begun_row, finished_row}
use Rattle.ref_statements.specs.Initialisers.{parts, initialised_at, initialise_by, initialise_row}
use Rattle.ref_statements.specs.Nodes.{begun_value, begun_initialiser, begun_by, do_in, do_row, picked, first_value, choose_row, operand_at, part_left, taken_by, finish_row, wait_in, wait_row}
use Rattle.covered_runs.proofs.covered_steps.covered_values.Operands.{ok_one, err_ok}
use Rattle.covered_runs.specs.touched_runs.called_frames.Layers.{AreLayered}
use Rattle.covered_runs.proofs.touched_runs.called_frames.Items.{layered_drop, layered_settled, layered_taken, layered_on}
use Rattle.covered_runs.proofs.touched_runs.called_frames.Moves.{PutsNoCall, waiting, begun_puts, finished_puts, choose_puts}

-- what a row leaves of a frame: the function and what entered it, and layered items
pub record KeepsFrame (f : Frame) (x : Next) : Type 0 where
  pub function : x.frame.function ≡ f.function
  pub call : x.frame.call ≡ f.call
  pub by : x.frame.by ≡ f.by
  pub items : AreLayered f.function x.frame.items

abbrev pub RowKeeps : Frame → Row → Type 0
RowKeeps f row = (x : Next) → row ≡ Ok x → KeepsFrame f x

module _ (u : CoreTrees) (memory : List Instance) (f : Frame) (layered : AreLayered f.function f.items) where
  wrong : (reason : Reason) → RowKeeps f (Err reason)
  wrong reason x is = absurd (err_ok is)

  computed_keeps : (n : ℕ) (effect : Effect) → RowKeeps f (computes f n effect)
  computed_keeps n (Ok e) x is =
      subst (KeepsFrame f) (ok_one is) (record { function = refl; call = refl; by = refl; items = layered_settled f.function n e.outcome.value f.items layered })
  computed_keeps n (Err reason) x is = absurd (err_ok is)

  changes_keep : (move : Move) → PutsNoCall move → RowKeeps f (changes f move)
  changes_keep (Ok change) h x is =
      subst (KeepsFrame f) (ok_one is)
      (record { function = refl; call = refl; by = refl; items = layered_on f.function change.on (drop change.off f.items) (h change refl) (layered_drop f.function change.off f.items layered) })
  changes_keep (Err reason) h x is = absurd (err_ok is)

  takes_keep : (s : Blocks) (i : ℕ) → RowKeeps f (takes f s i)
  takes_keep s i x is = subst (KeepsFrame f) (ok_one is) (record { function = refl; call = refl; by = refl; items = layered_taken f.function i f.items layered })

  -- an initialiser
  initial_at : (o : Option ℕ) (paths : List (List PathStep)) (list : List Initial) → RowKeeps f (initialised_at u memory f o paths list)
  initial_at None paths list x is = absurd (err_ok is)
  initial_at (Some i) paths list x is = subst (KeepsFrame f) (ok_one is) (record { function = refl; call = refl; by = refl; items = layered_drop f.function 1 f.items layered })

  initial_by : (kind : NodeKind) (children : List ℕ) (values : List (ℕ × Value)) → RowKeeps f (initialise_by u memory f kind children values)
  initial_by (Initialise e paths) children values = initial_at (instance_of memory f.instances (EntityKey e)) paths (parts u paths children values)
  initial_by kind children values = wrong Mismatch

  initial_keeps : (node : Node) (values : List (ℕ × Value)) → RowKeeps f (initialise_row u memory f node values)
  unfolding initialise_row
  initial_keeps node values = by (lacks u values node.children)
    where
      by : (b : Bool) → RowKeeps f (cond b (Err UnsetUse) (initialise_by u memory f node.kind node.children values))
      by true = wrong UnsetUse
      by false = initial_by node.kind node.children values

  -- a node is begun
  value_begun : (n : ℕ) (node : Node) (children : List ℕ) (word : ℕ) → RowKeeps f (begun_value u memory f n node children word)
  value_begun n node [] word = computed_keeps n (computed u memory f.instances n node [] word)
  value_begun n node (c ∷ rest) word = changes_keep (goes_on (blocks_of memory f) (waits n (c ∷ rest) ∷ [])) (waiting (blocks_of memory f) n (c ∷ rest))

  initial_begun : (n : ℕ) (node : Node) (children : List ℕ) → RowKeeps f (begun_initialiser u memory f n node children)
  initial_begun n node [] = initial_keeps node []
  initial_begun n node (c ∷ rest) = changes_keep (goes_on (blocks_of memory f) (waits n (c ∷ rest) ∷ [])) (waiting (blocks_of memory f) n (c ∷ rest))

  begun_so : (n : ℕ) (node : Node) (form : Form) (word : ℕ) → RowKeeps f (begun_by u memory f n node form word)
  begun_so n node Form.Value word = value_begun n node node.children word
  begun_so n node Form.Sequence word = value_begun n node node.children word
  begun_so n node Form.Choose word = value_begun n node node.children word
  begun_so n node Form.Initialise word = initial_begun n node node.children
  begun_so n node form word =
      changes_keep (begun_row u f.items (blocks_of memory f) n form (goto_name node.kind) node.children) (begun_puts u f.items (blocks_of memory f) n form (goto_name node.kind) node.children)

  do_found : (n : ℕ) (o : Option Node) (word : ℕ) → RowKeeps f (do_in u memory f n o word)
  do_found n None word = wrong Mismatch
  do_found n (Some node) word = begun_so n node (form_of node.kind) word

  pub do_keeps : (n word : ℕ) → RowKeeps f (do_row u memory f n word)
  unfolding do_row
  do_keeps n word = do_found n (slice_get u.nodes n) word

  -- a node goes on
  taken_so : (n : ℕ) (form : Form) (children operands : List ℕ) (values : List (ℕ × Value)) (word : ℕ) (o : Option (ℕ × ℕ)) → RowKeeps f (taken_by u memory f n form children operands values word o)
  taken_so n form children operands values word None =
      takes_keep (part_left u (part_before form children (operand_at operands (picked form (length operands) word))) (blocks_of memory f)) (picked form (length operands) word)
  taken_so n form children operands values word (Some two) = changes_keep (choose_row (blocks_of memory f) n two.0 two.1 values) (choose_puts (blocks_of memory f) n two.0 two.1 values)

  finished_so : (n : ℕ) (node : Node) (form : Form) (values : List (ℕ × Value)) (word : ℕ) → RowKeeps f (finish_row u memory f n node form values word)
  finished_so n node Form.Value values word = computed_keeps n (computed u memory f.instances n node values word)
  finished_so n node Form.Sequence values word = computed_keeps n (computed u memory f.instances n node values word)
  finished_so n node Form.Choose values word = computed_keeps n (gives memory (first_value values))
  finished_so n node Form.Initialise values word = initial_keeps node values
  finished_so n node form values word = changes_keep (finished_row u f.items (blocks_of memory f) n form node.children values) (finished_puts u f.items (blocks_of memory f) n form node.children values)

  wait_found : (n : ℕ) (o : Option Node) (operands : List ℕ) (values : List (ℕ × Value)) (word : ℕ) → RowKeeps f (wait_in u memory f n o operands values word)
  wait_found n None operands values word = wrong Mismatch
  wait_found n (Some node) [] values word = finished_so n node (form_of node.kind) values word
  wait_found n (Some node) (c ∷ operands) values word = taken_so n (form_of node.kind) node.children (c ∷ operands) values word (branches (form_of node.kind) (c ∷ operands))

  pub wait_keeps : (n : ℕ) (operands : List ℕ) (values : List (ℕ × Value)) (word : ℕ) → RowKeeps f (wait_row u memory f n operands values word)
  unfolding wait_row
  wait_keeps n operands values word = wait_found n (slice_get u.nodes n) operands values word
