-- The rows of all nodes but calls: what a frame's top item does.
use Rattle.std.specs.Prelude.{ℕ, ◌%◌, Bool, true, false, if◌then◌else◌, List, [], ◌∷◌, Option, Some, None, Err}
use Rattle.std.specs.Prelude.{length, slice_get}
use Rattle.core_tree.specs.declared.node.Node.{Node}
use Rattle.core_tree.specs.Typed.{CoreTrees}
use Rattle.ref_cells.specs.declared.cells.Value.{Value}
use Rattle.ref_cells.specs.declared.cells.Reason.TheVariants.{Mismatch}
use Rattle.ref_cells.specs.declared.instance.Instance.{Instance}
use Rattle.ref_elements.specs.Runs.{◌>>=◌}
use Rattle.ref_elements.specs.Outcomes.{gives}
use Rattle.ref_state.specs.declared.items.Item.TheVariants.{Do}
use Rattle.ref_state.specs.declared.frames.Frame.{Frame}
use Rattle.ref_state.specs.Values.{no_value, cell_of}
use Rattle.ref_state.specs.Changes.{Blocks, blocks_of}
use Rattle.ref_values.specs.Values.{is_true, computed}
use Rattle.ref_blocks.specs.declared.block.Block.TheVariants.{Part}
use Rattle.ref_blocks.specs.Blocks.{left}
use Rattle.ref_statements.specs.declared.forms.Form.{Form}
use Rattle.ref_statements.specs.Forms.{form_of, goto_name, branches, part_before}
use Rattle.ref_statements.specs.Rows.{Row, Move, goes_on, changes, takes, computes}
use Rattle.ref_statements.specs.Statements.{waits, begun_row, finished_row}
use Rattle.ref_statements.specs.Initialisers.{initialise_row}

-- an expression is begun: it is computed, or waits for its operands
abbrev pub begun_value : CoreTrees → List Instance → Frame → ℕ → Node → List ℕ → ℕ → Row
begun_value u memory f n node [] word = computes f n (computed u memory f.instances n node [] word)
begun_value u memory f n node (c ∷ rest) word = changes f (goes_on (blocks_of memory f) (waits n (c ∷ rest) ∷ []))

-- an initialiser is begun: it is done, or waits for its values
abbrev pub begun_initialiser : CoreTrees → List Instance → Frame → ℕ → Node → List ℕ → Row
begun_initialiser u memory f n node [] = initialise_row u memory f node []
begun_initialiser u memory f n node (c ∷ rest) = changes f (goes_on (blocks_of memory f) (waits n (c ∷ rest) ∷ []))

-- by what a node is
abbrev pub begun_by : CoreTrees → List Instance → Frame → ℕ → Node → Form → ℕ → Row
begun_by u memory f n node Form.Value word = begun_value u memory f n node node.children word
begun_by u memory f n node Form.Sequence word = begun_value u memory f n node node.children word
begun_by u memory f n node Form.Choose word = begun_value u memory f n node node.children word
begun_by u memory f n node Form.Initialise word = begun_initialiser u memory f n node node.children
begun_by u memory f n node form word =
    changes f (begun_row u f.items (blocks_of memory f) n form (goto_name node.kind) node.children)

abbrev pub do_in : CoreTrees → List Instance → Frame → ℕ → Option Node → ℕ → Row
do_in u memory f n None word = Err Mismatch
do_in u memory f n (Some node) word = begun_by u memory f n node (form_of node.kind) word

-- Do
unfoldable pub do_row : CoreTrees → List Instance → Frame → ℕ → ℕ → Row
do_row u memory f n word = do_in u memory f n (slice_get u.nodes n) word

-- the word picks an operand, where their order isn't fixed
abbrev pub picks : Form → Bool
picks Form.Value = true
picks form = false

-- which of the operands that are left comes next
abbrev pub picked : Form → ℕ → ℕ → ℕ
picked form count word = if picks form then word % count else 0

abbrev pub first_value : List (ℕ × Value) → Value
first_value [] = no_value
first_value (v ∷ rest) = v.1

abbrev pub chosen : Bool → ℕ → ℕ → ℕ
chosen true a b = a
chosen false a b = b

-- the branch that a Choose takes alone, by the value of its condition
abbrev pub choose_row : Blocks → ℕ → ℕ → ℕ → List (ℕ × Value) → Move
choose_row s n a b values =
    is_true (cell_of (first_value values)) >>= λ yes. goes_on s (Do (chosen yes a b) ∷ waits n [] ∷ [])

abbrev pub operand_at : List ℕ → ℕ → ℕ
operand_at operands i = elim (slice_get operands i) [ None ↦ 0 | Some c ↦ c ]

abbrev pub part_left : CoreTrees → Option ℕ → Blocks → Blocks
part_left u None s = s
part_left u (Some part) s = left u (Part part) s

-- an operand is done next, after what the statement leaves before it
abbrev pub operand_row : CoreTrees → List Instance → Frame → Form → List ℕ → List ℕ → ℕ → Row
operand_row u memory f form children operands i =
    takes f (part_left u (part_before form children (operand_at operands i)) (blocks_of memory f)) i

abbrev pub taken_by : CoreTrees
    → List Instance
    → Frame
    → ℕ
    → Form
    → List ℕ
    → List ℕ
    → List (ℕ × Value)
    → ℕ
    → Option (ℕ × ℕ)
    → Row
taken_by u memory f n form children operands values word None =
    operand_row u memory f form children operands (picked form (length operands) word)
taken_by u memory f n form children operands values word (Some two) =
    changes f (choose_row (blocks_of memory f) n two.0 two.1 values)

-- Wait, with operands left
abbrev pub take_row : CoreTrees
    → List Instance
    → Frame
    → ℕ
    → Form
    → List ℕ
    → List ℕ
    → List (ℕ × Value)
    → ℕ
    → Row
take_row u memory f n form children operands values word =
    taken_by u memory f n form children operands values word (branches form operands)

-- Wait, with all operands there
abbrev pub finish_row : CoreTrees → List Instance → Frame → ℕ → Node → Form → List (ℕ × Value) → ℕ → Row
finish_row u memory f n node Form.Value values word = computes f n (computed u memory f.instances n node values word)
finish_row u memory f n node Form.Sequence values word =
    computes f n (computed u memory f.instances n node values word)
finish_row u memory f n node Form.Choose values word = computes f n (gives memory (first_value values))
finish_row u memory f n node Form.Initialise values word = initialise_row u memory f node values
finish_row u memory f n node form values word =
    changes f (finished_row u f.items (blocks_of memory f) n form node.children values)

abbrev pub wait_by : CoreTrees → List Instance → Frame → ℕ → Node → List ℕ → List (ℕ × Value) → ℕ → Row
wait_by u memory f n node [] values word = finish_row u memory f n node (form_of node.kind) values word
wait_by u memory f n node (c ∷ operands) values word =
    take_row u memory f n (form_of node.kind) node.children (c ∷ operands) values word

abbrev pub wait_in : CoreTrees → List Instance → Frame → ℕ → Option Node → List ℕ → List (ℕ × Value) → ℕ → Row
wait_in u memory f n None operands values word = Err Mismatch
wait_in u memory f n (Some node) operands values word = wait_by u memory f n node operands values word

-- Wait
unfoldable pub wait_row : CoreTrees → List Instance → Frame → ℕ → List ℕ → List (ℕ × Value) → ℕ → Row
wait_row u memory f n operands values word = wait_in u memory f n (slice_get u.nodes n) operands values word
