-- The rows of nodes stop for no bad call, but for calls.
use Rattle.std.proofs.Common.{ℕ, ◌==◌, ℤ, Bool, true, false, find, List, [], ◌∷◌, Option, Some, None, Ok, Err, slice_get}
use Rattle.c_types.specs.declared.key.ObjectKey.TheVariants.{Entity as EntityKey}
use Rattle.c_types.specs.declared.term.PathStep.{PathStep}
use Rattle.core_tree.specs.declared.node.Node.{Node}
use Rattle.core_tree.specs.declared.node.NodeKind.{NodeKind}
use Rattle.core_tree.specs.declared.node.NodeKind.TheVariants.{Initialise}
use Rattle.core_tree.specs.Typed.{CoreTrees}
use Rattle.ref_cells.specs.declared.cells.Reason.TheVariants.{Unset as UnsetUse}
use Rattle.ref_cells.specs.declared.cells.Cell.{Cell}
use Rattle.ref_cells.specs.declared.cells.Cell.TheVariants.{Unset, Number}
use Rattle.ref_cells.specs.declared.cells.Value.{Value}
use Rattle.ref_cells.specs.declared.instance.Instance.{Instance}
use Rattle.ref_mem.specs.declared.writes.Initial.{Initial}
use Rattle.ref_elements.specs.Outcomes.{Effect, gives}
use Rattle.ref_state.specs.declared.items.Item.{Item}
use Rattle.ref_state.specs.declared.items.Item.TheVariants.{Do}
use Rattle.ref_state.specs.declared.frames.Frame.{Frame}
use Rattle.ref_state.specs.Values.{cell_of, value_in}
use Rattle.ref_state.specs.Changes.{Blocks, blocks_of}
use Rattle.ref_places.specs.Places.{instance_of}
use Rattle.ref_values.specs.Values.{lacks, is_true, computed}
use Rattle.ref_blocks.specs.declared.ways.Sought.TheVariants.{LoopAlone, LoopOrSwitch}
use Rattle.ref_blocks.specs.Ways.{above, nearest, is_sought}
use Rattle.ref_blocks.specs.Loops.{condition_of, after_of, body_of}
use Rattle.ref_blocks.specs.Jumps.{switch_target, label_target, meeting}
use Rattle.ref_statements.specs.declared.forms.Form.{Form}
use Rattle.ref_statements.specs.Forms.{form_of, goto_name, branches}
use Rattle.ref_statements.specs.Rows.{Move, goes_on, changes, computes}
use Rattle.ref_statements.specs.Statements.{waits, does_branch, branch, if_row, turns, turns_by, while_row, do_while_row, for_asked, for_part, for_row, number_in, switches_to, switch_row, breaks, break_row, continues, continue_row, goes_to, goto_found, goto_row, returns, return_row, lone_row, begun_row, finished_row}
use Rattle.ref_statements.specs.Initialisers.{parts, initialised_at, initialise_by, initialise_row}
use Rattle.ref_statements.specs.Nodes.{begun_value, begun_initialiser, begun_by, do_in, do_row, first_value, chosen, choose_row, taken_by, finish_row, wait_by, wait_in, wait_row}
use Rattle.listed_stops.proofs.Fair.{Fair, then_fair, either_fair}
use Rattle.listed_stops.proofs.FairValues.{true_fair, computed_fair}

-- ---- statements
does_branch_fair : (u : CoreTrees) (s : Blocks) (n : ℕ) (parts : List ℕ) → Fair (does_branch u s n parts)
does_branch_fair u s n [] = tt
does_branch_fair u s n (part ∷ rest) = tt

if_fair : (u : CoreTrees) (s : Blocks) (n : ℕ) (children : List ℕ) (values : List (ℕ × Value)) → Fair (if_row u s n children values)
if_fair u s n (c ∷ branches) [] = tt
if_fair u s n (c ∷ branches) (v ∷ values) =
    then_fair (is_true (cell_of v.1)) (λ b. does_branch u s n (branch b branches)) (true_fair (cell_of v.1)) (λ b. does_branch_fair u s n (branch b branches))
if_fair u s n children values = tt

turns_fair : (u : CoreTrees) (s : Blocks) (n : ℕ) (operands : List ℕ) (part : ℕ) (b : Bool) → Fair (turns u s n operands part b)
turns_fair u s n operands part true = tt
turns_fair u s n operands part false = tt

turns_by_fair : (u : CoreTrees) (s : Blocks) (n : ℕ) (operands : List ℕ) (part : ℕ) (cell : Cell) → Fair (turns_by u s n operands part cell)
turns_by_fair u s n operands part cell = then_fair (is_true cell) (λ b. turns u s n operands part b) (true_fair cell) (λ b. turns_fair u s n operands part b)

while_fair : (u : CoreTrees) (s : Blocks) (n : ℕ) (children : List ℕ) (values : List (ℕ × Value)) → Fair (while_row u s n children values)
while_fair u s n (c ∷ part ∷ []) [] = tt
while_fair u s n (c ∷ part ∷ []) (v ∷ values) = turns_by_fair u s n [] part (cell_of v.1)
while_fair u s n children values = tt

do_while_fair : (u : CoreTrees) (s : Blocks) (n : ℕ) (children : List ℕ) (values : List (ℕ × Value)) → Fair (do_while_row u s n children values)
do_while_fair u s n (part ∷ c ∷ []) (v ∷ values) = turns_by_fair u s n (c ∷ []) part (cell_of v.1)
do_while_fair u s n children values = tt

for_asked_fair : (u : CoreTrees) (s : Blocks) (n c : ℕ) (after : List ℕ) (part : ℕ) (o : Option (ℕ × Value)) → Fair (for_asked u s n c after part o)
for_asked_fair u s n c after part None = tt
for_asked_fair u s n c after part (Some v) = turns_by_fair u s n after part (cell_of v.1)

for_part_fair : (u : CoreTrees) (s : Blocks) (n : ℕ) (condition after : List ℕ) (part : ℕ) (values : List (ℕ × Value)) → Fair (for_part u s n condition after part values)
for_part_fair u s n [] after part values = tt
for_part_fair u s n (c ∷ rest) after part values = for_asked_fair u s n c after part (find (λ (v : ℕ × Value). v.0 == c) values)

for_fair : (u : CoreTrees) (s : Blocks) (n : ℕ) (condition after body : List ℕ) (values : List (ℕ × Value)) → Fair (for_row u s n condition after body values)
for_fair u s n condition after (part ∷ []) values = for_part_fair u s n condition after part values
for_fair u s n condition after body values = tt

number_fair : (cell : Cell) → Fair (number_in cell)
number_fair (Number n) = tt
number_fair Unset = tt
number_fair cell = tt

switches_fair : (u : CoreTrees) (items : List Item) (s : Blocks) (n : ℕ) (o : Option ℕ) → Fair (switches_to u items s n o)
switches_fair u items s n None = tt
switches_fair u items s n (Some t) = tt

switch_fair : (u : CoreTrees) (items : List Item) (s : Blocks) (n : ℕ) (children : List ℕ) (values : List (ℕ × Value)) → Fair (switch_row u items s n children values)
switch_fair u items s n (c ∷ part ∷ []) [] = tt
switch_fair u items s n (c ∷ part ∷ []) (v ∷ values) =
    then_fair (number_in (cell_of v.1)) (λ (x : ℤ). switches_to u items s n (switch_target u.nodes n x)) (number_fair (cell_of v.1)) (λ x. switches_fair u items s n (switch_target u.nodes n x))
switch_fair u items s n children values = tt

breaks_fair : (u : CoreTrees) (items : List Item) (s : Blocks) (n : ℕ) (o : Option ℕ) → Fair (breaks u items s n o)
breaks_fair u items s n None = tt
breaks_fair u items s n (Some a) = tt

break_fair : (u : CoreTrees) (items : List Item) (s : Blocks) (n : ℕ) → Fair (break_row u items s n)
unfolding break_row
break_fair u items s n = breaks_fair u items s n (nearest u.nodes (is_sought LoopOrSwitch) (above u.nodes n))

continues_fair : (u : CoreTrees) (items : List Item) (s : Blocks) (n : ℕ) (o : Option ℕ) → Fair (continues u items s n o)
continues_fair u items s n None = tt
continues_fair u items s n (Some a) = tt

continue_fair : (u : CoreTrees) (items : List Item) (s : Blocks) (n : ℕ) → Fair (continue_row u items s n)
unfolding continue_row
continue_fair u items s n = continues_fair u items s n (nearest u.nodes (is_sought LoopAlone) (above u.nodes n))

goes_to_fair : (u : CoreTrees) (items : List Item) (s : Blocks) (n t : ℕ) (o : Option ℕ) → Fair (goes_to u items s n t o)
goes_to_fair u items s n t None = tt
goes_to_fair u items s n t (Some a) = tt

goto_found_fair : (u : CoreTrees) (items : List Item) (s : Blocks) (n : ℕ) (o : Option ℕ) → Fair (goto_found u items s n o)
goto_found_fair u items s n None = tt
goto_found_fair u items s n (Some t) = goes_to_fair u items s n t (meeting u.nodes (above u.nodes n) (above u.nodes t))

goto_fair : (u : CoreTrees) (items : List Item) (s : Blocks) (n : ℕ) (name : List ℕ) → Fair (goto_row u items s n name)
unfolding goto_row
goto_fair u items s n name = goto_found_fair u items s n (label_target u.nodes n name)

return_fair : (u : CoreTrees) (items : List Item) (s : Blocks) (children : List ℕ) (values : List (ℕ × Value)) → Fair (return_row u items s children values)
return_fair u items s (v ∷ []) values = either_fair (lacks u values (v ∷ [])) (Err UnsetUse) (returns items s (value_in values v)) tt tt
return_fair u items s children values = tt

lone_fair : (u : CoreTrees) (items : List Item) (s : Blocks) (n : ℕ) (form : Form) (name : List ℕ) → Fair (lone_row u items s n form name)
lone_fair u items s n Form.Break name = break_fair u items s n
lone_fair u items s n Form.Continue name = continue_fair u items s n
lone_fair u items s n Form.Goto name = goto_fair u items s n name
lone_fair u items s n Form.Return name = tt
lone_fair u items s n Form.Compound name = tt
lone_fair u items s n form name = tt

begun_row_fair : (u : CoreTrees) (items : List Item) (s : Blocks) (n : ℕ) (form : Form) (name children : List ℕ) → Fair (begun_row u items s n form name children)
begun_row_fair u items s n form name [] = lone_fair u items s n form name
begun_row_fair u items s n Form.Label name (part ∷ rest) = tt
begun_row_fair u items s n Form.DoWhile name (part ∷ rest) = tt
begun_row_fair u items s n form name children = tt

finished_row_fair : (u : CoreTrees) (items : List Item) (s : Blocks) (n : ℕ) (form : Form) (children : List ℕ) (values : List (ℕ × Value)) → Fair (finished_row u items s n form children values)
finished_row_fair u items s n Form.Compound children values = tt
finished_row_fair u items s n Form.If children values = if_fair u s n children values
finished_row_fair u items s n Form.While children values = while_fair u s n children values
finished_row_fair u items s n Form.DoWhile children values = do_while_fair u s n children values
finished_row_fair u items s n (Form.For condition after) children values = for_fair u s n (condition_of condition after children) (after_of after children) (body_of children) values
finished_row_fair u items s n Form.Switch children values = switch_fair u items s n children values
finished_row_fair u items s n Form.Return children values = return_fair u items s children values
finished_row_fair u items s n form children values = tt

-- ---- what rows leave
changes_fair : (f : Frame) (move : Move) → Fair move → Fair (changes f move)
changes_fair f (Ok change) h = tt
changes_fair f (Err e) h = h

computes_fair : (f : Frame) (n : ℕ) (effect : Effect) → Fair effect → Fair (computes f n effect)
computes_fair f n (Ok e) h = tt
computes_fair f n (Err e) h = h

-- ---- initialisers
initialised_fair : (u : CoreTrees) (memory : List Instance) (f : Frame) (o : Option ℕ) (paths : List (List PathStep)) (list : List Initial) → Fair (initialised_at u memory f o paths list)
initialised_fair u memory f None paths list = tt
initialised_fair u memory f (Some i) paths list = tt

initialise_by_fair : (u : CoreTrees) (memory : List Instance) (f : Frame) (kind : NodeKind) (children : List ℕ) (values : List (ℕ × Value)) → Fair (initialise_by u memory f kind children values)
initialise_by_fair u memory f (Initialise e paths) children values = initialised_fair u memory f (instance_of memory f.instances (EntityKey e)) paths (parts u paths children values)
initialise_by_fair u memory f kind children values = tt

initialise_fair : (u : CoreTrees) (memory : List Instance) (f : Frame) (node : Node) (values : List (ℕ × Value)) → Fair (initialise_row u memory f node values)
unfolding initialise_row
initialise_fair u memory f node values =
    either_fair (lacks u values node.children) (Err UnsetUse) (initialise_by u memory f node.kind node.children values) tt (initialise_by_fair u memory f node.kind node.children values)

-- ---- nodes
begun_value_fair : (u : CoreTrees) (memory : List Instance) (f : Frame) (n : ℕ) (node : Node) (children : List ℕ) (word : ℕ) → Fair (begun_value u memory f n node children word)
begun_value_fair u memory f n node [] word = computes_fair f n (computed u memory f.instances n node [] word) (computed_fair u memory f.instances n node [] word)
begun_value_fair u memory f n node (c ∷ rest) word = tt

begun_initialiser_fair : (u : CoreTrees) (memory : List Instance) (f : Frame) (n : ℕ) (node : Node) (children : List ℕ) → Fair (begun_initialiser u memory f n node children)
begun_initialiser_fair u memory f n node [] = initialise_fair u memory f node []
begun_initialiser_fair u memory f n node (c ∷ rest) = tt

begun_by_fair : (u : CoreTrees) (memory : List Instance) (f : Frame) (n : ℕ) (node : Node) (form : Form) (word : ℕ) → Fair (begun_by u memory f n node form word)
begun_by_fair u memory f n node Form.Value word = begun_value_fair u memory f n node node.children word
begun_by_fair u memory f n node Form.Sequence word = begun_value_fair u memory f n node node.children word
begun_by_fair u memory f n node Form.Choose word = begun_value_fair u memory f n node node.children word
begun_by_fair u memory f n node Form.Initialise word = begun_initialiser_fair u memory f n node node.children
begun_by_fair u memory f n node form word =
    changes_fair f (begun_row u f.items (blocks_of memory f) n form (goto_name node.kind) node.children) (begun_row_fair u f.items (blocks_of memory f) n form (goto_name node.kind) node.children)

do_in_fair : (u : CoreTrees) (memory : List Instance) (f : Frame) (n : ℕ) (o : Option Node) (word : ℕ) → Fair (do_in u memory f n o word)
do_in_fair u memory f n None word = tt
do_in_fair u memory f n (Some node) word = begun_by_fair u memory f n node (form_of node.kind) word

pub do_fair : (u : CoreTrees) (memory : List Instance) (f : Frame) (n word : ℕ) → Fair (do_row u memory f n word)
unfolding do_row
do_fair u memory f n word = do_in_fair u memory f n (slice_get u.nodes n) word

choose_fair : (s : Blocks) (n a b : ℕ) (values : List (ℕ × Value)) → Fair (choose_row s n a b values)
choose_fair s n a b values =
    then_fair (is_true (cell_of (first_value values))) (λ (yes : Bool). goes_on s (Do (chosen yes a b) ∷ waits n [] ∷ [])) (true_fair (cell_of (first_value values))) (λ yes. tt)

taken_by_fair : (u : CoreTrees) (memory : List Instance) (f : Frame) (n : ℕ) (form : Form) (children operands : List ℕ) (values : List (ℕ × Value)) (word : ℕ) (o : Option (ℕ × ℕ))
    → Fair (taken_by u memory f n form children operands values word o)
taken_by_fair u memory f n form children operands values word None = tt
taken_by_fair u memory f n form children operands values word (Some two) = changes_fair f (choose_row (blocks_of memory f) n two.0 two.1 values) (choose_fair (blocks_of memory f) n two.0 two.1 values)

finish_fair : (u : CoreTrees) (memory : List Instance) (f : Frame) (n : ℕ) (node : Node) (form : Form) (values : List (ℕ × Value)) (word : ℕ) → Fair (finish_row u memory f n node form values word)
finish_fair u memory f n node Form.Value values word = computes_fair f n (computed u memory f.instances n node values word) (computed_fair u memory f.instances n node values word)
finish_fair u memory f n node Form.Sequence values word = computes_fair f n (computed u memory f.instances n node values word) (computed_fair u memory f.instances n node values word)
finish_fair u memory f n node Form.Choose values word = computes_fair f n (gives memory (first_value values)) tt
finish_fair u memory f n node Form.Initialise values word = initialise_fair u memory f node values
finish_fair u memory f n node form values word =
    changes_fair f (finished_row u f.items (blocks_of memory f) n form node.children values) (finished_row_fair u f.items (blocks_of memory f) n form node.children values)

wait_by_fair : (u : CoreTrees) (memory : List Instance) (f : Frame) (n : ℕ) (node : Node) (operands : List ℕ) (values : List (ℕ × Value)) (word : ℕ) → Fair (wait_by u memory f n node operands values word)
wait_by_fair u memory f n node [] values word = finish_fair u memory f n node (form_of node.kind) values word
wait_by_fair u memory f n node (c ∷ operands) values word = taken_by_fair u memory f n (form_of node.kind) node.children (c ∷ operands) values word (branches (form_of node.kind) (c ∷ operands))

wait_in_fair : (u : CoreTrees) (memory : List Instance) (f : Frame) (n : ℕ) (o : Option Node) (operands : List ℕ) (values : List (ℕ × Value)) (word : ℕ) → Fair (wait_in u memory f n o operands values word)
wait_in_fair u memory f n None operands values word = tt
wait_in_fair u memory f n (Some node) operands values word = wait_by_fair u memory f n node operands values word

pub wait_fair : (u : CoreTrees) (memory : List Instance) (f : Frame) (n : ℕ) (operands : List ℕ) (values : List (ℕ × Value)) (word : ℕ) → Fair (wait_row u memory f n operands values word)
unfolding wait_row
wait_fair u memory f n operands values word = wait_in_fair u memory f n (slice_get u.nodes n) operands values word
