-- The rows of statements (C11 6.8).
use Rattle.std.specs.Prelude.{ℕ, ℤ, ◌==◌, Bool, true, false, if◌then◌else◌, List, [], ◌∷◌, Option, Some, None}
use Rattle.std.specs.Prelude.{Result, Ok, Err, length, find}
use Rattle.core_tree.specs.Typed.{CoreTrees}
use Rattle.ref_cells.specs.declared.cells.Reason.{Reason}
use Rattle.ref_cells.specs.declared.cells.Reason.TheVariants.{Unset as UnsetUse, Mismatch}
use Rattle.ref_cells.specs.declared.cells.Cell.{Cell}
use Rattle.ref_cells.specs.declared.cells.Cell.TheVariants.{Unset, Number}
use Rattle.ref_cells.specs.declared.cells.Value.{Value}
use Rattle.ref_elements.specs.Runs.{◌>>=◌}
use Rattle.ref_state.specs.declared.items.Item.{Item}
use Rattle.ref_state.specs.declared.items.Item.TheVariants.{Do, Wait, Result as Returned}
use Rattle.ref_state.specs.Values.{no_value, cell_of, value_in}
use Rattle.ref_state.specs.Changes.{Blocks}
use Rattle.ref_values.specs.Values.{is_true, lacks}
use Rattle.ref_blocks.specs.declared.block.Block.TheVariants.{Own, Part}
use Rattle.ref_blocks.specs.declared.ways.Sought.TheVariants.{LoopAlone, LoopOrSwitch}
use Rattle.ref_blocks.specs.Ways.{above, kind_at, children_at}
use Rattle.ref_blocks.specs.Loops.{condition_of, after_of, body_of, left_next}
use Rattle.ref_blocks.specs.Blocks.{entered, left, all_left, blocks_around, but_for}
use Rattle.ref_blocks.specs.Jumps.{nearest, is_sought, switch_target, label_target, jump, meeting, blocks_with}
use Rattle.ref_blocks.specs.Jumps.{items_to}
use Rattle.ref_statements.specs.declared.forms.Form.{Form}
use Rattle.ref_statements.specs.Forms.{opens, awaited}
use Rattle.ref_statements.specs.Rows.{Move, goes_on, is_done}

-- a statement that waits for these operands
abbrev pub waits : ℕ → List ℕ → Item
waits n operands = Wait n operands []

-- a child is done next, in a block of its own
abbrev pub does_part : CoreTrees → Blocks → ℕ → List ℕ → ℕ → Move
does_part u s n operands part = goes_on (entered u (Part part) s) (Do part ∷ waits n operands ∷ [])

-- the statement is done, and its block is left
abbrev pub is_over : CoreTrees → Blocks → ℕ → Move
is_over u s n = is_done (left u (Own n) s)

-- If

abbrev pub does_branch : CoreTrees → Blocks → ℕ → List ℕ → Move
does_branch u s n [] = is_over u s n
does_branch u s n (part ∷ rest) = does_part u s n [] part

abbrev pub branch : Bool → List ℕ → List ℕ
branch true (s ∷ rest) = s ∷ []
branch false (s ∷ o ∷ rest) = o ∷ []
branch b children = []

abbrev pub parts_left : CoreTrees → List ℕ → Blocks → Blocks
parts_left u [] s = s
parts_left u (part ∷ rest) s = parts_left u rest (left u (Part part) s)

-- the condition's value is there, or the branch is done
abbrev pub if_row : CoreTrees → Blocks → ℕ → List ℕ → List (ℕ × Value) → Move
if_row u s n (c ∷ branches) [] = is_over u (parts_left u branches s) n
if_row u s n (c ∷ branches) (v ∷ values) = is_true (cell_of v.1) >>= λ b. does_branch u s n (branch b branches)
if_row u s n children values = Err Mismatch

-- loops

-- the next turn begins, or the loop ends
abbrev pub turns : CoreTrees → Blocks → ℕ → List ℕ → ℕ → Bool → Move
turns u s n operands part true = does_part u s n operands part
turns u s n operands part false = is_over u s n

-- by the value of its condition
abbrev pub turns_by : CoreTrees → Blocks → ℕ → List ℕ → ℕ → Cell → Move
turns_by u s n operands part cell = is_true cell >>= λ b. turns u s n operands part b

-- after its body a loop waits for its condition
abbrev pub asks : CoreTrees → Blocks → ℕ → ℕ → ℕ → Move
asks u s n part c = goes_on (left u (Part part) s) (waits n (c ∷ []) ∷ [])

abbrev pub while_row : CoreTrees → Blocks → ℕ → List ℕ → List (ℕ × Value) → Move
while_row u s n (c ∷ part ∷ []) [] = asks u s n part c
while_row u s n (c ∷ part ∷ []) (v ∷ values) = turns_by u s n [] part (cell_of v.1)
while_row u s n children values = Err Mismatch

abbrev pub do_while_row : CoreTrees → Blocks → ℕ → List ℕ → List (ℕ × Value) → Move
do_while_row u s n (part ∷ c ∷ []) (v ∷ values) = turns_by u s n (c ∷ []) part (cell_of v.1)
do_while_row u s n children values = Err Mismatch

-- a For whose condition has its value; else the body, or what is done after a turn, is behind it
abbrev pub for_asked : CoreTrees → Blocks → ℕ → ℕ → List ℕ → ℕ → Option (ℕ × Value) → Move
for_asked u s n c after part None = asks u s n part c
for_asked u s n c after part (Some v) = turns_by u s n after part (cell_of v.1)

-- a For whose operands are there: its condition's value, that of what it does after a turn, or none
abbrev pub for_part : CoreTrees → Blocks → ℕ → List ℕ → List ℕ → ℕ → List (ℕ × Value) → Move
for_part u s n [] after part values = does_part u (left u (Part part) s) n after part
for_part u s n (c ∷ rest) after part values = for_asked u s n c after part (find (λ v. v.0 == c) values)

-- by its condition, what it does after a turn, and its body
abbrev pub for_row : CoreTrees → Blocks → ℕ → List ℕ → List ℕ → List ℕ → List (ℕ × Value) → Move
for_row u s n condition after (part ∷ []) values = for_part u s n condition after part values
for_row u s n condition after body values = Err Mismatch

-- Switch

abbrev pub number_in : Cell → Result ℤ Reason
number_in (Number n) = Ok n
number_in Unset = Err UnsetUse
number_in cell = Err Mismatch

abbrev pub switches_to : CoreTrees → List Item → Blocks → ℕ → Option ℕ → Move
switches_to u items s n None = is_over u s n
switches_to u items s n (Some t) = Ok (jump u items s (blocks_with u n) n t)

abbrev pub switch_row : CoreTrees → List Item → Blocks → ℕ → List ℕ → List (ℕ × Value) → Move
switch_row u items s n (c ∷ part ∷ []) [] = is_over u (left u (Part part) s) n
switch_row u items s n (c ∷ part ∷ []) (v ∷ values) =
    number_in (cell_of v.1) >>= λ x. switches_to u items s n (switch_target u.nodes n x)
switch_row u items s n children values = Err Mismatch

-- jumps

-- a statement of those around a jump is left, and ends
abbrev pub breaks : CoreTrees → List Item → Blocks → ℕ → Option ℕ → Move
breaks u items s n None = Err Mismatch
breaks u items s n (Some a) = Ok (record {
  off = items_to a items;
  on = [];
  blocks = all_left u (but_for (blocks_around u n) (blocks_around u a)) s;
})

unfoldable pub break_row : CoreTrees → List Item → Blocks → ℕ → Move
break_row u items s n = breaks u items s n (nearest u.nodes (is_sought LoopOrSwitch) (above u.nodes n))

-- what stands in a loop is left, and the loop goes on
abbrev pub continues : CoreTrees → List Item → Blocks → ℕ → Option ℕ → Move
continues u items s n None = Err Mismatch
continues u items s n (Some a) = Ok (record {
  off = items_to a items;
  on = waits a (left_next (kind_at u.nodes a) (children_at u.nodes a)) ∷ [];
  blocks = all_left u (but_for (blocks_around u n) (blocks_with u a)) s;
})

unfoldable pub continue_row : CoreTrees → List Item → Blocks → ℕ → Move
continue_row u items s n = continues u items s n (nearest u.nodes (is_sought LoopAlone) (above u.nodes n))

abbrev pub goes_to : CoreTrees → List Item → Blocks → ℕ → ℕ → Option ℕ → Move
goes_to u items s n t None = Err Mismatch
goes_to u items s n t (Some a) = Ok (jump u items s (blocks_around u n) a t)

abbrev pub goto_found : CoreTrees → List Item → Blocks → ℕ → Option ℕ → Move
goto_found u items s n None = Err Mismatch
goto_found u items s n (Some t) = goes_to u items s n t (meeting u.nodes (above u.nodes n) (above u.nodes t))

unfoldable pub goto_row : CoreTrees → List Item → Blocks → ℕ → List ℕ → Move
goto_row u items s n name = goto_found u items s n (label_target u.nodes n name)

-- Return: all of the frame's items give way to the value
abbrev pub returns : List Item → Blocks → Value → Move
returns items s value = Ok (record { off = length items; on = Returned value ∷ []; blocks = s })

abbrev pub return_row : CoreTrees → List Item → Blocks → List ℕ → List (ℕ × Value) → Move
return_row u items s (v ∷ []) values =
    if lacks u values (v ∷ []) then Err UnsetUse else returns items s (value_in values v)
return_row u items s children values = Err Mismatch

-- a statement without operands
abbrev pub lone_row : CoreTrees → List Item → Blocks → ℕ → Form → List ℕ → Move
lone_row u items s n Form.Break name = break_row u items s n
lone_row u items s n Form.Continue name = continue_row u items s n
lone_row u items s n Form.Goto name = goto_row u items s n name
lone_row u items s n Form.Return name = returns items s no_value
lone_row u items s n Form.Compound name = is_over u (entered u (Own n) s) n
lone_row u items s n form name = is_done s

-- the block of a statement that is one is entered
abbrev pub opened : CoreTrees → ℕ → Bool → Blocks → Blocks
opened u n true s = entered u (Own n) s
opened u n false s = s

-- a statement that waits for operands is begun
abbrev pub waits_row : CoreTrees → Blocks → ℕ → Form → List ℕ → Move
waits_row u s n form children = goes_on (opened u n (opens form) s) (waits n (awaited form children) ∷ [])

-- a statement is begun
abbrev pub begun_row : CoreTrees → List Item → Blocks → ℕ → Form → List ℕ → List ℕ → Move
begun_row u items s n form name [] = lone_row u items s n form name
begun_row u items s n Form.Label name (part ∷ rest) = goes_on s (Do part ∷ [])
begun_row u items s n Form.DoWhile name (part ∷ rest) = does_part u (entered u (Own n) s) n rest part
begun_row u items s n form name children = waits_row u s n form children

-- all operands of a statement are there
abbrev pub finished_row : CoreTrees → List Item → Blocks → ℕ → Form → List ℕ → List (ℕ × Value) → Move
finished_row u items s n Form.Compound children values = is_over u s n
finished_row u items s n Form.If children values = if_row u s n children values
finished_row u items s n Form.While children values = while_row u s n children values
finished_row u items s n Form.DoWhile children values = do_while_row u s n children values
finished_row u items s n (Form.For condition after) children values =
    for_row u s n (condition_of condition after children) (after_of after children) (body_of children) values
finished_row u items s n Form.Switch children values = switch_row u items s n children values
finished_row u items s n Form.Return children values = return_row u items s children values
finished_row u items s n form children values = is_done s
